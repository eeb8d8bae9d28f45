-- Why a call on a file failed.
use Rattle.std.specs.IoError.{error_kind, raw_os_error}
use Rattle.std.specs.declared.io.Error.{Error}
use Rattle.filedisk.specs.declared.causes.Cause.{Cause}

-- the cause in an error of the system
abbrev pub cause_of : Error → Cause
cause_of error = record { kind = error_kind error; number = raw_os_error error }
