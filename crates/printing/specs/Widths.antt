-- What a call tells of how its rows were made.
use Rattle.std.specs.Prelude.{ℕ, Option}
use Rattle.printing.specs.declared.done.Done.{Done}

-- the width that was given to what searched, if one was
abbrev pub told_width : Done → Option ℕ
told_width done = done.delta

-- how many row workers were asked for, where rows are shared out
abbrev pub told_workers : Done → Option ℕ
told_workers done = done.workers
