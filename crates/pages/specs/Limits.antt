-- The numbers of the format, each said here alone, with the greatest version.
use Rattle.std.specs.Prelude.{ℕ, List, codes}
pub use Rattle.roadnet.specs.Versions.{most_versions}

-- the first bytes of a store
abbrev pub magic : List ℕ
magic = codes "ROADMRK1"

-- the bytes of a page
abbrev pub page_size : ℕ
page_size = 4096

-- where the gate stands in its page: its last byte
abbrev pub gate_at : ℕ
gate_at = 4095

-- the most commands of a journal page
abbrev pub most_commands : ℕ
most_commands = 253
