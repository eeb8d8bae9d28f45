-- What reading the text of a network answers, up to a line `run`.
use Rattle.std.specs.Prelude.{◌≡◌, ℕ, Bool, List, Option, Result, Ok, Err}
use Rattle.roadnet.specs.Net.{Net}
use Rattle.dimacs.specs.declared.fault.Fault.{Fault}
use Rattle.dimacs.specs.Lines.{rows}
use Rattle.dimacs.specs.Texts.{FaultOfLines}
use Rattle.dimacs.specs.Content.{gr_text, content_of}
use Rattle.dimacs.specs.Joint.{has_run, before_run, after_run}
use Rattle.dimacs.specs.Ends.{HasLeft}

-- the network of the lines before the first line `run`, if there is one: then what follows it is left
pub record NetworkBeforeRun (text : List ℕ) (left : Option (List ℕ)) (found : Net × Bool) : Type 0 where
  pub network : content_of (before_run (rows text)) ≡ Ok found.0
  pub at_run : found.1 ≡ has_run (rows text)
  pub rest : HasLeft (after_run (rows text)) left

-- the same, or the fault of those lines
abbrev pub ReadsBeforeRun : List ℕ → Option (List ℕ) → Result (Net × Bool) Fault → Type 0
ReadsBeforeRun text left (Ok found) = NetworkBeforeRun text left found
ReadsBeforeRun text left (Err fault) = FaultOfLines gr_text text (before_run (rows text)) left fault
