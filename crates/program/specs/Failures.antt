-- What a server says of failures.
use Rattle.std.specs.Prelude.{Bool, true, false, Result, Ok, Err}
use Rattle.roadnet.specs.declared.refusals.Refusal.TheVariants.{HistoryFull}
use Rattle.printing.specs.declared.failed.Failed.{Failed}
use Rattle.printing.specs.declared.failed.Failed.TheVariants.{Code}

-- what a server comes to: what its session failed with; else that it is to be started again, where it took nearly all commands of a life (62); else this
abbrev pub server_outcome : {X T : Type 0} → Result X Failed → Bool → T → Result T Failed
server_outcome (Err failed) spent done = Err failed
server_outcome (Ok x) true done = Err (Code HistoryFull)
server_outcome (Ok x) false done = Ok done
