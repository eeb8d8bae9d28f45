-- What a joint text is answered with, and for what it is refused.
use Rattle.std.specs.Prelude.{◌≡◌, ℕ, zero, suc, List, map, Option, None, Result, Ok, Err}
use Rattle.dimacs.specs.declared.fault.Fault.{Fault}
use Rattle.dimacs.specs.Lines.{rows}
use Rattle.dimacs.specs.Content.{gr_text, content_of}
use Rattle.dimacs.specs.Joint.{before_run, after_run}
use Rattle.dimacs.specs.Texts.{OfReader, FaultOf, FaultOfLines, content_by}
use Rattle.scripts.specs.ScriptTexts.{as_line, script_text}
use Rattle.printing.specs.declared.failed.Failed.{Failed}
use Rattle.printing.specs.declared.failed.Failed.TheVariants.{Text, Code}
use Rattle.rehearsals.specs.declared.joint.Joint.{Joint}
use Rattle.rehearsals.specs.Texts.{ScriptAfterNetwork, IsRehearsed, IsLeftOff}

-- the journal's pages of a joint text's store
abbrev pub pages_of_joint : ℕ
pages_of_joint = 64

-- what is written are the replies to the events behind `run`, on a new store of the network before it
abbrev pub IsScriptAnswered : List ℕ → Option (List ℕ) → Option (List ℕ) → Type 0
IsScriptAnswered text old new = IsRehearsed pages_of_joint None (before_run (rows text)) (after_run (rows text)) old new

-- the script behind `run` has this fault, and its lines are counted from there
pub record IsScriptRefused (text : List ℕ) (left : Option (List ℕ)) (fault : Fault) : Type 0 where
  pub script : List ℕ
  pub script_is : rows script ≡ after_run (rows text)
  pub told : FaultOf script_text script (OfReader left) fault

-- which text has which fault: the network before `run`, or, where that has none, the script behind it
abbrev pub IsTextRefused : ℕ → List ℕ → Option (List ℕ) → Fault → Type 0
IsTextRefused zero text left fault = FaultOfLines gr_text text (before_run (rows text)) left fault
IsTextRefused (suc zero) text left fault = ScriptAfterNetwork (before_run (rows text)) (IsScriptRefused text left fault)
IsTextRefused (suc (suc n)) text left fault = ⊥

-- the fault of a text is told, or the run was broken off
abbrev pub IsRehearsalRefused : List ℕ → Option (List ℕ) → Option (List ℕ) → Option (List ℕ) → Failed → Type 0
IsRehearsalRefused text left old new (Text which fault) = IsTextRefused which text left fault
IsRehearsalRefused text left old new (Code refusal) = IsLeftOff pages_of_joint None (before_run (rows text)) (after_run (rows text)) old new (Code refusal)

-- WHAT READING IT GIVES

-- the network and the events that the text gives
pub record SaysJoint (text : List ℕ) (joint : Joint) : Type 0 where
  pub network_is : content_of (before_run (rows text)) ≡ Ok joint.network
  pub script_is : content_by script_text (after_run (rows text)) ≡ Ok (map as_line joint.events.items)

abbrev pub ReadsJoint : List ℕ → Option (List ℕ) → Result Joint Failed → Type 0
ReadsJoint text left (Ok joint) = SaysJoint text joint
ReadsJoint text left (Err (Text which fault)) = IsTextRefused which text left fault
ReadsJoint text left (Err (Code refusal)) = ⊥
