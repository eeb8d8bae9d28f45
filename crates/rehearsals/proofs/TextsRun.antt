-- The events of texts that were read, run on a new store of their network.
use Rattle.std.proofs.Common.{◌≡◌, ℕ, List, Option, None, Some, Result, Ok, Err, IfSome, refl, subst}
use Rattle.std.specs.Prelude.{IfErr}
use Rattle.std.specs.Io.KnownBytes.{Appends, Keeps}
use Rattle.std.proofs.KnownBytes.{Appends-kept}
use Rattle.roadnet.specs.Net.{Net}
use Rattle.roadnet.specs.declared.refusals.Refusal.{Refusal}
use Rattle.disk.specs.declared.stoppable.Pick.{Pick}
use Rattle.machine.specs.declared.events.Event.{Event}
use Rattle.machine.specs.declared.events.Replied.{Replied}
use Rattle.store.specs.Opening.{IsPassing}
use Rattle.printing.specs.Replied.{printed_replies}
use Rattle.printing.specs.declared.failed.Failed.{Failed}
use Rattle.printing.specs.declared.failed.Failed.TheVariants.{Text, Code}
use Rattle.rehearsals.specs.Rehearsed.{RepliesTo, Rehearses, IsBrokenOff}
use Rattle.rehearsals.specs.Texts.{UnwrittenOfText}
use Rattle.rehearsals.proofs.BrokenOff.{broken_off_run}

-- ---- a run, and the lines of its replies
module _ (net : Net) (pages : ℕ) (events : List (Event Pick)) (replies : List Replied) (ended : Option Refusal) (old mid new : Option (List ℕ)) (run : RepliesTo net pages events replies ended) (written : Appends old mid (printed_replies replies)) (kept : Keeps mid new) where
  pub whole_run : ended ≡ None → Rehearses net pages events None old new
  whole_run is = record { replies = replies; run = subst (RepliesTo net pages events replies) is run; written = Appends-kept old mid new (printed_replies replies) written kept }

  pub early_run : (refusal : Refusal) → ended ≡ Some refusal → IfSome ended IsPassing → IsBrokenOff net pages events old new (Code refusal)
  early_run refusal is passing =
      broken_off_run net pages events replies old new refusal (let here : IfSome (Some refusal) IsPassing = subst (λ (o : Option Refusal). IfSome o IsPassing) is passing in here)
      (subst (RepliesTo net pages events replies) is run) (Appends-kept old mid new (printed_replies replies) written kept)

-- ---- a text that was not read
pub kept_unwritten : {X W : Type 0} (r : Result X Failed) (writer : W) → IfErr r (UnwrittenOfText writer writer)
kept_unwritten (Ok done) writer = tt
kept_unwritten (Err (Text which fault)) writer = refl
kept_unwritten (Err (Code refusal)) writer = tt
