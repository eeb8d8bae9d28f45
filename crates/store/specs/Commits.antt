-- What a commit does, in one word.
use Rattle.std.specs.Prelude.{◌≡◌, ◌≢◌, ◌+◌, ◌↔◌, true, false, ℕ, List, [], length, Some, None, option_map, Result, IfOk, IfErr, OnOk, OnErr, MatchResult}
use Rattle.disk.specs.declared.disk.Disk.{Ghosts}
use Rattle.disk.specs.Contents.{Only, Rose}
use Rattle.disk.specs.Moments.{AddsNothing}
use Rattle.roadnet.specs.declared.commands.Command.{Command}
use Rattle.roadnet.specs.declared.refusals.Refusal.{Refusal}
use Rattle.roadnet.specs.declared.refusals.Refusal.TheVariants.{Device}
use Rattle.roadnet.specs.Step.{after}
use Rattle.pagereader.specs.Outcomes.{failures_told}
use Rattle.store.specs.Committing.{MayRefuseCommit}
use Rattle.store.specs.Going.{with_page_committed}
use Rattle.store.specs.State.{StoreState, CameTidy, WhileTidy, LeavesDurableOrAfter, IsDurable, IsDurableOrAfter, commit_refusal}

-- These groups are made durable as one page of the journal, and are carried out; or the commit is refused.
pub record Commits {D : Type 0} (disk : Ghosts D) (groups : List (List Command)) (result : Result ℕ Refusal) (old new : StoreState D) : Type 0 where
  -- At Ok the groups are carried out, each counts one version, and there is one more unchecked page.
  pub version : IfOk result (λ version. (version ≡ new.version) × (version ≡ old.version + length groups))
  pub network : OnOk result (after old.network groups ≡ Some new.network)
  pub unchecked : OnOk result (new.unchecked ≡ old.unchecked + 1)
  pub works : OnOk result (new.broken ≡ false)
  pub slot : (new.slot ≡ old.slot) × (new.epoch ≡ old.epoch)
  -- A checkpoint that is going continues, and counts the page.
  pub going : OnOk result (new.going ≡ option_map with_page_committed old.going)
  pub given : new.given ≡ old.given
  pub sizes : (new.journal_pages ≡ old.journal_pages) × (new.checkpoint_pages ≡ old.checkpoint_pages)
  -- It refuses if there is a cause. If there is none, it may refuse only for lack of memory, or because the disk failed in this call.
  pub refused : MatchResult result (λ _. commit_refusal old groups ≡ None) (MayRefuseCommit (commit_refusal old groups))
  pub same : IfErr result (λ refusal. refusal ≢ Device → new ≡ old)
  pub failed : IfErr result (λ refusal. refusal ≡ Device → Rose (disk.failures old.disk) (disk.failures new.disk))
  -- The count rises by one if that is reported, and otherwise not at all: no failure goes unreported.
  pub counted : disk.failures new.disk ≡ failures_told result (disk.failures old.disk)
  pub breaks : IfErr result (λ refusal. refusal ≡ Device → new.broken ≡ true)
  pub kept : OnErr result ((new.network ≡ old.network) × (new.version ≡ old.version))
  pub kept_pages : OnErr result ((new.unchecked ≡ old.unchecked) × (new.going ≡ old.going))
  pub adds_nothing : old.broken ≡ true → AddsNothing disk.moment disk.left_since old.disk new.disk
  -- A stop during the call or after it leaves content that stands for the network before the groups, or after them.
  pub any_moment : WhileTidy disk.honest disk.content old (LeavesDurableOrAfter disk.moment disk.left_since groups old new)
  pub in_flight : WhileTidy disk.honest disk.content old ((c : List ℕ) → disk.left new.disk c → IsDurableOrAfter old groups c)
  -- If the disk failed in the call, these groups are in flight.
  pub failed_in_flight : IfErr result (λ refusal. refusal ≡ Device → new.in_flight ≡ groups)
  pub none_in_flight : OnOk result (new.in_flight ≡ [])
  -- After Ok a stop leaves only the content, which stands for the network after them.
  pub only : disk.honest old.disk → OnOk result (Only (disk.content new.disk) (disk.left new.disk))
  pub durable : CameTidy disk.honest disk.content old.given → OnOk result ((c : List ℕ) → disk.left new.disk c → IsDurable new c)
  pub honest : disk.honest new.disk ↔ disk.honest old.disk
