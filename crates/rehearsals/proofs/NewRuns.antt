-- A run on a new store, without its disk.
use Rattle.std.proofs.Common.{◌≡◌, ◌∙◌, ⊎_elim, inl, inr, ℕ, List, length, Option, Some, IfSome, refl, sym, ap, subst}
use Rattle.roadnet.specs.declared.groups.Group.{Group}
use Rattle.roadnet.specs.declared.refusals.Refusal.{Refusal}
use Rattle.roadnet.specs.declared.refusals.Refusal.TheVariants.{OutOfMemory, Device}
use Rattle.roadnet.specs.Net.{Net}
use Rattle.disk.specs.declared.stoppable.Pick.{Pick}
use Rattle.store.specs.Opening.{IsPassing}
use Rattle.store.specs.State.{StoreState, checkpoint_pages_of}
use Rattle.machine.specs.declared.events.Event.{Event}
use Rattle.machine.specs.declared.events.Replied.{Replied}
use Rattle.machine.specs.Machine.{Sizes, Machine}
use Rattle.machine.specs.Lives.{Turn, Ends, Whole, NoMemory, NotOpened, LivesOn}
use Rattle.keeper.specs.Keeping.{sizes_of as sizes_of_store}
use Rattle.rehearsals.specs.Rehearsed.{new_store_sizes, RepliesTo}

same_sizes : (j w j' w' : ℕ) → j ≡ j' → w ≡ w' → ◌≡◌ {A = Sizes} (record { journal_pages = j; checkpoint_pages = w }) (record { journal_pages = j'; checkpoint_pages = w' })
same_sizes j w j' w' same_j same_w = cc

-- a new store is of this network at version 0 with no page unchecked, and has so many journal pages
pub replies_to : {D : Type 0} (s : StoreState D) (stands_for : List ℕ → Net → ℕ → Type 0) (net : Net) (journal_pages : ℕ) (left : List ℕ → Type 0) (events : List (Event Pick)) (replies : List Replied) (ended : Option Refusal) (history : List Group)
    → s.checkpoint_pages ≡ checkpoint_pages_of (length net.arcs) net → s.network ≡ net → s.version ≡ 0 → s.unchecked ≡ 0 → s.journal_pages ≡ journal_pages
    → LivesOn stands_for left (sizes_of_store s) s.network s.version s.unchecked events replies ended history
    → RepliesTo net journal_pages events replies ended
replies_to s stands_for net journal_pages left events replies ended history slot network_is version_is unchecked_is pages_are run =
    let sizes : sizes_of_store s ≡ new_store_sizes s.network journal_pages = same_sizes s.journal_pages s.checkpoint_pages journal_pages (checkpoint_pages_of (length s.network.arcs) s.network) pages_are (slot ∙ sym (ap (λ (n : Net). checkpoint_pages_of (length n.arcs) n) network_is)) in
    let sized : LivesOn stands_for left (new_store_sizes s.network journal_pages) s.network s.version s.unchecked events replies ended history =
    subst (λ (z : Sizes). LivesOn stands_for left z s.network s.version s.unchecked events replies ended history) sizes run in
    let of_net : LivesOn stands_for left (new_store_sizes net journal_pages) net s.version s.unchecked events replies ended history =
    subst (λ (n : Net). LivesOn stands_for left (new_store_sizes n journal_pages) n s.version s.unchecked events replies ended history) network_is sized in
    let of_version : LivesOn stands_for left (new_store_sizes net journal_pages) net 0 s.unchecked events replies ended history =
    subst (λ (v : ℕ). LivesOn stands_for left (new_store_sizes net journal_pages) net v s.unchecked events replies ended history) version_is of_net in
    let new : LivesOn stands_for left (new_store_sizes net journal_pages) net 0 0 events replies ended history =
    subst (λ (u : ℕ). LivesOn stands_for left (new_store_sizes net journal_pages) net 0 u events replies ended history) unchecked_is of_version in
    record { history = history; last = new.last; lives = new.lives }

-- ---- for what a run ends early
passing : (o : Option Refusal) (r : Refusal) → o ≡ Some r → IsPassing r → IfSome o IsPassing
passing o r is p = subst (λ (x : Option Refusal). IfSome x IsPassing) (sym is) p

ends_passing : (first : Machine) (turns : List (Turn Pick)) (rest : List (Event Pick)) (ended : Option Refusal) (history : List Group) (last : Machine) → Ends first turns rest ended history last → IfSome ended IsPassing
ends_passing first turns rest ended history last (Whole passes all none same) = subst (λ (x : Option Refusal). IfSome x IsPassing) (sym none) tt
ends_passing first turns rest ended history last (NoMemory passes before is same) = passing ended OutOfMemory is (inl refl)
ends_passing first turns rest ended history last (NotOpened before turn mid split passes stops why same) =
    ⊎_elim (λ is. passing ended OutOfMemory is (inl refl)) (λ is. passing ended Device is (inr refl)) why

pub run_ends_passing : (net : Net) (journal_pages : ℕ) (events : List (Event Pick)) (replies : List Replied) (ended : Option Refusal) → RepliesTo net journal_pages events replies ended → IfSome ended IsPassing
run_ends_passing net journal_pages events replies ended run = ends_passing _ run.lives.turns run.lives.rest ended run.history run.last run.lives.ends
