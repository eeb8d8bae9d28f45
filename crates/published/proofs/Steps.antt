-- Each step keeps what each seat has seen.
use Rattle.std.proofs.Common.{◌≡◌, ◌≢◌, ⊎_elim, ℕ, List, [], ◌∷◌, ◌++◌, set, Option, None, Some, refl, ◌∙◌, subst}
use mathlib.Core.List.{IsPrefix}
use mathlib.Core.Option.{some}
use lib.ListN.{get_elem?}
use Rattle.crossbeam_utils.specs.Register.{Admits, TurnsAt, Forks, Merges}
use Rattle.atomic_table.proofs.Lists.{at_set, at_snoc, set_again}
use Rattle.roadnet.specs.declared.groups.Group.{Group}
use Rattle.roadnet.specs.Net.{Net}
use Rattle.roadnet.specs.Step.{step_group, after}
use Rattle.roadnet.proofs.Stepped.{after_both}
use Rattle.history.specs.Origins.{Beginning}
use Rattle.history.proofs.Beginnings.{prefix_self, prefix_trans}
use Rattle.published.specs.Showing.{Showing}
use Rattle.published.specs.Rules.{SeatFollows, AllBegin, opening, last_of}

abbrev pub Keeps : Showing → List (Option Beginning) → Type 0
Keeps x = AllBegin x.shown

abbrev pub Told : Option Beginning → Showing → Showing → Option Beginning → Type 0
Told seen before after now = SeatFollows seen after.shown × (now ≡ Some after.shown)

follows_more : (seen : Option Beginning) (shown next : Beginning) → shown.origin ≡ next.origin → IsPrefix shown.groups next.groups → SeatFollows seen shown → SeatFollows seen next
follows_more None shown next same more h = tt
follows_more (Some s) shown next same more h = (h.0 ∙ same, prefix_trans s.groups shown.groups next.groups h.1 more)

-- what begins what a seat has seen begins what follows it
pub follows_on : (seen seat : Beginning) (next : Beginning) → SeatFollows (Some seen) seat → SeatFollows (Some seat) next → SeatFollows (Some seen) next
follows_on seen seat next h more = (h.0 ∙ more.0, prefix_trans seen.groups seat.groups next.groups h.1 more.1)

-- one seat sees what is then shown
pub sees : (seat : ℕ) (seen : Option Beginning) (x y : Showing) → x.shown.origin ≡ y.shown.origin → IsPrefix x.shown.groups y.shown.groups → TurnsAt Keeps seat seen x y Told
sees seat seen x y same more views h at = (
  Some y.shown,
  (λ j u e. ⊎_elim (λ (t : (j ≡ seat) × (Some y.shown ≡ u)). subst (λ (o : Option Beginning). SeatFollows o y.shown) t.1 (refl, prefix_self y.shown.groups))
      (λ (t : (j ≢ seat) × (get_elem? views j ≡ some u)). follows_more u x.shown y.shown same more (h j u t.1))
      (at_set views seat j (Some y.shown) u e)),
  (follows_more seen x.shown y.shown same more (h seat seen at), refl),
)

-- a new seat has seen nothing
pub admits : Admits Keeps None
admits x views h j seen e =
    ⊎_elim (λ (was : get_elem? views j ≡ some seen). h j seen was) (λ (none : None ≡ seen). subst (λ (o : Option Beginning). SeatFollows o x.shown) none tt) (at_snoc views None seen j e)

opening_follows : (seen : Option Beginning) (shown : Beginning) → SeatFollows seen shown → SeatFollows (opening seen) shown
opening_follows None shown h = tt
opening_follows (Some s) shown h = (h.0, (shown.groups, refl))

-- a seat names the desk to another
pub forks : (seat : ℕ) (seen : Option Beginning) → Forks Keeps seat seen seen (opening seen)
forks seat seen x views h at j u e =
    ⊎_elim (λ (was : get_elem? (set views seat seen) j ≡ some u). h j u (subst (λ (l : List (Option Beginning)). get_elem? l j ≡ some u) (set_again views seat seen at) was))
    (λ (same : opening seen ≡ u). subst (λ (o : Option Beginning). SeatFollows o x.shown) same (opening_follows seen x.shown (h seat seen at)))
    (at_snoc (set views seat seen) (opening seen) u j e)

follows_set : (seat : ℕ) (shown : Beginning) (views : List (Option Beginning)) (u : Option Beginning) → AllBegin shown views → SeatFollows u shown → AllBegin shown (set views seat u)
follows_set seat shown views u h mine j o e =
    ⊎_elim (λ (t : (j ≡ seat) × (u ≡ o)). subst (λ (p : Option Beginning). SeatFollows p shown) t.1 mine) (λ (t : (j ≢ seat) × (get_elem? views j ≡ some o)). h j o t.1) (at_set views seat j u o e)

-- a seat takes in a note
pub merges : (seat : ℕ) (seen : Option Beginning) (other : ℕ) (told : Option Beginning) → Merges Keeps seat seen other told told None
merges seat seen other told x views h at apart there =
    let mine : SeatFollows told x.shown = ⊎_elim (λ (t : (other ≡ seat) × (told ≡ told)). absurd (apart t.0)) (λ (t : (other ≢ seat) × (get_elem? views other ≡ some told)). h other told t.1) (at_set views seat other told told there) in
    follows_set other x.shown (set views seat told) None (follows_set seat x.shown views told h mine) tt

-- the last of these is what is shown in the end
pub last_applied : (first : Showing) (pending : List Showing) (next : Showing) → last_of first (pending ++ next ∷ []) ≡ next
last_applied first [] next = refl
last_applied first (x ∷ pending) next = last_applied x pending next

-- the network after a group more
pub after_more : (base net next : Net) (groups : List Group) (group : Group) → after base groups ≡ Some net → step_group net group ≡ Some next
    → after base (groups ++ group ∷ []) ≡ Some next
after_more base net next groups group here stepped = after_both base groups (group ∷ []) ∙ rw here (rw stepped refl)
