-- Commands keep the ends of arcs.
use Rattle.std.proofs.Common.{◌≡◌, ◌∙◌, ℕ, zero, suc, true, false, cond, List, [], ◌∷◌, ◌++◌, Option, Some, None, length, slice_get, refl, ap, sym, subst, arith}
use Rattle.std.specs.Prelude.{option_and_then, is_none}
use Rattle.roadnet.specs.declared.arcs.RoadArc.{RoadArc}
use Rattle.roadnet.specs.declared.commands.Command.{Command}
use Rattle.roadnet.specs.declared.commands.Command.TheVariants.{Set, Close, Reopen, Mark, Unmark, Lay}
use Rattle.roadnet.specs.declared.refusals.Refusal.{Refusal}
use Rattle.roadnet.specs.Net.{Net, nth, update_nth}
use Rattle.roadnet.specs.Step.{new_arc, refusal_of, step_group, changed, after}
use Rattle.roadnet.specs.Ends.{KeepsEnds, EndsStay, EndsWereTheSame}

-- an arc with these ends
HasEnds : Option RoadArc → RoadArc → Type 0
HasEnds found arc = (other : RoadArc) × (found ≡ Some other) × (other.tail ≡ arc.tail) × (other.head ≡ arc.head)

-- ---- one command
ends_updated : (f : RoadArc → RoadArc) → ((arc : RoadArc) → ((f arc).tail ≡ arc.tail) × ((f arc).head ≡ arc.head)) → (arcs : List RoadArc) (k j : ℕ) (arc : RoadArc) → nth arcs j ≡ Some arc → HasEnds (nth (update_nth f arcs k) j) arc
unfolding HasEnds
ends_updated f keeps arcs zero j arc at = (arc, at, refl, refl)
ends_updated f keeps [] (suc k) j arc at = (arc, at, refl, refl)
ends_updated f keeps (a ∷ arcs) (suc k) zero arc at = absurd (let no : None ≡ Some arc = at in let absurdity : ⊥ = cc in absurdity)
ends_updated f keeps (a ∷ arcs) (suc zero) (suc zero) arc at = let same : a ≡ arc = cc in (f a, refl, (keeps a).0 ∙ ap (λ (x : RoadArc). x.tail) same, (keeps a).1 ∙ ap (λ (x : RoadArc). x.head) same)
ends_updated f keeps (a ∷ arcs) (suc zero) (suc (suc j)) arc at = (arc, at, refl, refl)
ends_updated f keeps (a ∷ arcs) (suc (suc k)) (suc zero) arc at = (arc, at, refl, refl)
ends_updated f keeps (a ∷ arcs) (suc (suc k)) (suc (suc j)) arc at = ends_updated f keeps arcs (suc k) (suc j) arc at

slice_get-more : (arcs : List RoadArc) (x : RoadArc) (k : ℕ) (arc : RoadArc) → slice_get arcs k ≡ Some arc → slice_get (arcs ++ x ∷ []) k ≡ Some arc
slice_get-more [] x k arc at = absurd (let absurdity : ⊥ = cc in absurdity)
slice_get-more (a ∷ arcs) x zero arc at = at
slice_get-more (a ∷ arcs) x (suc k) arc at = slice_get-more arcs x k arc at

nth-more : (arcs : List RoadArc) (x : RoadArc) (k : ℕ) (arc : RoadArc) → nth arcs k ≡ Some arc → nth (arcs ++ x ∷ []) k ≡ Some arc
nth-more arcs x zero arc at = at
nth-more arcs x (suc k) arc at = slice_get-more arcs x k arc at

KeepsEnds-arc : (net : Net) (k : ℕ) (f : RoadArc → RoadArc) → ((arc : RoadArc) → ((f arc).tail ≡ arc.tail) × ((f arc).head ≡ arc.head)) → KeepsEnds net (record net { arcs = update_nth f net.arcs k })
unfolding HasEnds
KeepsEnds-arc net k f keeps = record { nodes = refl; ends = ends_updated f keeps net.arcs k }

KeepsEnds-changed : (net : Net) (command : Command) → KeepsEnds net (changed net command)
KeepsEnds-changed net (Set k w) = KeepsEnds-arc net k (λ arc. record arc { length = w }) (λ arc. (refl, refl))
KeepsEnds-changed net (Close k) = KeepsEnds-arc net k (λ arc. record arc { opened = false }) (λ arc. (refl, refl))
KeepsEnds-changed net (Reopen k) = KeepsEnds-arc net k (λ arc. record arc { opened = true }) (λ arc. (refl, refl))
KeepsEnds-changed net (Mark x) = record { nodes = refl; ends = λ k arc at. (arc, at, refl, refl) }
KeepsEnds-changed net (Unmark x) = record { nodes = refl; ends = λ k arc at. (arc, at, refl, refl) }
KeepsEnds-changed net (Lay t h w) = record { nodes = refl; ends = λ k arc at. (arc, nth-more net.arcs (new_arc t h w) k arc at, refl, refl) }

-- ---- commands and groups, one after another
pub KeepsEnds-same : (net : Net) → KeepsEnds net net
KeepsEnds-same net = record { nodes = refl; ends = λ k arc at. (arc, at, refl, refl) }

pub KeepsEnds-onward : (old mid new : Net) → KeepsEnds old mid → KeepsEnds mid new → KeepsEnds old new
KeepsEnds-onward old mid new first later = record {
  nodes = later.nodes ∙ first.nodes;
  ends = λ k arc at. let one = first.ends k arc at in let two = later.ends k one.0 one.1 in (two.0, two.1, two.2 ∙ one.2, two.3 ∙ one.3);
}

group_onward : (old new : Net) (command : Command) (commands : List Command) → (step_group (changed old command) commands ≡ Some new → KeepsEnds old new) → (answer : Option Refusal) → option_and_then (λ next. step_group next commands) (cond (is_none answer) (Some (changed old command)) None) ≡ Some new → KeepsEnds old new
group_onward old new command commands rest None is = rest is
group_onward old new command commands rest (Some refusal) is = absurd (let absurdity : ⊥ = cc in absurdity)

group_keeps_ends : (old new : Net) (commands : List Command) → step_group old commands ≡ Some new → KeepsEnds old new
group_keeps_ends old new [] is = let same : old ≡ new = cc in subst (KeepsEnds old) same (KeepsEnds-same old)
group_keeps_ends old new (command ∷ commands) is =
    group_onward old new command commands (λ later. KeepsEnds-onward old (changed old command) new (KeepsEnds-changed old command) (group_keeps_ends (changed old command) new commands later)) (refusal_of old command) is

groups_onward : (old new : Net) (groups : List (List Command)) (o : Option Net) → ((mid : Net) → o ≡ Some mid → after mid groups ≡ Some new → KeepsEnds old new) → option_and_then (λ next. after next groups) o ≡ Some new → KeepsEnds old new
groups_onward old new groups None rest is = absurd (let absurdity : ⊥ = cc in absurdity)
groups_onward old new groups (Some mid) rest is = rest mid refl is

pub ends_stay : EndsStay
ends_stay old new [] is = let same : old ≡ new = cc in subst (KeepsEnds old) same (KeepsEnds-same old)
ends_stay old new (group ∷ groups) is =
    groups_onward old new groups (step_group old group) (λ mid first later. KeepsEnds-onward old mid new (group_keeps_ends old mid group first) (ends_stay mid new groups later)) is

-- ---- where no arc was added
slice_get-as_many : (arcs others : List RoadArc) (k : ℕ) (other : RoadArc) → length others ≡ length arcs → slice_get others k ≡ Some other → (arc : RoadArc) × (slice_get arcs k ≡ Some arc)
slice_get-as_many arcs [] k other many at = absurd (let absurdity : ⊥ = cc in absurdity)
slice_get-as_many [] (b ∷ others) k other many at = absurd (omega (arith, many))
slice_get-as_many (a ∷ arcs) (b ∷ others) zero other many at = (a, refl)
slice_get-as_many (a ∷ arcs) (b ∷ others) (suc k) other many at = slice_get-as_many arcs others k other (omega (arith, many)) at

nth-as_many : (arcs others : List RoadArc) (k : ℕ) (other : RoadArc) → length others ≡ length arcs → nth others k ≡ Some other → (arc : RoadArc) × (nth arcs k ≡ Some arc)
nth-as_many arcs others zero other many at = absurd (let no : None ≡ Some other = at in let absurdity : ⊥ = cc in absurdity)
nth-as_many arcs others (suc k) other many at = slice_get-as_many arcs others k other many at

pub ends_were_the_same : EndsWereTheSame
ends_were_the_same older newer keeps many = record {
  nodes = sym keeps.nodes;
  ends = λ k other at.
      let was = nth-as_many older.arcs newer.arcs k other many at in
      let is = keeps.ends k was.0 was.1 in
      let same : is.0 ≡ other = let e : Some is.0 ≡ Some other = sym is.1 ∙ at in cc in
      (was.0, was.1, sym is.2 ∙ ap (λ (x : RoadArc). x.tail) same, sym is.3 ∙ ap (λ (x : RoadArc). x.head) same);
}
