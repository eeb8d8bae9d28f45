-- Which arcs groups change: those that they name, and those that they lay.
use Rattle.std.proofs.Common.{◌≡◌, ◌⊎◌, ◌∙◌, ℕ, zero, suc, ◌+◌, ◌<◌, ◌≤◌, List, [], ◌∷◌, ◌++◌, Option, Some, None, length, get_or, take, slice_get, refl, inl, inr, ap, sym, subst, arith, append-nil, ⊎_elim, Contains}
use Rattle.std.specs.List.{flat_map}
use Rattle.std.specs.Prelude.{option_and_then}
use Rattle.std.proofs.lemmas.Bool.{cases_eq, cases_lt}
use Rattle.std.proofs.lemmas.List.{take_more}
use Rattle.std.proofs.lemmas.List.Concat.{flat_map-append}
use Rattle.std.proofs.lemmas.List.Elements.{Contains-append_left, Contains-append_right, Contains-append_cases}
use Rattle.roadnet.specs.declared.arcs.RoadArc.{RoadArc}
use Rattle.roadnet.specs.declared.commands.Command.{Command}
use Rattle.roadnet.specs.declared.commands.Command.TheVariants.{Set, Close, Reopen, Mark, Unmark, Lay}
use Rattle.roadnet.specs.Changes.{Changes}
use Rattle.roadnet.specs.Net.{Net, arc_at, nth}
use Rattle.roadnet.specs.Step.{step, step_group, after}
use Rattle.roadnet.proofs.Stepped.{step_changes}
use Rattle.snapshot.specs.Blocks.{DiffersOnlyAt}
use Rattle.snapshot.specs.Changes.{named_by}

-- an arc of the older network is named, or it is the same in the newer one, which has no fewer arcs
abbrev Stays : List ℕ → Net → Net → ℕ → Type 0
Stays numbers old new k = (Contains numbers k ⊎ (arc_at new k ≡ arc_at old k)) × (length old.arcs ≤ length new.arcs)

stays_then : (xs ys : List ℕ) (first second third : Net) (k : ℕ) → Stays xs first second k → Stays ys second third k → Stays (xs ++ ys) first third k
stays_then xs ys first second third k one two = (
  ⊎_elim
      (λ (c : Contains xs k). inl (Contains-append_left xs ys k c))
      (λ (e : arc_at second k ≡ arc_at first k).
      ⊎_elim
      (λ (c : Contains ys k). inl (Contains-append_right xs ys k c))
      (λ (e' : arc_at third k ≡ arc_at second k). inr (e' ∙ e))
      two.0)
      one.0,
  omega (arith, one.1, two.1),
)

named_or : {P : Type 0} (k j : ℕ) → ((j ≡ k → ⊥) → P) → Contains (k ∷ []) j ⊎ P
named_or k j others = ⊎_elim (λ (e : j ≡ k). inl (0, omega arith, sym e)) (λ (ne : j ≡ k → ⊥). inr (others ne)) (cases_eq j k)

stays_changed : (command : Command) (old new : Net) (k : ℕ) → Changes old command new → k ≤ length old.arcs → Stays (named_by command) old new k
stays_changed (Set j w) old new k changes h = (named_or j k (λ ne. changes.others k ne), omega (arith, changes.count))
stays_changed (Close j) old new k changes h = (named_or j k (λ ne. changes.others k ne), omega (arith, changes.count))
stays_changed (Reopen j) old new k changes h = (named_or j k (λ ne. changes.others k ne), omega (arith, changes.count))
stays_changed (Mark x) old new k changes h = (inr (ap (λ (arcs : List RoadArc). nth arcs k) changes.arcs), omega (arith, ap length changes.arcs))
stays_changed (Unmark x) old new k changes h = (inr (ap (λ (arcs : List RoadArc). nth arcs k) changes.arcs), omega (arith, ap length changes.arcs))
stays_changed (Lay t head w) old new k changes h = (inr (changes.others k h), omega (arith, changes.count))

stays_same : (old new : Net) (k : ℕ) → Some old ≡ Some new → Stays [] old new k
stays_same old new k made =
    let e : old ≡ new = cc in
    (inr (ap (λ (net : Net). arc_at net k) (sym e)), omega (arith, ap (λ (net : Net). length net.arcs) e))

-- one step more in front of others
stays_more : (xs ys : List ℕ) (old new : Net) (k : ℕ) (rest : Net → Option Net) (next : Option Net) → ((between : Net) → next ≡ Some between → Stays xs old between k) → ((between : Net) → rest between ≡ Some new → k ≤ length between.arcs → Stays ys between new k) → option_and_then rest next ≡ Some new → k ≤ length old.arcs → Stays (xs ++ ys) old new k
stays_more xs ys old new k rest None first others made h = absurd (let absurdity : ⊥ = cc in absurdity)
stays_more xs ys old new k rest (Some between) first others made h =
    let one = first between refl in
    stays_then xs ys old between new k one (others between made (omega (arith, h, one.1)))

stays_group : (commands : List Command) (old new : Net) (k : ℕ) → step_group old commands ≡ Some new → k ≤ length old.arcs → Stays (flat_map named_by commands) old new k
stays_group [] old new k made h = stays_same old new k made
stays_group (command ∷ commands) old new k made h =
    stays_more (named_by command) (flat_map named_by commands) old new k (λ net. step_group net commands) (step old command) (λ between e. stays_changed command old between k (step_changes old between command e).1 h) (λ between e le. stays_group commands between new k e le) made h

abbrev pub named_in : List Command → List ℕ
named_in commands = flat_map named_by commands

stays_after : (groups : List (List Command)) (old new : Net) (k : ℕ) → after old groups ≡ Some new → k ≤ length old.arcs → Stays (flat_map named_in groups) old new k
stays_after [] old new k made h = stays_same old new k made
stays_after (group ∷ groups) old new k made h =
    stays_more (named_in group) (flat_map named_in groups) old new k (λ net. after net groups) (step_group old group) (λ between e. stays_group group old between k e h) (λ between e le. stays_after groups between new k e le) made h

past : (arcs : List RoadArc) (k : ℕ) → length arcs ≤ k → slice_get arcs k ≡ None
past [] zero h = refl
past [] (suc k) h = refl
past (arc ∷ arcs) zero h = absurd (omega arith)
past (arc ∷ arcs) (suc k) h = past arcs k (omega arith)

beyond : (arcs : List RoadArc) (k : ℕ) → length arcs < k → nth arcs k ≡ None
beyond arcs zero h = absurd (omega arith)
beyond arcs (suc k) h = past arcs k (omega arith)

-- what is not among the numbers of named and laid arcs is the same in both
pub differs_only : (old new : Net) (groups : List (List Command)) (numbers : List ℕ) → length old.arcs < 4294967296 → after old groups ≡ Some new → ((k : ℕ) → k < 4294967296 → Contains (flat_map named_in groups) k → Contains numbers k) → ((k : ℕ) → length old.arcs < k → k ≤ length new.arcs → Contains numbers k) → DiffersOnlyAt numbers old new
differs_only old new groups numbers few made named laid k =
    ⊎_elim
    (λ (gt : length old.arcs < k).
    ⊎_elim
    (λ (out : length new.arcs < k). inr (beyond new.arcs k out ∙ sym (beyond old.arcs k gt)))
    (λ (le : k ≤ length new.arcs). inl (laid k gt le))
    (cases_lt (length new.arcs) k))
    (λ (le : k ≤ length old.arcs).
    ⊎_elim
    (λ (c : Contains (flat_map named_in groups) k). inl (named k (omega (arith, few, le)) c))
    (λ (e : arc_at new k ≡ arc_at old k). inr e)
    (stays_after groups old new k made le).0)
    (cases_lt (length old.arcs) k)

-- what one item more gives
pub one_more : {X : Type 0} (f : X → List ℕ) (xs : List X) (i : ℕ) (d : X) (k : ℕ) → i < length xs → Contains (flat_map f (take (i + 1) xs)) k → Contains (flat_map f (take i xs)) k ⊎ Contains (f (get_or xs i d)) k
one_more f xs i d k h c =
    let split : flat_map f (take (i + 1) xs) ≡ flat_map f (take i xs) ++ f (get_or xs i d) = ap (flat_map f) (take_more xs i d h) ∙ (flat_map-append f (take i xs) (get_or xs i d ∷ []) ∙ ap (λ (l : List ℕ). flat_map f (take i xs) ++ l) (append-nil (f (get_or xs i d)))) in
    Contains-append_cases (flat_map f (take i xs)) (f (get_or xs i d)) k (subst (λ (l : List ℕ). Contains l k) split c)
