-- The laws of steps.
use Rattle.std.proofs.Common.{not, ◌||◌, true≢false, ◌≡◌, ◌≢◌, ◌∙◌, ℕ, zero, suc, ◌+◌, ◌<◌, ◌≤◌, Bool, true, false, cond, List, [], ◌∷◌, ◌++◌, Option, Some, None, length, refl, ap, sym, subst, ⊎_elim, arith, eqb, ltb, length-append}
use Rattle.std.specs.Prelude.{option_map, option_and_then, is_none, MatchOption}
use Rattle.std.specs.List.{filter, slice_get}
use Rattle.std.proofs.lemmas.List.Folds.{list_any-append}
use Rattle.std.proofs.lemmas.Bool.Decides.{nat_tests}
use Rattle.std.proofs.lemmas.Bool.{cases_lt}
use Rattle.roadnet.specs.declared.arcs.RoadArc.{RoadArc}
use Rattle.roadnet.specs.declared.commands.Command.{Command}
use Rattle.roadnet.specs.declared.commands.Command.TheVariants.{Set, Close, Reopen, Mark, Unmark, Lay}
use Rattle.roadnet.specs.declared.refusals.Refusal.{Refusal}
use Rattle.roadnet.specs.Members.{is_member, with_member, without_member}
use Rattle.roadnet.specs.Net.{Net, nth, update_nth}
use Rattle.roadnet.specs.Step.{new_arc, refusal_of, step, step_group, changed, after, first_refusal}
use Rattle.roadnet.specs.Changes.{ChangesArc, AddsArc, Changes, StepChanges, AdmittedSteps, GroupsJoin, GroupAdmitted, GroupOfOne, AfterBoth}

both : (xs ys : List Command) → ((net : Net) → step_group net (xs ++ ys) ≡ option_and_then (λ next. step_group next ys) (step_group net xs)) → (o : Option Net) → option_and_then (λ next. step_group next (xs ++ ys)) o ≡ option_and_then (λ next. step_group next ys) (option_and_then (λ next. step_group next xs) o)
both xs ys rest None = refl
both xs ys rest (Some next) = rest next

pub groups_join : GroupsJoin
groups_join net [] ys = refl
groups_join net (command ∷ xs) ys = both xs ys (λ next. groups_join next xs ys) (step net command)

both_lists : (xs ys : List (List Command)) → ((net : Net) → after net (xs ++ ys) ≡ option_and_then (λ next. after next ys) (after net xs)) → (o : Option Net) → option_and_then (λ next. after next (xs ++ ys)) o ≡ option_and_then (λ next. after next ys) (option_and_then (λ next. after next xs) o)
both_lists xs ys rest None = refl
both_lists xs ys rest (Some next) = rest next

pub after_both : AfterBoth
after_both net [] ys = refl
after_both net (group ∷ xs) ys = both_lists xs ys (λ next. after_both next xs ys) (step_group net group)

-- what follows nothing more
nothing_more : (o : Option Net) → option_and_then (λ next. Some next) o ≡ o
nothing_more None = refl
nothing_more (Some net) = refl

pub group_of_one : GroupOfOne
group_of_one net command = nothing_more (step net command)

-- ---- one arc
pub nth-update_nth : {X : Type 0} (f : X → X) (xs : List X) (k : ℕ) → nth (update_nth f xs k) k ≡ option_map f (nth xs k)
nth-update_nth f xs zero = refl
nth-update_nth f [] (suc k) = refl
nth-update_nth f (x ∷ xs) (suc zero) = refl
nth-update_nth f (x ∷ xs) (suc (suc k)) = nth-update_nth f xs (suc k)

pub nth-update_nth_other : {X : Type 0} (f : X → X) (xs : List X) (k j : ℕ) → j ≢ k → nth (update_nth f xs k) j ≡ nth xs j
nth-update_nth_other f xs zero j ne = refl
nth-update_nth_other f [] (suc k) j ne = refl
nth-update_nth_other f (x ∷ xs) (suc zero) zero ne = refl
nth-update_nth_other f (x ∷ xs) (suc zero) (suc zero) ne = absurd (ne refl)
nth-update_nth_other f (x ∷ xs) (suc zero) (suc (suc j)) ne = refl
nth-update_nth_other f (x ∷ xs) (suc (suc k)) zero ne = refl
nth-update_nth_other f (x ∷ xs) (suc (suc k)) (suc zero) ne = refl
nth-update_nth_other f (x ∷ xs) (suc (suc k)) (suc (suc j)) ne = nth-update_nth_other f xs (suc k) (suc j) (λ e. ne (ap suc e))

pub length-update_nth : {X : Type 0} (f : X → X) (xs : List X) (k : ℕ) → length (update_nth f xs k) ≡ length xs
length-update_nth f xs zero = refl
length-update_nth f [] (suc k) = refl
length-update_nth f (x ∷ xs) (suc zero) = refl
length-update_nth f (x ∷ xs) (suc (suc k)) = ap suc (length-update_nth f xs (suc k))

changes_arc : (net : Net) (k : ℕ) (f : RoadArc → RoadArc) → ChangesArc net (record net { arcs = update_nth f net.arcs k }) k f
changes_arc net k f = record {
  nodes = refl;
  landmarks = refl;
  room = refl;
  count = length-update_nth f net.arcs k;
  changed = nth-update_nth f net.arcs k;
  others = λ j ne. nth-update_nth_other f net.arcs k j ne;
}

-- ---- an arc that is added
slice_get-added : {X : Type 0} (xs : List X) (x : X) → slice_get (xs ++ x ∷ []) (length xs) ≡ Some x
slice_get-added [] x = refl
slice_get-added (y ∷ ys) x = slice_get-added ys x

slice_get-beside : {X : Type 0} (xs : List X) (x : X) (k : ℕ) → k ≢ length xs → slice_get (xs ++ x ∷ []) k ≡ slice_get xs k
slice_get-beside [] x zero ne = absurd (ne refl)
slice_get-beside [] x (suc k) ne = refl
slice_get-beside (y ∷ ys) x zero ne = refl
slice_get-beside (y ∷ ys) x (suc k) ne = slice_get-beside ys x k (λ e. ne (ap suc e))

pub nth-added : {X : Type 0} (xs : List X) (x : X) → nth (xs ++ x ∷ []) (length xs + 1) ≡ Some x
nth-added xs x = let e : length xs + 1 ≡ suc (length xs) = omega arith in rw e (slice_get-added xs x)

pub nth-beside : {X : Type 0} (xs : List X) (x : X) (k : ℕ) → k ≢ length xs + 1 → nth (xs ++ x ∷ []) k ≡ nth xs k
nth-beside xs x zero ne = refl
nth-beside xs x (suc k) ne = slice_get-beside xs x k (λ e. ne (omega (arith, e)))

adds_arc : (net : Net) (arc : RoadArc) → AddsArc net (record net { arcs = net.arcs ++ arc ∷ [] }) arc
adds_arc net arc = record {
  nodes = refl;
  landmarks = refl;
  room = refl;
  count = length-append net.arcs (arc ∷ []);
  added = nth-added net.arcs arc;
  others = λ j le. nth-beside net.arcs arc j (λ e. absurd (omega (arith, le, e)));
}

-- ---- one landmark
test_eq : (a b : ℕ) → a ≡ b → eqb a b ≡ true
test_eq a b e = grind (arith, nat_tests)

test_lt : (a b : ℕ) → a < b → ltb a b ≡ true
test_lt a b h = grind (arith, nat_tests)

test_ge : (a b : ℕ) → b ≤ a → ltb a b ≡ false
test_ge a b h = grind (arith, nat_tests)

test_ne : (a b : ℕ) → (a ≡ b → ⊥) → eqb a b ≡ false
test_ne a b e = grind (arith, nat_tests)

or_true : (b c : Bool) → (b || (true || c)) ≡ true
or_true true c = refl
or_true false c = refl

or_none : (b : Bool) → (b || false) ≡ b
or_none true = refl
or_none false = refl

-- a filter by a test that x passes, or fails
is_member-filter : (p : ℕ → Bool) (x : ℕ) (xs : List ℕ) → p x ≡ true → is_member x (filter p xs) ≡ is_member x xs
is_member-filter p x [] passes = refl
is_member-filter p x (y ∷ ys) passes =
    elim (p y) as (λ b. p y ≡ b → is_member x (cond b (y ∷ filter p ys) (filter p ys)) ≡ (eqb y x || is_member x ys)) [
      | true ↦ λ _. ap (λ b. eqb y x || b) (is_member-filter p x ys passes)
      | false ↦ λ e. rw (test_ne y x (λ same. true≢false (sym passes ∙ ap p (sym same) ∙ e))) (is_member-filter p x ys passes)
    ] refl

is_member-filter_fails : (p : ℕ → Bool) (x : ℕ) (xs : List ℕ) → p x ≡ false → is_member x (filter p xs) ≡ false
is_member-filter_fails p x [] fails = refl
is_member-filter_fails p x (y ∷ ys) fails =
    elim (p y) as (λ b. p y ≡ b → is_member x (cond b (y ∷ filter p ys) (filter p ys)) ≡ false) [
      | true ↦ λ e. rw (test_ne y x (λ same. true≢false (sym e ∙ ap p same ∙ fails))) (is_member-filter_fails p x ys fails)
      | false ↦ λ _. is_member-filter_fails p x ys fails
    ] refl

pub is_member-with_member : (x : ℕ) (xs : List ℕ) → is_member x (with_member x xs) ≡ true
is_member-with_member x xs =
    list_any-append (λ y. eqb y x) (filter (λ y. ltb y x) xs) (x ∷ filter (λ y. ltb x y) xs) ∙ rw (test_eq x x refl) (or_true _ (is_member x (filter (λ y. ltb x y) xs)))

pub is_member-with_member_other : (x y : ℕ) (xs : List ℕ) → y ≢ x → is_member y (with_member x xs) ≡ is_member y xs
is_member-with_member_other x y xs ne =
    list_any-append (λ z. eqb z y) (filter (λ z. ltb z x) xs) (x ∷ filter (λ z. ltb x z) xs)
    ∙ rw (test_ne x y (λ e. ne (sym e)))
    (⊎_elim
    (λ (h : y < x). rw (is_member-filter (λ z. ltb z x) y xs (test_lt y x h), is_member-filter_fails (λ z. ltb x z) y xs (test_ge x y (omega arith))) (or_none _))
    (λ (h : x ≤ y). rw (is_member-filter_fails (λ z. ltb z x) y xs (test_ge y x h), is_member-filter (λ z. ltb x z) y xs (test_lt x y (omega arith))) refl)
    (cases_lt y x))

pub is_member-without_member_other : (x y : ℕ) (xs : List ℕ) → y ≢ x → is_member y (without_member x xs) ≡ is_member y xs
is_member-without_member_other x y xs ne = is_member-filter (λ z. not (eqb z x)) y xs (rw (test_ne y x ne) refl)

pub is_member-without_member : (x : ℕ) (xs : List ℕ) → is_member x (without_member x xs) ≡ false
is_member-without_member x xs = is_member-filter_fails (λ z. not (eqb z x)) x xs (rw (test_eq x x refl) refl)

-- ---- steps
changes : (net : Net) (command : Command) → Changes net command (changed net command)
changes net (Set k w) = changes_arc net k (λ arc. record arc { length = w })
changes net (Close k) = changes_arc net k (λ arc. record arc { opened = false })
changes net (Reopen k) = changes_arc net k (λ arc. record arc { opened = true })
changes net (Mark x) = record { nodes = refl; arcs = refl; room = refl; changed = is_member-with_member x net.landmarks; others = λ y ne. is_member-with_member_other x y net.landmarks ne }
changes net (Unmark x) = record { nodes = refl; arcs = refl; room = refl; changed = is_member-without_member x net.landmarks; others = λ y ne. is_member-without_member_other x y net.landmarks ne }
changes net (Lay t h w) = adds_arc net (new_arc t h w)

pub step_changes : StepChanges
step_changes old new command is = cases (refusal_of old command) refl is
  where
    cases : (code : Option Refusal) → refusal_of old command ≡ code → cond (is_none code) (Some (changed old command)) None ≡ Some new → (refusal_of old command ≡ None) × Changes old command new
    cases None none is = let e : changed old command ≡ new = cc in (none, subst (λ (n : Net). Changes old command n) e (changes old command))
    cases (Some refusal) some is = cc

pub admitted_steps : AdmittedSteps
admitted_steps old command none = (changed old command, rw none refl)

-- ---- commands, each in its turn
IsAfter : Net → List Command → Type 0
IsAfter net commands = MatchOption (first_refusal net commands) ((new : Net) × (step_group net commands ≡ Some new)) (λ refusal. step_group net commands ≡ None)

after_more : (net : Net) (command : Command) (commands : List Command) → IsAfter (changed net command) commands → (answer : Option Refusal) → refusal_of net command ≡ answer → IsAfter net (command ∷ commands)
unfolding IsAfter
after_more net command commands rest None none = rw none rest
after_more net command commands rest (Some refusal) some = rw some refl

pub group_admitted : GroupAdmitted
unfolding IsAfter
group_admitted net [] = (net, refl)
group_admitted net (command ∷ commands) = after_more net command commands (group_admitted (changed net command) commands) (refusal_of net command) refl
