-- Batches of commands: what each command leaves of an arc and of a landmark, how many landmarks there are after it, and what all give.
use Rattle.std.proofs.Common.{not, ◌&&◌, ◌||◌, ◌≡◌, ◌∙◌, ℕ, zero, suc, ◌+◌, ◌-◌, ◌<◌, ◌≤◌, Bool, true, false, true≢false, cond, List, [], ◌∷◌, ◌++◌, Option, Some, None, length, get_or, set, take, drop, refl, ap, sym, subst, arith, eqb, ltb, length-append, ⊎_elim}
use Rattle.std.specs.Prelude.{◌^◌, option_map, option_and_then, is_none, nat_le}
use Rattle.std.specs.List.{filter, fold}
use Rattle.std.specs.List.Sorted.{IsStrictlyIncreasing}
use Rattle.std.proofs.lemmas.Bool.{cases_eq, cases_lt}
use Rattle.std.proofs.lemmas.Bool.Decides.{nat_tests}
use Rattle.std.proofs.lemmas.List.{take-append-drop}
use Rattle.std.proofs.lemmas.List.Elements.{All-nil, All-cons}
use Rattle.std.proofs.lemmas.List.Folds.{list_any_none}
use Rattle.std.proofs.lemmas.List.Kept.{AllPairs-from_increasing}
use Rattle.std.proofs.lemmas.List.Elements.{All-from_get_or}
use Rattle.std.proofs.lemmas.List.Sums.{fold_more, fold-append}
use Rattle.std.proofs.lemmas.List.Concat.{flat_map-cons}
use Rattle.std.proofs.Math.Seq.{drop-cons, take-suc}
use Rattle.roadnet.specs.declared.arcs.RoadArc.{RoadArc}
use Rattle.roadnet.specs.declared.commands.Command.{Command}
use Rattle.roadnet.specs.declared.commands.Command.TheVariants.{Set, Close, Reopen, Mark, Unmark, Lay}
use Rattle.roadnet.specs.declared.refusals.Refusal.{Refusal}
use Rattle.roadnet.specs.Members.{is_member, with_member, without_member}
use Rattle.roadnet.specs.Net.{Net, IsNode, IsNetwork, arc_at, nth, update_nth}
use Rattle.roadnet.specs.Step.{is_node, is_landmark, new_arc, refusal_of, step_group, after, changed, first_refusal}
use Rattle.roadnet.specs.Batches.{changed_by, changed_by_all, opened_at, changed_arcs, changed_landmarks, HasFitNumbers, RefusesOneOf, FirstRefusalIsOfTheFirst, AfterIsChanged, AfterAllIsChanged, GroupsAreTheirCommands, RefusedAsTheirCommands, AdmittedFits, AllAdmittedFit}
use Rattle.roadnet.specs.Groups.{commands_of}
use Rattle.roadnet.proofs.Kept.{update_nth_suc, nth_within, past_first, three_failed, admitted_mark, admitted_lay, within_length, IsNetwork-changed}
use Rattle.roadnet.proofs.Members.{IsStrictlyIncreasing-with_member, IsStrictlyIncreasing-without_member}
use Rattle.roadnet.proofs.Stepped.{groups_join, nth-update_nth, nth-update_nth_other, nth-added, nth-beside, is_member-with_member, is_member-with_member_other, is_member-without_member, is_member-without_member_other}

-- ---- one arc after one command

-- the item at a place that a list has is changed there
pub update_at : {X : Type 0} (f : X → X) (xs : List X) (k : ℕ) (d : X) → 1 ≤ k → k ≤ length xs → set xs (k - 1) (f (get_or xs (k - 1) d)) ≡ update_nth f xs k
update_at f xs zero d pos le = absurd (omega arith)
update_at f xs (suc k) d pos le = let e : suc k - 1 ≡ k = omega arith in rw e (sym (update_nth_suc f xs k d (omega arith)))

-- whether an arc that may be missing is open
abbrev pub is_opened : Option RoadArc → Option Bool
is_opened o = option_map (λ (arc : RoadArc). arc.opened) o

opened_elsewhere : (f : RoadArc → RoadArc) (arcs : List RoadArc) (j k : ℕ) → (j ≡ k → ⊥) → is_opened (nth (update_nth f arcs j) k) ≡ is_opened (nth arcs k)
opened_elsewhere f arcs j k ne = ap (λ (o : Option RoadArc). is_opened o) (nth-update_nth_other f arcs j k (λ e. ne (sym e)))

same_flag : (w : ℕ) (o : Option RoadArc) → is_opened (option_map (λ (arc : RoadArc). record arc { length = w }) o) ≡ is_opened o
same_flag w None = refl
same_flag w (Some arc) = refl

new_flag : (b now : Bool) (o : Option RoadArc) → is_opened o ≡ Some b → is_opened (option_map (λ (arc : RoadArc). record arc { opened = now }) o) ≡ Some now
new_flag b now None is = absurd (let absurdity : ⊥ = cc in absurdity)
new_flag b now (Some arc) is = refl

pub opened-set : (net : Net) (j w k : ℕ) → opened_at (changed net (Set j w)) k ≡ opened_at net k
opened-set net j w k =
    let f : RoadArc → RoadArc = λ (arc : RoadArc). record arc { length = w } in
    ⊎_elim
    (λ (e : j ≡ k). subst (λ (i : ℕ). is_opened (nth (update_nth f net.arcs i) k) ≡ is_opened (nth net.arcs k)) (sym e) (ap (λ (o : Option RoadArc). is_opened o) (nth-update_nth f net.arcs k) ∙ same_flag w (nth net.arcs k)))
    (λ (ne : j ≡ k → ⊥). opened_elsewhere f net.arcs j k ne)
    (cases_eq j k)

pub opened-close_other : (net : Net) (j k : ℕ) → (j ≡ k → ⊥) → opened_at (changed net (Close j)) k ≡ opened_at net k
opened-close_other net j k ne = opened_elsewhere (λ (arc : RoadArc). record arc { opened = false }) net.arcs j k ne

pub opened-reopen_other : (net : Net) (j k : ℕ) → (j ≡ k → ⊥) → opened_at (changed net (Reopen j)) k ≡ opened_at net k
opened-reopen_other net j k ne = opened_elsewhere (λ (arc : RoadArc). record arc { opened = true }) net.arcs j k ne

pub opened-close : (net : Net) (j k : ℕ) (b now : Bool) → j ≡ k → now ≡ false → opened_at net k ≡ Some b → opened_at (changed net (Close j)) k ≡ Some now
opened-close net j k b now same off is =
    let here : is_opened (nth (update_nth (λ (arc : RoadArc). record arc { opened = false }) net.arcs k) k) ≡ Some false =
    ap (λ (o : Option RoadArc). is_opened o) (nth-update_nth (λ (arc : RoadArc). record arc { opened = false }) net.arcs k) ∙ new_flag b false (nth net.arcs k) is in
    subst (λ (i : ℕ). is_opened (nth (update_nth (λ (arc : RoadArc). record arc { opened = false }) net.arcs i) k) ≡ Some now) (sym same) (here ∙ ap Some (sym off))

pub opened-reopen : (net : Net) (j k : ℕ) (b now : Bool) → j ≡ k → now ≡ true → opened_at net k ≡ Some b → opened_at (changed net (Reopen j)) k ≡ Some now
opened-reopen net j k b now same on is =
    let here : is_opened (nth (update_nth (λ (arc : RoadArc). record arc { opened = true }) net.arcs k) k) ≡ Some true =
    ap (λ (o : Option RoadArc). is_opened o) (nth-update_nth (λ (arc : RoadArc). record arc { opened = true }) net.arcs k) ∙ new_flag b true (nth net.arcs k) is in
    subst (λ (i : ℕ). is_opened (nth (update_nth (λ (arc : RoadArc). record arc { opened = true }) net.arcs i) k) ≡ Some now) (sym same) (here ∙ ap Some (sym on))

pub opened-lay : (net : Net) (t h w k : ℕ) → k ≡ length net.arcs + 1 → opened_at (changed net (Lay t h w)) k ≡ Some true
opened-lay net t h w k same = subst (λ (i : ℕ). is_opened (nth (net.arcs ++ new_arc t h w ∷ []) i) ≡ Some true) (sym same) (ap (λ (o : Option RoadArc). is_opened o) (nth-added net.arcs (new_arc t h w)))

pub opened-lay_other : (net : Net) (t h w k : ℕ) → (k ≡ length net.arcs + 1 → ⊥) → opened_at (changed net (Lay t h w)) k ≡ opened_at net k
opened-lay_other net t h w k ne = ap (λ (o : Option RoadArc). is_opened o) (nth-beside net.arcs (new_arc t h w) k ne)

-- ---- one node after one command

pub marked-mark : (net : Net) (y x : ℕ) → y ≡ x → is_landmark (changed net (Mark y)) x ≡ true
marked-mark net y x same = subst (λ (i : ℕ). is_member x (with_member i net.landmarks) ≡ true) (sym same) (is_member-with_member x net.landmarks)

pub marked-mark_other : (net : Net) (y x : ℕ) → (y ≡ x → ⊥) → is_landmark (changed net (Mark y)) x ≡ is_landmark net x
marked-mark_other net y x ne = is_member-with_member_other y x net.landmarks (λ e. ne (sym e))

pub marked-unmark : (net : Net) (y x : ℕ) → y ≡ x → is_landmark (changed net (Unmark y)) x ≡ false
marked-unmark net y x same = subst (λ (i : ℕ). is_member x (without_member i net.landmarks) ≡ false) (sym same) (is_member-without_member x net.landmarks)

pub marked-unmark_other : (net : Net) (y x : ℕ) → (y ≡ x → ⊥) → is_landmark (changed net (Unmark y)) x ≡ is_landmark net x
marked-unmark_other net y x ne = is_member-without_member_other y x net.landmarks (λ e. ne (sym e))

-- ---- how many landmarks there are after one command

test_ne : (a b : ℕ) → (a ≡ b → ⊥) → eqb a b ≡ false
test_ne a b e = grind (arith, nat_tests)

pub same_passes : (a b : ℕ) → a ≡ b → eqb a b ≡ true
same_passes a b e = grind (arith, nat_tests)

pub same_fails : (a b : ℕ) → a ≡ b → not (eqb a b) ≡ false
same_fails a b e = rw (same_passes a b e) refl

test_lt : (a b : ℕ) → a < b → ltb a b ≡ true
test_lt a b h = grind (arith, nat_tests)

test_ge : (a b : ℕ) → b ≤ a → ltb a b ≡ false
test_ge a b h = grind (arith, nat_tests)

eq_test : (a b : ℕ) → eqb a b ≡ true → a ≡ b
eq_test a b e = grind (arith, nat_tests)

ne_test : (a b : ℕ) → eqb a b ≡ false → a ≡ b → ⊥
ne_test a b e same = grind (arith, nat_tests)

neither : (a b : Bool) → (a || b) ≡ false → (a ≡ false) × (b ≡ false)
neither true b e = absurd (true≢false e)
neither false b e = (refl, e)

-- a number that is no member parts the others into those below and those above
both_parts : (x : ℕ) (xs : List ℕ) → is_member x xs ≡ false → length (filter (λ y. ltb y x) xs) + length (filter (λ y. ltb x y) xs) ≡ length xs
both_parts x [] none = omega arith
both_parts x (y ∷ ys) none =
    let split : (eqb y x ≡ false) × (is_member x ys ≡ false) = neither (eqb y x) (is_member x ys) none in
    let rest : length (filter (λ z. ltb z x) ys) + length (filter (λ z. ltb x z) ys) ≡ length ys = both_parts x ys split.1 in
    let apart : y ≡ x → ⊥ = ne_test y x split.0 in
    ⊎_elim (λ (h : y < x). rw (test_lt y x h, test_ge x y (omega arith)) (omega (arith, rest)))
    (λ (h : x ≤ y). rw (test_ge y x h, test_lt x y (omega arith)) (omega (arith, rest)))
    (cases_lt y x)

pub length-with_new : (x : ℕ) (xs : List ℕ) → is_member x xs ≡ false → length (with_member x xs) ≡ length xs + 1
length-with_new x xs none = let parts = both_parts x xs none in simp length-append (omega (arith, both_parts x xs none))

length-without_other : (x : ℕ) (xs : List ℕ) → is_member x xs ≡ false → length (without_member x xs) ≡ length xs
length-without_other x [] none = refl
length-without_other x (y ∷ ys) none =
    let split : (eqb y x ≡ false) × (is_member x ys ≡ false) = neither (eqb y x) (is_member x ys) none in
    rw split.0 (ap suc (length-without_other x ys split.1))

rest_ascends : (y : ℕ) (ys : List ℕ) → IsStrictlyIncreasing (y ∷ ys) → IsStrictlyIncreasing ys
rest_ascends y ys up k lt =
    let pair : get_or (y ∷ ys) (suc k) 0 < get_or (y ∷ ys) (suc (suc k)) 0 = AllPairs-from_increasing (y ∷ ys) up (suc k) (suc (suc k)) 0 (omega arith) (omega arith) in
    let e : k + 1 ≡ suc k = omega arith in
    rw e pair

first_once : (y : ℕ) (ys : List ℕ) → IsStrictlyIncreasing (y ∷ ys) → is_member y ys ≡ false
first_once y ys up =
    list_any_none (λ z. eqb z y) ys
    (All-from_get_or (λ z. eqb z y ≡ false) ys 0
    (λ k lt. let above : y < get_or ys k 0 = AllPairs-from_increasing (y ∷ ys) up zero (suc k) 0 (omega arith) (omega arith) in test_ne (get_or ys k 0) y (λ e. absurd (omega (arith, above, e)))))

pub length-without_old : (x : ℕ) (xs : List ℕ) → IsStrictlyIncreasing xs → is_member x xs ≡ true → length (without_member x xs) + 1 ≡ length xs
length-without_old x [] up some = absurd (true≢false (sym some))
length-without_old x (y ∷ ys) up some =
    elim (eqb y x) as (λ b. eqb y x ≡ b → (b || is_member x ys) ≡ true → length (cond (not b) (y ∷ without_member x ys) (without_member x ys)) + 1 ≡ suc (length ys)) [
      | true ↦ λ same _.
          let e : y ≡ x = eq_test y x same in
          let once : is_member x ys ≡ false = subst (λ (i : ℕ). is_member i ys ≡ false) e (first_once y ys up) in
          omega (arith, length-without_other x ys once)
      | false ↦ λ _ rest. omega (arith, length-without_old x ys (rest_ascends y ys up) rest)
    ] refl some

-- how many landmarks an admitted command leaves, of so many
abbrev pub CountChanges : Command → ℕ → ℕ → Type 0
CountChanges (Set k w) old new = new ≡ old
CountChanges (Close k) old new = new ≡ old
CountChanges (Reopen k) old new = new ≡ old
CountChanges (Mark x) old new = new ≡ old + 1
CountChanges (Unmark x) old new = new + 1 ≡ old
CountChanges (Lay t h w) old new = new ≡ old

not_false : (b : Bool) → not b ≡ false → b ≡ true
not_false true e = refl
not_false false e = absurd (true≢false e)

pub count_changes : (net : Net) (command : Command) → IsNetwork net → refusal_of net command ≡ None → CountChanges command (length net.landmarks) (length (changed net command).landmarks)
count_changes net (Set k w) ok none = refl
count_changes net (Close k) ok none = refl
count_changes net (Reopen k) ok none = refl
count_changes net (Lay t h w) ok none = refl
count_changes net (Mark x) ok none =
    let tests : (not (nat_le 1 x && nat_le x net.nodes) ≡ false) × (is_member x net.landmarks ≡ false) × (nat_le 1000 (length net.landmarks) ≡ false) = three_failed _ _ _ _ _ _ none in
    length-with_new x net.landmarks tests.1
count_changes net (Unmark x) ok none =
    let some : not (is_member x net.landmarks) ≡ false = (past_first _ _ _ (past_first _ _ _ none).1).0 in
    length-without_old x net.landmarks ok.ascending (not_false (is_member x net.landmarks) some)

-- ---- commands one after another

pub goes_on : (o rest : Option Refusal) → cond (is_none o) rest o ≡ None → (o ≡ None) × (rest ≡ None)
goes_on None rest e = (refl, e)
goes_on (Some refusal) rest e = absurd (let absurdity : ⊥ = cc in absurdity)

both_admitted : (net : Net) (xs ys : List Command) → first_refusal net xs ≡ None → first_refusal net (xs ++ ys) ≡ first_refusal (changed_by net xs) ys
both_admitted net [] ys none = refl
both_admitted net (x ∷ xs) ys none =
    let on : (refusal_of net x ≡ None) × (first_refusal (changed net x) xs ≡ None) = goes_on (refusal_of net x) (first_refusal (changed net x) xs) none in
    rw on.0 (both_admitted (changed net x) xs ys on.1)

front_admitted : (net : Net) (xs ys : List Command) → first_refusal net (xs ++ ys) ≡ None → first_refusal net xs ≡ None
front_admitted net [] ys none = refl
front_admitted net (x ∷ xs) ys none =
    let on : (refusal_of net x ≡ None) × (first_refusal (changed net x) (xs ++ ys) ≡ None) = goes_on (refusal_of net x) (first_refusal (changed net x) (xs ++ ys)) none in
    rw on.0 (front_admitted (changed net x) xs ys on.1)

split_at : (cs : List Command) (i : ℕ) (d : Command) → i < length cs → take i cs ++ get_or cs i d ∷ drop (suc i) cs ≡ cs
split_at cs i d lt = ap (λ (l : List Command). take i cs ++ l) (sym (drop-cons cs i d lt)) ∙ take-append-drop i cs

module _ (net : Net) (cs : List Command) (i : ℕ) where
  pub prefix_admitted : first_refusal net cs ≡ None → first_refusal net (take i cs) ≡ None
  prefix_admitted none = front_admitted net (take i cs) (drop i cs) (ap (first_refusal net) (take-append-drop i cs) ∙ none)

  from_here : (d : Command) → i < length cs → first_refusal net (take i cs) ≡ None → first_refusal net cs ≡ first_refusal (changed_by net (take i cs)) (get_or cs i d ∷ drop (suc i) cs)
  from_here d lt none = ap (first_refusal net) (sym (split_at cs i d lt)) ∙ both_admitted net (take i cs) (get_or cs i d ∷ drop (suc i) cs) none

  -- the first command that is refused after those before it
  pub refused_here : (d : Command) (refusal : Refusal) → i < length cs → first_refusal net (take i cs) ≡ None → refusal_of (changed_by net (take i cs)) (get_or cs i d) ≡ Some refusal → first_refusal net cs ≡ Some refusal
  refused_here d refusal lt none refused = from_here d lt none ∙ rw refused refl

  -- each command is admitted after those before it
  pub admitted_here : (d : Command) → i < length cs → first_refusal net cs ≡ None → refusal_of (changed_by net (take i cs)) (get_or cs i d) ≡ None
  admitted_here d lt none =
      (goes_on (refusal_of (changed_by net (take i cs)) (get_or cs i d)) (first_refusal (changed (changed_by net (take i cs)) (get_or cs i d)) (drop (suc i) cs)) (sym (from_here d lt (prefix_admitted none)) ∙ none)).0

  pub one_changed : (d : Command) → i < length cs → changed_by net (take (i + 1) cs) ≡ changed (changed_by net (take i cs)) (get_or cs i d)
  one_changed d lt = fold_more changed net cs i d lt

  -- one command more is admitted
  pub one_admitted : (d : Command) → i < length cs → first_refusal net (take i cs) ≡ None → refusal_of (changed_by net (take i cs)) (get_or cs i d) ≡ None → first_refusal net (take (i + 1) cs) ≡ None
  one_admitted d lt none here =
      ap (first_refusal net) (one_more cs i d lt) ∙ both_admitted net (take i cs) (get_or cs i d ∷ []) none ∙ rw here refl
    where
      one_more : (cs : List Command) (i : ℕ) (d : Command) → i < length cs → take (i + 1) cs ≡ take i cs ++ get_or cs i d ∷ []
      one_more cs i d lt = let e : i + 1 ≡ suc i = omega arith in ap (λ (n : ℕ). take n cs) e ∙ take-suc cs i d lt

pub IsNetwork-changed_by : (net : Net) (cs : List Command) → IsNetwork net → first_refusal net cs ≡ None → IsNetwork (changed_by net cs)
IsNetwork-changed_by net [] ok none = ok
IsNetwork-changed_by net (c ∷ cs) ok none =
    let on : (refusal_of net c ≡ None) × (first_refusal (changed net c) cs ≡ None) = goes_on (refusal_of net c) (first_refusal (changed net c) cs) none in
    IsNetwork-changed_by (changed net c) cs (IsNetwork-changed net c ok on.0) on.1

-- how many landmarks the i-th command leaves
pub counted : (net : Net) (cs : List Command) (i : ℕ) (d command : Command) → IsNetwork net → first_refusal net cs ≡ None → i < length cs → get_or cs i d ≡ command → CountChanges command (length (changed_by net (take i cs)).landmarks) (length (changed_by net (take (i + 1) cs)).landmarks)
counted net cs i d command ok none lt is =
    let mid : Net = changed_by net (take i cs) in
    let here : CountChanges (get_or cs i d) (length mid.landmarks) (length (changed mid (get_or cs i d)).landmarks) =
    count_changes mid (get_or cs i d) (IsNetwork-changed_by net (take i cs) ok (prefix_admitted net cs i none)) (admitted_here net cs i d lt none) in
    let more : CountChanges (get_or cs i d) (length mid.landmarks) (length (changed_by net (take (i + 1) cs)).landmarks) =
    subst (λ (n : Net). CountChanges (get_or cs i d) (length mid.landmarks) (length n.landmarks)) (sym (one_changed net cs i d lt)) here in
    subst (λ (c : Command). CountChanges c (length mid.landmarks) (length (changed_by net (take (i + 1) cs)).landmarks)) is more

pub after_is_changed : AfterIsChanged
after_is_changed net [] none = refl
after_is_changed net (c ∷ cs) none =
    let on : (refusal_of net c ≡ None) × (first_refusal (changed net c) cs ≡ None) = goes_on (refusal_of net c) (first_refusal (changed net c) cs) none in
    rw on.0 (after_is_changed (changed net c) cs on.1)

-- the first command is admitted, or refused
one_or_rest : (net : Net) (c : Command) (cs : List Command) (refusal : Refusal) → (first_refusal (changed net c) cs ≡ Some refusal → RefusesOneOf (changed net c) cs refusal) → (answer : Option Refusal) → refusal_of net c ≡ answer → cond (is_none answer) (first_refusal (changed net c) cs) answer ≡ Some refusal → RefusesOneOf net (c ∷ cs) refusal
one_or_rest net c cs refusal rest None none is =
    let later : RefusesOneOf (changed net c) cs refusal = rest is in
    record {
      front = c ∷ later.front;
      command = later.command;
      back = later.back;
      mid = later.mid;
      split = ap (λ (l : List Command). c ∷ l) later.split;
      leads = rw none later.leads;
      refuses = later.refuses;
    }
one_or_rest net c cs refusal rest (Some found) some is = record { front = []; command = c; back = cs; mid = net; split = refl; leads = refl; refuses = some ∙ is }

pub first_refusal_is_of_the_first : FirstRefusalIsOfTheFirst
first_refusal_is_of_the_first net [] refusal is = absurd (let absurdity : ⊥ = cc in absurdity)
first_refusal_is_of_the_first net (c ∷ cs) refusal is =
    one_or_rest net c cs refusal (λ later. first_refusal_is_of_the_first (changed net c) cs refusal later) (refusal_of net c) refl is

-- ---- the parts of a network after commands

nodes_same : (net : Net) (c : Command) → (changed net c).nodes ≡ net.nodes
nodes_same net (Set k w) = refl
nodes_same net (Close k) = refl
nodes_same net (Reopen k) = refl
nodes_same net (Mark x) = refl
nodes_same net (Unmark x) = refl
nodes_same net (Lay t h w) = refl

pub nodes_kept : (net : Net) (cs : List Command) → (changed_by net cs).nodes ≡ net.nodes
nodes_kept net [] = refl
nodes_kept net (c ∷ cs) = nodes_kept (changed net c) cs ∙ nodes_same net c

room_same : (net : Net) (c : Command) → (changed net c).room ≡ net.room
room_same net (Set k w) = refl
room_same net (Close k) = refl
room_same net (Reopen k) = refl
room_same net (Mark x) = refl
room_same net (Unmark x) = refl
room_same net (Lay t h w) = refl

pub room_kept : (net : Net) (cs : List Command) → (changed_by net cs).room ≡ net.room
room_kept net [] = refl
room_kept net (c ∷ cs) = room_kept (changed net c) cs ∙ room_same net c

arcs_one : (net : Net) (c : Command) → (changed net c).arcs ≡ changed_arcs net.arcs c
arcs_one net (Set k w) = refl
arcs_one net (Close k) = refl
arcs_one net (Reopen k) = refl
arcs_one net (Mark x) = refl
arcs_one net (Unmark x) = refl
arcs_one net (Lay t h w) = refl

pub arcs_all : (net : Net) (cs : List Command) → (changed_by net cs).arcs ≡ fold changed_arcs net.arcs cs
arcs_all net [] = refl
arcs_all net (c ∷ cs) = arcs_all (changed net c) cs ∙ ap (λ (arcs : List RoadArc). fold changed_arcs arcs cs) (arcs_one net c)

landmarks_one : (net : Net) (c : Command) → (changed net c).landmarks ≡ changed_landmarks net.landmarks c
landmarks_one net (Set k w) = refl
landmarks_one net (Close k) = refl
landmarks_one net (Reopen k) = refl
landmarks_one net (Mark x) = refl
landmarks_one net (Unmark x) = refl
landmarks_one net (Lay t h w) = refl

pub landmarks_all : (net : Net) (cs : List Command) → (changed_by net cs).landmarks ≡ fold changed_landmarks net.landmarks cs
landmarks_all net [] = refl
landmarks_all net (c ∷ cs) = landmarks_all (changed net c) cs ∙ ap (λ (landmarks : List ℕ). fold changed_landmarks landmarks cs) (landmarks_one net c)

pub ascends-changed : (xs : List ℕ) (c : Command) → IsStrictlyIncreasing xs → IsStrictlyIncreasing (changed_landmarks xs c)
ascends-changed xs (Set k w) up = up
ascends-changed xs (Close k) up = up
ascends-changed xs (Reopen k) up = up
ascends-changed xs (Mark x) up = IsStrictlyIncreasing-with_member x xs up
ascends-changed xs (Unmark x) up = IsStrictlyIncreasing-without_member x xs up
ascends-changed xs (Lay t h w) up = up

-- the changed parts are the changed network
pub carried : (net : Net) (cs : List Command) (nodes : ℕ) (arcs : List RoadArc) (landmarks : List ℕ) (room : ℕ) → nodes ≡ net.nodes → arcs ≡ fold changed_arcs net.arcs cs → landmarks ≡ fold changed_landmarks net.landmarks cs → room ≡ net.room → changed_by net cs ≡ record { nodes = nodes; arcs = arcs; landmarks = landmarks; room = room }
carried net cs nodes arcs landmarks room nodes_is arcs_is landmarks_is room_is =
    same_net (changed_by net cs) nodes arcs landmarks room (nodes_kept net cs ∙ sym nodes_is) (arcs_all net cs ∙ sym arcs_is) (landmarks_all net cs ∙ sym landmarks_is) (room_kept net cs ∙ sym room_is)
  where
    same_net : (mid : Net) (nodes : ℕ) (arcs : List RoadArc) (landmarks : List ℕ) (room : ℕ) → mid.nodes ≡ nodes → mid.arcs ≡ arcs → mid.landmarks ≡ landmarks → mid.room ≡ room → mid ≡ record { nodes = nodes; arcs = arcs; landmarks = landmarks; room = room }
    same_net mid nodes arcs landmarks room a b c d = rw (← a, ← b, ← c, ← d) refl

-- ---- what admitted commands name

node_to : (net : Net) (x : ℕ) → not (nat_le 1 x && nat_le x net.nodes) ≡ false → x ≤ net.nodes
node_to net x is = grind (arith, nat_tests)

arc_fits : (net : Net) (k : ℕ) → IsNetwork net → is_none (arc_at net k) ≡ false → k < 2 ^ 32
arc_fits net k ok some = omega (arith, nth_within net.arcs k some, ok.arcs_to, ok.room_to)

pub admitted_fits : AdmittedFits
admitted_fits net (Set k w) ok none =
    let first = past_first _ _ _ none in (arc_fits net k ok first.0, let long : w ≤ 2147483647 = within_length w (past_first _ _ _ first.1).0 in omega (arith, long))
admitted_fits net (Close k) ok none = arc_fits net k ok (past_first _ _ _ none).0
admitted_fits net (Reopen k) ok none = arc_fits net k ok (past_first _ _ _ none).0
admitted_fits net (Mark x) ok none = let node = admitted_mark net x none in omega (arith, node.1, ok.nodes_to)
admitted_fits net (Unmark x) ok none = omega (arith, node_to net x (past_first _ _ _ none).0, ok.nodes_to)
admitted_fits net (Lay t h w) ok none =
    let laid = admitted_lay net t h w none in (omega (arith, laid.1, ok.nodes_to), omega (arith, laid.2, ok.nodes_to), omega (arith, laid.0))

pub all_admitted_fit : AllAdmittedFit
all_admitted_fit net [] ok none = All-nil HasFitNumbers
all_admitted_fit net (c ∷ cs) ok none =
    let on : (refusal_of net c ≡ None) × (first_refusal (changed net c) cs ≡ None) = goes_on (refusal_of net c) (first_refusal (changed net c) cs) none in
    All-cons HasFitNumbers c cs (admitted_fits net c ok on.0) (all_admitted_fit (changed net c) cs (IsNetwork-changed net c ok on.0) on.1)

-- ---- what is asked of nodes

passes_node : (net : Net) (x : ℕ) → is_node net x ≡ true → IsNode net x
passes_node net x is = (grind (arith, nat_tests), grind (arith, nat_tests))

pub node_passes : (net : Net) (x : ℕ) → IsNode net x → is_node net x ≡ true
node_passes net x node = grind (arith, nat_tests)

-- what a test for a node says
pub node_is : (net : Net) (x : ℕ) (b : Bool) → (b ≡ true → IsNode net x) → (IsNode net x → b ≡ true) → is_node net x ≡ b
node_is net x true to from = node_passes net x (to refl)
node_is net x false to from = no_node (is_node net x) refl
  where
    no_node : (t : Bool) → is_node net x ≡ t → t ≡ false
    no_node true e = sym (from (passes_node net x e))
    no_node false e = refl

-- and of the network after commands
pub node_after : (net : Net) (cs : List Command) (x : ℕ) (b : Bool) → (b ≡ true → IsNode net x) → (IsNode net x → b ≡ true) → is_node (changed_by net cs) x ≡ b
node_after net cs x b to from = ap (λ (n : ℕ). nat_le 1 x && nat_le x n) (nodes_kept net cs) ∙ node_is net x b to from

-- ---- groups one after another

-- the commands of a group more
pub commands_of-cons : (g : List Command) (gs : List (List Command)) → commands_of (g ∷ gs) ≡ g ++ commands_of gs
commands_of-cons g gs = flat_map-cons (λ (group : List Command). group) g gs

changed_by-append : (net : Net) (xs ys : List Command) → changed_by net (xs ++ ys) ≡ changed_by (changed_by net xs) ys
changed_by-append net xs ys = fold-append changed net xs ys

pub changed_by_all_is : (net : Net) (gs : List (List Command)) → changed_by_all net gs ≡ changed_by net (commands_of gs)
changed_by_all_is net [] = refl
changed_by_all_is net (g ∷ gs) = changed_by_all_is (changed_by net g) gs ∙ sym (ap (changed_by net) (commands_of-cons g gs) ∙ changed_by-append net g (commands_of gs))

-- the refusal of what comes behind a front that is admitted, or of the front
front_or_rest : (net : Net) (xs ys : List Command) (answer : Option Refusal) → first_refusal net xs ≡ answer → first_refusal net (xs ++ ys) ≡ cond (is_none answer) (first_refusal (changed_by net xs) ys) answer
front_or_rest net xs ys None none = both_admitted net xs ys none
front_or_rest net xs ys (Some refusal) some = refused_front net xs some
  where
    one : (net : Net) (x : Command) (xs : List Command) → (first_refusal (changed net x) xs ≡ Some refusal → first_refusal (changed net x) (xs ++ ys) ≡ Some refusal) → (answer : Option Refusal) → refusal_of net x ≡ answer → cond (is_none answer) (first_refusal (changed net x) xs) answer ≡ Some refusal → cond (is_none answer) (first_refusal (changed net x) (xs ++ ys)) answer ≡ Some refusal
    one net x xs rest None none is = rest is
    one net x xs rest (Some found) some is = is

    refused_front : (net : Net) (xs : List Command) → first_refusal net xs ≡ Some refusal → first_refusal net (xs ++ ys) ≡ Some refusal
    refused_front net [] is = absurd (let absurdity : ⊥ = cc in absurdity)
    refused_front net (x ∷ xs) is = one net x xs (λ later. refused_front (changed net x) xs later) (refusal_of net x) refl is

pub refused_as_their_commands : RefusedAsTheirCommands
refused_as_their_commands net [] = refl
refused_as_their_commands net (g ∷ gs) =
    ap (λ (o : Option Refusal). cond (is_none (first_refusal net g)) o (first_refusal net g)) (refused_as_their_commands (changed_by net g) gs)
    ∙ sym (ap (first_refusal net) (commands_of-cons g gs) ∙ front_or_rest net g (commands_of gs) (first_refusal net g) refl)

then_rest : (gs : List (List Command)) → ((net : Net) → after net gs ≡ step_group net (commands_of gs)) → (o : Option Net) → option_and_then (λ next. after next gs) o ≡ option_and_then (λ next. step_group next (commands_of gs)) o
then_rest gs rest None = refl
then_rest gs rest (Some next) = rest next

pub groups_are_their_commands : GroupsAreTheirCommands
groups_are_their_commands net [] = refl
groups_are_their_commands net (g ∷ gs) =
    then_rest gs (λ next. groups_are_their_commands next gs) (step_group net g) ∙ sym (ap (step_group net) (commands_of-cons g gs) ∙ groups_join net g (commands_of gs))

pub after_all_is_changed : AfterAllIsChanged
after_all_is_changed net gs none =
    groups_are_their_commands net gs
    ∙ (after_is_changed net (commands_of gs) (sym (refused_as_their_commands net gs) ∙ none) ∙ ap Some (sym (changed_by_all_is net gs)))

-- the parts that groups change are the changed network
pub carried_all : (net : Net) (gs : List (List Command)) (nodes : ℕ) (arcs : List RoadArc) (landmarks : List ℕ) (room : ℕ) → nodes ≡ net.nodes → arcs ≡ fold changed_arcs net.arcs (commands_of gs) → landmarks ≡ fold changed_landmarks net.landmarks (commands_of gs) → room ≡ net.room → changed_by_all net gs ≡ record { nodes = nodes; arcs = arcs; landmarks = landmarks; room = room }
carried_all net gs nodes arcs landmarks room nodes_is arcs_is landmarks_is room_is =
    changed_by_all_is net gs ∙ carried net (commands_of gs) nodes arcs landmarks room nodes_is arcs_is landmarks_is room_is
