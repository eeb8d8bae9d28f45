-- What a command does to the fields of a network.
use Rattle.std.proofs.Common.{not, ◌&&◌, ◌∙◌, true≢false, ◌≡◌, ℕ, zero, suc, ◌-◌, ◌<◌, ◌≤◌, Bool, true, false, cond, List, [], ◌∷◌, ◌++◌, Option, Some, None, length, get_or, set, refl, ap, sym, subst, arith, ltb, length-append}
use Rattle.std.specs.Prelude.{nat_le, is_none, option_and_then}
use Rattle.std.specs.List.{slice_get, All}
use Rattle.std.proofs.lemmas.List.Elements.{All-nil, All-cons, All-append, All-head, All-tail}
use Rattle.std.proofs.lemmas.Bool.Decides.{nat_tests}
use Rattle.roadnet.specs.declared.arcs.RoadArc.{RoadArc}
use Rattle.roadnet.specs.declared.commands.Command.{Command}
use Rattle.roadnet.specs.declared.commands.Command.TheVariants.{Set, Close, Reopen, Mark, Unmark, Lay}
use Rattle.roadnet.specs.Members.{is_member, with_member, without_member}
use Rattle.roadnet.specs.declared.refusals.Refusal.{Refusal}
use Rattle.roadnet.specs.Net.{Net, IsNetwork, IsArcAmong, nth, update_nth}
use Rattle.roadnet.specs.Step.{is_node, new_arc, refusal_of, step, step_group, changed, after}
use Rattle.roadnet.specs.Changes.{GroupGivesNetwork, AfterIsNetwork}
use Rattle.roadnet.proofs.Members.{length-with_member, All-with_member, All-without_member, IsStrictlyIncreasing-with_member, IsStrictlyIncreasing-without_member, length-without_member}

pub update_nth_suc : {X : Type 0} (f : X → X) (xs : List X) (k : ℕ) (d : X) → k < length xs → update_nth f xs (suc k) ≡ set xs k (f (get_or xs k d))
update_nth_suc f [] k d lt = absurd (omega arith)
update_nth_suc f (x ∷ xs) zero d lt = refl
update_nth_suc f (x ∷ xs) (suc k) d lt = ap (λ l. x ∷ l) (update_nth_suc f xs k d (omega arith))

pub update_nth_at : {X : Type 0} (f : X → X) (xs : List X) (k : ℕ) (x : X) → 0 < k → k ≤ length xs → x ≡ get_or xs (k - 1) x → update_nth f xs k ≡ set xs (k - 1) (f x)
update_nth_at f xs zero x pos le is = absurd (omega arith)
update_nth_at f xs (suc k) x pos le is =
    let e : suc k - 1 ≡ k = omega arith in
    let here : get_or xs k x ≡ x = rw e at (sym is) in
    rw e (update_nth_suc f xs k x (omega arith) ∙ ap (λ y. set xs k (f y)) here)

pub nth_within : {X : Type 0} (xs : List X) (k : ℕ) → is_none (nth xs k) ≡ false → (0 < k) × (k ≤ length xs)
nth_within xs zero some = absurd (true≢false some)
nth_within xs (suc k) some = (omega arith, slice_get_within xs k some)
  where
    slice_get_within : {X : Type 0} (xs : List X) (k : ℕ) → is_none (slice_get xs k) ≡ false → suc k ≤ length xs
    slice_get_within [] k some = absurd (true≢false some)
    slice_get_within (x ∷ xs) zero some = omega arith
    slice_get_within (x ∷ xs) (suc k) some = let h : suc k ≤ length xs = slice_get_within xs k some in omega arith

-- what is left once the first test has failed
pub past_first : {X : Type 0} (b : Bool) (x : X) (o : Option X) → cond b (Some x) o ≡ None → (b ≡ false) × (o ≡ None)
past_first true x o e = cc
past_first false x o e = (refl, e)

pub step_admitted : (net : Net) (command : Command) → refusal_of net command ≡ None → step net command ≡ Some (changed net command)
step_admitted net command none = rw none refl

module _ (net : Net) (k : ℕ) (arc : RoadArc) (is : arc ≡ get_or net.arcs (k - 1) arc) where
  changed_at : (f : RoadArc → RoadArc) → is_none (nth net.arcs k) ≡ false → update_nth f net.arcs k ≡ set net.arcs (k - 1) (f arc)
  changed_at f some = let within : (0 < k) × (k ≤ length net.arcs) = nth_within net.arcs k some in update_nth_at f net.arcs k arc within.0 within.1 is

  pub step-set : (w : ℕ) → refusal_of net (Set k w) ≡ None → step net (Set k w) ≡ Some (record net { arcs = set net.arcs (k - 1) (record arc { length = w }) })
  step-set w none =
      step_admitted net (Set k w) none ∙ ap (λ l. Some (record net { arcs = l })) (changed_at (λ a. record a { length = w }) (past_first _ _ _ none).0)

  pub step-close : refusal_of net (Close k) ≡ None → step net (Close k) ≡ Some (record net { arcs = set net.arcs (k - 1) (record arc { opened = false }) })
  step-close none =
      step_admitted net (Close k) none ∙ ap (λ l. Some (record net { arcs = l })) (changed_at (λ a. record a { opened = false }) (past_first _ _ _ none).0)

  pub step-reopen : refusal_of net (Reopen k) ≡ None → step net (Reopen k) ≡ Some (record net { arcs = set net.arcs (k - 1) (record arc { opened = true }) })
  step-reopen none =
      step_admitted net (Reopen k) none ∙ ap (λ l. Some (record net { arcs = l })) (changed_at (λ a. record a { opened = true }) (past_first _ _ _ none).0)

pub three_failed : {X : Type 0} (a b c : Bool) (x y z : X) → cond a (Some x) (cond b (Some y) (cond c (Some z) None)) ≡ None → (a ≡ false) × (b ≡ false) × (c ≡ false)
three_failed true b c x y z e = cc
three_failed false true c x y z e = cc
three_failed false false true x y z e = cc
three_failed false false false x y z e = (refl, refl, refl)

-- what is known of a node that may be marked
pub admitted_mark : (net : Net) (x : ℕ) → refusal_of net (Mark x) ≡ None → (1 ≤ x) × (x ≤ net.nodes) × (length net.landmarks < 1000)
admitted_mark net x none =
    let tests : (not (nat_le 1 x && nat_le x net.nodes) ≡ false) × (is_member x net.landmarks ≡ false) × (nat_le 1000 (length net.landmarks) ≡ false) = three_failed _ _ _ _ _ _ none in
    let node : not (nat_le 1 x && nat_le x net.nodes) ≡ false = tests.0 in
    let few : nat_le 1000 (length net.landmarks) ≡ false = tests.2 in
    grind (arith, nat_tests)

pub IsNetwork-mark : (net : Net) (x : ℕ) → IsNetwork net → refusal_of net (Mark x) ≡ None → IsNetwork (record net { landmarks = with_member x net.landmarks })
IsNetwork-mark net x ok none =
    let in_range : (1 ≤ x) × (x ≤ net.nodes) × (length net.landmarks < 1000) = admitted_mark net x none in
    record {
      some_node = ok.some_node;
      nodes_to = ok.nodes_to;
      arcs_to = ok.arcs_to;
      room_to = ok.room_to;
      each_arc = ok.each_arc;
      each_landmark = All-with_member (λ y. (1 ≤ y) × (y ≤ net.nodes)) x net.landmarks (in_range.0, in_range.1) ok.each_landmark;
      ascending = IsStrictlyIncreasing-with_member x net.landmarks ok.ascending;
      landmarks_to = omega (arith, length-with_member x net.landmarks);
    }

pub IsNetwork-unmark : (net : Net) (x : ℕ) → IsNetwork net → IsNetwork (record net { landmarks = without_member x net.landmarks })
IsNetwork-unmark net x ok = record {
  some_node = ok.some_node;
  nodes_to = ok.nodes_to;
  arcs_to = ok.arcs_to;
  room_to = ok.room_to;
  each_arc = ok.each_arc;
  each_landmark = All-without_member (λ y. (1 ≤ y) × (y ≤ net.nodes)) x net.landmarks ok.each_landmark;
  ascending = IsStrictlyIncreasing-without_member x net.landmarks ok.ascending;
  landmarks_to = omega (arith, length-without_member x net.landmarks, ok.landmarks_to);
}

-- ---- every step gives a network

All-update_nth : {X : Type 0} (P : X → Type 0) (f : X → X) → ((x : X) → P x → P (f x)) → (xs : List X) (k : ℕ) → All P xs → All P (update_nth f xs k)
All-update_nth P f keeps xs zero all = all
All-update_nth P f keeps [] (suc k) all = all
All-update_nth P f keeps (x ∷ xs) (suc zero) all = All-cons P (f x) xs (keeps x (All-head P x xs all)) (All-tail P x xs all)
All-update_nth P f keeps (x ∷ xs) (suc (suc k)) all = All-cons P x (update_nth f xs (suc k)) (All-head P x xs all) (All-update_nth P f keeps xs (suc k) (All-tail P x xs all))

length-update_nth : {X : Type 0} (f : X → X) (xs : List X) (k : ℕ) → length (update_nth f xs k) ≡ length xs
length-update_nth f xs zero = refl
length-update_nth f [] (suc k) = refl
length-update_nth f (x ∷ xs) (suc zero) = refl
length-update_nth f (x ∷ xs) (suc (suc k)) = ap suc (length-update_nth f xs (suc k))

IsNetwork-arc : (net : Net) (k : ℕ) (f : RoadArc → RoadArc) → IsNetwork net → ((arc : RoadArc) → IsArcAmong net.nodes arc → IsArcAmong net.nodes (f arc)) → IsNetwork (record net { arcs = update_nth f net.arcs k })
IsNetwork-arc net k f ok keeps = record {
  some_node = ok.some_node;
  nodes_to = ok.nodes_to;
  arcs_to = omega (arith, length-update_nth f net.arcs k, ok.arcs_to);
  room_to = ok.room_to;
  each_arc = All-update_nth (IsArcAmong net.nodes) f keeps net.arcs k ok.each_arc;
  each_landmark = ok.each_landmark;
  ascending = ok.ascending;
  landmarks_to = ok.landmarks_to;
}

pub within_length : (w : ℕ) → ltb 2147483647 w ≡ false → w ≤ 2147483647
within_length w e = grind (arith, nat_tests)

both_true : (a b : Bool) → not (a && b) ≡ false → (a ≡ true) × (b ≡ true)
both_true true true e = (refl, refl)
both_true true false e = absurd (true≢false e)
both_true false b e = absurd (true≢false e)

node_bounds : (nodes x : ℕ) → (nat_le 1 x && nat_le x nodes) ≡ true → (1 ≤ x) × (x ≤ nodes)
node_bounds nodes x e = (grind (arith, nat_tests), grind (arith, nat_tests))

below_room : (room count : ℕ) → nat_le room count ≡ false → count < room
below_room room count e = grind (arith, nat_tests)

-- what is known of an arc that may be laid
pub admitted_lay : (net : Net) (t h w : ℕ) → refusal_of net (Lay t h w) ≡ None → (w ≤ 2147483647) × ((1 ≤ t) × (t ≤ net.nodes)) × ((1 ≤ h) × (h ≤ net.nodes)) × (length net.arcs < net.room)
admitted_lay net t h w none =
    let tests : (ltb 2147483647 w ≡ false) × (not (is_node net t && is_node net h) ≡ false) × (nat_le net.room (length net.arcs) ≡ false) = three_failed _ _ _ _ _ _ none in
    let ends : (is_node net t ≡ true) × (is_node net h ≡ true) = both_true (is_node net t) (is_node net h) tests.1 in
    (within_length w tests.0, node_bounds net.nodes t ends.0, node_bounds net.nodes h ends.1, below_room net.room (length net.arcs) tests.2)

pub IsNetwork-lay : (net : Net) (t h w : ℕ) → IsNetwork net → refusal_of net (Lay t h w) ≡ None → IsNetwork (record net { arcs = net.arcs ++ new_arc t h w ∷ [] })
IsNetwork-lay net t h w ok none =
    let laid : (w ≤ 2147483647) × ((1 ≤ t) × (t ≤ net.nodes)) × ((1 ≤ h) × (h ≤ net.nodes)) × (length net.arcs < net.room) = admitted_lay net t h w none in
    let one : IsArcAmong net.nodes (new_arc t h w) = record { tail_from = laid.1.0; tail_to = laid.1.1; head_from = laid.2.0; head_to = laid.2.1; length_to = laid.0 } in
    record {
      some_node = ok.some_node;
      nodes_to = ok.nodes_to;
      arcs_to = omega (arith, length-append net.arcs (new_arc t h w ∷ []), laid.3);
      room_to = ok.room_to;
      each_arc = All-append (IsArcAmong net.nodes) net.arcs (new_arc t h w ∷ []) ok.each_arc (All-cons (IsArcAmong net.nodes) (new_arc t h w) [] one (All-nil (IsArcAmong net.nodes)));
      each_landmark = ok.each_landmark;
      ascending = ok.ascending;
      landmarks_to = ok.landmarks_to;
    }

pub IsNetwork-changed : (net : Net) (command : Command) → IsNetwork net → refusal_of net command ≡ None → IsNetwork (changed net command)
IsNetwork-changed net (Set k w) ok none =
    let long : w ≤ 2147483647 = within_length w (past_first _ _ _ (past_first _ _ _ none).1).0 in
    IsNetwork-arc net k (λ arc. record arc { length = w }) ok (λ arc a. record { tail_from = a.tail_from; tail_to = a.tail_to; head_from = a.head_from; head_to = a.head_to; length_to = long })
IsNetwork-changed net (Close k) ok none = IsNetwork-arc net k (λ arc. record arc { opened = false }) ok (λ arc a. record { tail_from = a.tail_from; tail_to = a.tail_to; head_from = a.head_from; head_to = a.head_to; length_to = a.length_to })
IsNetwork-changed net (Reopen k) ok none = IsNetwork-arc net k (λ arc. record arc { opened = true }) ok (λ arc a. record { tail_from = a.tail_from; tail_to = a.tail_to; head_from = a.head_from; head_to = a.head_to; length_to = a.length_to })
IsNetwork-changed net (Mark x) ok none = IsNetwork-mark net x ok none
IsNetwork-changed net (Unmark x) ok none = IsNetwork-unmark net x ok
IsNetwork-changed net (Lay t h w) ok none = IsNetwork-lay net t h w ok none

group_changed : (old new : Net) (command : Command) (commands : List Command) → (refusal_of old command ≡ None → step_group (changed old command) commands ≡ Some new → IsNetwork new) → (answer : Option Refusal) → refusal_of old command ≡ answer → option_and_then (λ next. step_group next commands) (cond (is_none answer) (Some (changed old command)) None) ≡ Some new → IsNetwork new
group_changed old new command commands rest None none is = rest none is
group_changed old new command commands rest (Some refusal) some is = absurd (let absurdity : ⊥ = cc in absurdity)

pub group_gives_network : GroupGivesNetwork
group_gives_network old new [] ok is = let same : old ≡ new = cc in subst IsNetwork same ok
group_gives_network old new (command ∷ commands) ok is =
    group_changed old new command commands (λ none later. group_gives_network (changed old command) new commands (IsNetwork-changed old command ok none) later) (refusal_of old command) refl is

after_one : (new : Net) (groups : List (List Command)) (o : Option Net) → ((mid : Net) → o ≡ Some mid → after mid groups ≡ Some new → IsNetwork new) → option_and_then (λ next. after next groups) o ≡ Some new → IsNetwork new
after_one new groups None rest is = absurd (let absurdity : ⊥ = cc in absurdity)
after_one new groups (Some mid) rest is = rest mid refl is

pub after_is_network : AfterIsNetwork
after_is_network old new [] ok is = let same : old ≡ new = cc in subst IsNetwork same ok
after_is_network old new (group ∷ groups) ok is =
    after_one new groups (step_group old group) (λ mid first later. after_is_network mid new groups (group_gives_network old mid group ok first) later) is
