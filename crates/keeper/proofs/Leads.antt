-- What is seen of a network at one number after a command, and that what is seen at all numbers tells the network.
use Rattle.std.proofs.Common.{◌≡◌, ◌∙◌, ℕ, zero, suc, ◌+◌, ◌<◌, ◌≤◌, Bool, true, false, true≢false, ◌||◌, List, [], ◌∷◌, ◌++◌, Option, Some, None, length, get_or, refl, ap, sym, subst, arith, eqb, ⊎_elim, length-append}
use Rattle.std.specs.Prelude.{MatchOption, is_some, option_map, unwrap_or}
use Rattle.std.specs.List.{slice_get}
use Rattle.std.specs.List.Sorted.{IsStrictlyIncreasing}
use Rattle.std.proofs.lemmas.Bool.{cases_eq, cases_lt}
use Rattle.std.proofs.lemmas.Bool.Decides.{nat_tests}
use Rattle.std.proofs.lemmas.List.Folds.{list_any_none}
use Rattle.std.proofs.lemmas.List.Kept.{AllPairs-from_increasing}
use Rattle.roadnet.specs.declared.arcs.RoadArc.{RoadArc}
use Rattle.roadnet.specs.declared.commands.Command.TheVariants.{Set, Mark, Unmark, Lay}
use Rattle.roadnet.specs.declared.groups.Group.{Group}
use Rattle.roadnet.specs.declared.refusals.Refusal.{Refusal}
use Rattle.roadnet.specs.Groups.{commands_of}
use Rattle.roadnet.specs.Members.{is_member}
use Rattle.roadnet.specs.Net.{Net, IsNetwork, arc_at, nth, update_nth, longest_arc, most_nodes}
use Rattle.roadnet.specs.Step.{after, changed, first_refusal, is_landmark, new_arc, refusal_of, step_group}
use Rattle.roadnet.specs.Batches.{changed_by_all, first_refusal_of_all}
use Rattle.roadnet.proofs.InTurn.{changed_by_all_is, groups_are_their_commands, marked-mark, marked-mark_other, marked-unmark, marked-unmark_other, nodes_kept, refused_as_their_commands, room_kept}
use Rattle.roadnet.proofs.Kept.{admitted_lay, past_first, within_length}
use Rattle.roadnet.proofs.Members.{is_member-beyond}
use Rattle.roadnet.proofs.Stepped.{group_admitted, length-update_nth, nth-added, nth-beside, nth-update_nth, nth-update_nth_other}
use Rattle.keeper.specs.declared.networks.leading.SeenPlace.{SeenPlace}
use Rattle.keeper.specs.Leading.{SeesAt}

-- ---- a command
module _ (net : Net) (k : ℕ) (seen : SeenPlace) (s : SeesAt net k seen) where
  pub see-updated : (f : RoadArc → RoadArc) (j : ℕ) (arc : Option RoadArc) → j ≡ k → arc ≡ option_map f seen.arc → SeesAt (record net { arcs = update_nth f net.arcs j }) k (record { arc = arc; marked = seen.marked; arcs = seen.arcs })
  see-updated f j arc same is = record {
    arc = subst (λ (i : ℕ). nth (update_nth f net.arcs i) k ≡ arc) (sym same) (nth-update_nth f net.arcs k ∙ (ap (option_map f) s.arc ∙ sym is));
    marked = s.marked;
    arcs = length-update_nth f net.arcs j ∙ s.arcs;
  }

  pub see-beside : (f : RoadArc → RoadArc) (j : ℕ) → (j ≡ k → ⊥) → SeesAt (record net { arcs = update_nth f net.arcs j }) k seen
  see-beside f j ne = record { arc = nth-update_nth_other f net.arcs j k (λ e. ne (sym e)) ∙ s.arc; marked = s.marked; arcs = length-update_nth f net.arcs j ∙ s.arcs }

  pub see-mark : (y : ℕ) → y ≡ k → SeesAt (changed net (Mark y)) k (record { arc = seen.arc; marked = true; arcs = seen.arcs })
  see-mark y same = record { arc = s.arc; marked = marked-mark net y k same; arcs = s.arcs }

  pub see-mark_other : (y : ℕ) → (y ≡ k → ⊥) → SeesAt (changed net (Mark y)) k seen
  see-mark_other y ne = record { arc = s.arc; marked = marked-mark_other net y k ne ∙ s.marked; arcs = s.arcs }

  pub see-unmark : (y : ℕ) → y ≡ k → SeesAt (changed net (Unmark y)) k (record { arc = seen.arc; marked = false; arcs = seen.arcs })
  see-unmark y same = record { arc = s.arc; marked = marked-unmark net y k same; arcs = s.arcs }

  pub see-unmark_other : (y : ℕ) → (y ≡ k → ⊥) → SeesAt (changed net (Unmark y)) k seen
  see-unmark_other y ne = record { arc = s.arc; marked = marked-unmark_other net y k ne ∙ s.marked; arcs = s.arcs }

  -- a length that is admitted
  pub set_within : (j w : ℕ) → refusal_of net (Set j w) ≡ None → w ≤ longest_arc
  set_within j w none = within_length w (past_first _ _ _ (past_first _ _ _ none).1).0

  -- an arc that is laid
  module _ (t h w n : ℕ) (ok : IsNetwork net) (none : refusal_of net (Lay t h w) ≡ None) (more : seen.arcs < 18446744073709551615 → n ≡ seen.arcs + 1) where
    counted : n ≡ length net.arcs + 1
    counted =
        let few : length net.arcs < net.room = (admitted_lay net t h w none).3 in
        let is : n ≡ seen.arcs + 1 = more (omega (arith, s.arcs, few, ok.room_to)) in
        omega (arith, is, s.arcs)

    counted_more : length (changed net (Lay t h w)).arcs ≡ n
    counted_more = omega (arith, length-append net.arcs (new_arc t h w ∷ []), counted)

    pub see-lay_other : (n ≡ k → ⊥) → SeesAt (changed net (Lay t h w)) k (record { arc = seen.arc; marked = seen.marked; arcs = n })
    see-lay_other ne = record { arc = nth-beside net.arcs (new_arc t h w) k (λ e. ne (counted ∙ sym e)) ∙ s.arc; marked = s.marked; arcs = counted_more }

    pub see-lay : (arc : RoadArc) → n ≡ k → (t ≤ most_nodes → h ≤ most_nodes → w ≤ longest_arc → arc ≡ new_arc t h w) → SeesAt (changed net (Lay t h w)) k (record { arc = Some arc; marked = seen.marked; arcs = n })
    see-lay arc same is =
        let fits = admitted_lay net t h w none in
        let new : arc ≡ new_arc t h w = is (omega (arith, fits.1.1, ok.nodes_to)) (omega (arith, fits.2.1, ok.nodes_to)) fits.0 in
        record {
          arc = subst (λ (i : ℕ). nth (net.arcs ++ new_arc t h w ∷ []) i ≡ Some arc) (sym counted ∙ same) (nth-added net.arcs (new_arc t h w) ∙ ap Some (sym new));
          marked = s.marked;
          arcs = counted_more;
        }

-- what is seen is all that is told of the network there
pub seen_is : (net : Net) (k : ℕ) (seen : SeenPlace) → SeesAt net k seen → seen ≡ record { arc = arc_at net k; marked = is_landmark net k; arcs = length net.arcs }
seen_is net k seen s = rw (s.arc, s.marked, s.arcs) refl

-- ---- the whole network
pub one_net : (one other : Net) → Some one ≡ Some other → one ≡ other
one_net one other same = ap (λ (net : Option Net). unwrap_or net other) same

-- at this number the networks are alike
pub record AreAlike (one other : Net) (k : ℕ) : Type 0 where
  pub arc : arc_at one k ≡ arc_at other k
  pub marked : is_landmark one k ≡ is_landmark other k
  pub arcs : length one.arcs ≡ length other.arcs

pub alike_by : (one other : Net) (k : ℕ) (a b : SeenPlace) → SeesAt one k a → SeesAt other k b → a ≡ b → AreAlike one other k
alike_by one other k a b s t same = record {
  arc = s.arc ∙ (ap (λ (x : SeenPlace). x.arc) same ∙ sym t.arc);
  marked = s.marked ∙ (ap (λ (x : SeenPlace). x.marked) same ∙ sym t.marked);
  arcs = s.arcs ∙ (ap (λ (x : SeenPlace). x.arcs) same ∙ sym t.arcs);
}

pub seen_alike : (one other : Net) (k : ℕ) (a b : SeenPlace) → SeesAt one k a → SeesAt other k b → one ≡ other → a ≡ b
seen_alike one other k a b s t same =
    seen_is one k a s ∙ (ap (λ (n : Net). record { arc = arc_at n k; marked = is_landmark n k; arcs = length n.arcs }) same ∙ sym (seen_is other k b t))

-- lists with the same items
same_items : {X : Type 0} (xs ys : List X) → length xs ≡ length ys → ((k : ℕ) → k < length xs → slice_get xs k ≡ slice_get ys k) → xs ≡ ys
same_items [] [] long each = refl
same_items [] (y ∷ ys) long each = absurd (omega (arith, long))
same_items (x ∷ xs) [] long each = absurd (omega (arith, long))
same_items (x ∷ xs) (y ∷ ys) long each =
    let first : Some x ≡ Some y = each zero (omega arith) in
    let rest : xs ≡ ys = same_items xs ys (omega (arith, long)) (λ k lt. each (suc k) (omega arith)) in
    ap (λ zs. x ∷ zs) rest ∙ ap (λ z. z ∷ ys) (ap (λ o. unwrap_or o x) first)

-- ascending lists with the same members
ascending_rest : (x : ℕ) (xs : List ℕ) → IsStrictlyIncreasing (x ∷ xs) → IsStrictlyIncreasing xs
ascending_rest x xs up k lt =
    let e : suc k + 1 ≡ suc (k + 1) = omega arith in subst (λ (n : ℕ). get_or xs k 0 < get_or (x ∷ xs) n 0) e (up (suc k) (omega arith))

above_first : (x : ℕ) (xs : List ℕ) → IsStrictlyIncreasing (x ∷ xs) → (k d : ℕ) → k < length xs → x < get_or xs k d
above_first x xs up k d lt = AllPairs-from_increasing (x ∷ xs) up zero (suc k) d (omega arith) (omega arith)

test_eq : (a b : ℕ) → a ≡ b → eqb a b ≡ true
test_eq a b e = grind (arith, nat_tests)

test_ne : (a b : ℕ) → (a ≡ b → ⊥) → eqb a b ≡ false
test_ne a b e = grind (arith, nat_tests)

-- no number up to the first is among the rest
none_below : (x z : ℕ) (xs : List ℕ) → IsStrictlyIncreasing (x ∷ xs) → z ≤ x → is_member z xs ≡ false
none_below x z xs up le = list_any_none (λ y. eqb y z) xs (λ k d lt. test_ne (get_or xs k d) z (λ e. let a = above_first x xs up k d lt in omega (arith, a, e, le)))

not_below : (x y : ℕ) (xs ys : List ℕ) → IsStrictlyIncreasing (x ∷ xs) → IsStrictlyIncreasing (y ∷ ys) → ((z : ℕ) → is_member z (x ∷ xs) ≡ is_member z (y ∷ ys)) → x < y → ⊥
not_below x y xs ys up up' same lt =
    let here : is_member x (x ∷ xs) ≡ true = rw (test_eq x x refl) refl in
    let there : is_member x (y ∷ ys) ≡ false = rw (test_ne y x (λ e. omega (arith, e, lt)), none_below y x ys up' (omega (arith, lt))) refl in
    true≢false (sym here ∙ (same x ∙ there))

same_members : (xs ys : List ℕ) → IsStrictlyIncreasing xs → IsStrictlyIncreasing ys → ((z : ℕ) → is_member z xs ≡ is_member z ys) → xs ≡ ys
same_members [] [] up up' same = refl
same_members [] (y ∷ ys) up up' same = absurd (true≢false (sym (let here : is_member y (y ∷ ys) ≡ true = rw (test_eq y y refl) refl in here) ∙ sym (same y)))
same_members (x ∷ xs) [] up up' same = absurd (true≢false (sym (let here : is_member x (x ∷ xs) ≡ true = rw (test_eq x x refl) refl in here) ∙ same x))
same_members (x ∷ xs) (y ∷ ys) up up' same =
    let first : x ≡ y = ⊎_elim (λ (lt : x < y). absurd (not_below x y xs ys up up' same lt)) (λ (le : y ≤ x). ⊎_elim (λ (lt : y < x). absurd (not_below y x ys xs up' up (λ z. sym (same z)) lt)) (λ (ge : x ≤ y). omega (arith, le, ge)) (cases_lt y x)) (cases_lt x y) in
    let up'' : IsStrictlyIncreasing (x ∷ ys) = subst (λ (z : ℕ). IsStrictlyIncreasing (z ∷ ys)) (sym first) up' in
    let both : (z : ℕ) → is_member z (x ∷ xs) ≡ is_member z (x ∷ ys) = subst (λ (w : ℕ). (z : ℕ) → is_member z (x ∷ xs) ≡ is_member z (w ∷ ys)) (sym first) same in
    let rest : (z : ℕ) → is_member z xs ≡ is_member z ys = λ z. ⊎_elim
    (λ (e : x ≡ z). none_below x z xs up (omega (arith, e)) ∙ sym (none_below x z ys up'' (omega (arith, e))))
    (λ (ne : x ≡ z → ⊥). subst (λ (b : Bool). (b || is_member z xs) ≡ (b || is_member z ys)) (test_ne x z ne) (both z))
    (cases_eq x z) in
    ap (λ w. w ∷ xs) first ∙ ap (λ zs. y ∷ zs) (same_members xs ys (ascending_rest x xs up) (ascending_rest y ys up') rest)

-- networks that are alike at all numbers up to these
pub alike_same : (one other : Net) (most : ℕ) → IsNetwork one → IsNetwork other → one.nodes ≡ other.nodes → one.room ≡ other.room → other.nodes ≤ most → length other.arcs ≤ most → ((k : ℕ) → k < most + 1 → AreAlike one other k) → one ≡ other
alike_same one other most ok ok' nodes room some many alike =
    let long : length one.arcs ≡ length other.arcs = (alike zero (omega arith)).arcs in
    let arcs : one.arcs ≡ other.arcs = same_items one.arcs other.arcs long (λ k lt. (alike (suc k) (omega (arith, lt, long, many))).arc) in
    let marked : (z : ℕ) → is_landmark one z ≡ is_landmark other z = λ z. ⊎_elim
    (λ (lt : other.nodes < z). is_member-beyond one.nodes z one.landmarks ok.each_landmark (λ within. omega (arith, within.1, nodes, lt)) ∙ sym (is_member-beyond other.nodes z other.landmarks ok'.each_landmark (λ within. omega (arith, within.1, lt))))
    (λ (le : z ≤ other.nodes). (alike z (omega (arith, le, some))).marked)
    (cases_lt other.nodes z) in
    let landmarks : one.landmarks ≡ other.landmarks = same_members one.landmarks other.landmarks ok.ascending ok'.ascending marked in
    rw (nodes, arcs, landmarks, room) refl

-- groups that lead somewhere are admitted
pub led_admitted : (net : Net) (groups : List Group) → is_some (after net groups) ≡ true → first_refusal_of_all net groups ≡ None
led_admitted net groups leads =
    let there : is_some (step_group net (commands_of groups)) ≡ true = ap is_some (sym (groups_are_their_commands net groups)) ∙ leads in
    refused_as_their_commands net groups ∙ none_of (first_refusal net (commands_of groups)) (group_admitted net (commands_of groups)) there
  where
    none_of : (o : Option Refusal) → MatchOption o ((new : Net) × (step_group net (commands_of groups) ≡ Some new)) (λ refusal. step_group net (commands_of groups) ≡ None) → is_some (step_group net (commands_of groups)) ≡ true → o ≡ None
    none_of None h there = refl
    none_of (Some refusal) h there = absurd (true≢false (sym there ∙ ap is_some h))

pub nodes_behind : (net : Net) (groups : List Group) → (changed_by_all net groups).nodes ≡ net.nodes
nodes_behind net groups = ap (λ (n : Net). n.nodes) (changed_by_all_is net groups) ∙ nodes_kept net (commands_of groups)

pub room_behind : (net : Net) (groups : List Group) → (changed_by_all net groups).room ≡ net.room
room_behind net groups = ap (λ (n : Net). n.room) (changed_by_all_is net groups) ∙ room_kept net (commands_of groups)
