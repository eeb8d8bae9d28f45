-- Landmarks marked one after the other in a network without any: only memory can be wanting.
use Rattle.std.proofs.Common.{◌≡◌, ◌∙◌, inl, inr, ℕ, zero, suc, ◌+◌, ◌<◌, ◌≤◌, true, false, List, length, get_or, take, None, Some, refl, sym, ap, arith}
use Rattle.std.specs.Prelude.{All, nat_le, ◌==◌}
use Rattle.std.specs.List.Sorted.{IsStrictlyIncreasing}
use Rattle.std.proofs.lemmas.Bool.{le-leb, ne_eqb}
use Rattle.std.proofs.lemmas.Bool.Decides.{nat_tests}
use Rattle.std.proofs.lemmas.List.{get_or-take, get_or_default, length-take}
use Rattle.std.proofs.lemmas.List.Folds.{list_any_none}
use Rattle.std.proofs.lemmas.List.Kept.{AllPairs-from_increasing}
use Rattle.roadnet.specs.declared.commands.Command.TheVariants.{Mark}
use Rattle.roadnet.specs.Members.{set_of, with_member, is_member}
use Rattle.roadnet.specs.declared.refusals.Refusal.{Refusal}
use Rattle.roadnet.specs.Net.{Net, IsNode, most_landmarks}
use Rattle.roadnet.specs.Step.{refusal_of, is_node, MayRefuseCommand}
use Rattle.dimacs.specs.Landmarks.{AreNodes}
use Rattle.storetexts.specs.Created.{with_landmarks, IsRefusedMarking}
use Rattle.roadnet.proofs.Members.{All-set_of, set_of_more, length-with_member}

no_more : (marks : List ℕ) (i : ℕ) → i ≤ length marks → length (set_of (take i marks)) ≤ i
no_more marks zero le = omega arith
no_more marks (suc i) le =
    let e : suc i ≡ i + 1 = omega arith in
    let within : i < length marks = omega (arith, le) in
    let more = length-with_member (get_or marks i 0) (set_of (take i marks)) in
    let before = no_more marks i (omega (arith, le)) in
    let same : length (set_of (take (suc i) marks)) ≡ length (with_member (get_or marks i 0) (set_of (take i marks))) = ap (λ n. length (set_of (take n marks))) e ∙ ap length (set_of_more marks i within) in
    omega (arith, same, more, before)

below_next : (marks : List ℕ) (i : ℕ) → IsStrictlyIncreasing marks → i < length marks → All (λ y. y < get_or marks i 0) (set_of (take i marks))
below_next marks i up lt = All-set_of (λ y. y < get_or marks i 0) (take i marks) (λ k d within.
    let early : k < i = omega (arith, within, length-take i marks) in
    let at : get_or (take i marks) k d ≡ get_or marks k 0 = get_or-take i marks k d early ∙ get_or_default marks k d 0 (omega (arith, early, lt)) in
    let less : get_or marks k 0 < get_or marks i 0 = AllPairs-from_increasing marks up k i 0 early lt in
    omega (arith, at, less))

not_yet : (marks : List ℕ) (i : ℕ) → IsStrictlyIncreasing marks → i < length marks → is_member (get_or marks i 0) (set_of (take i marks)) ≡ false
not_yet marks i up lt = list_any_none (λ y. y == get_or marks i 0) (set_of (take i marks)) (λ k d within.
    let less : get_or (set_of (take i marks)) k d < get_or marks i 0 = below_next marks i up lt k d within in
    ne_eqb _ _ (λ same. omega (arith, same, less)))

none_refused : (net : Net) (marks : List ℕ) (i x : ℕ) → IsStrictlyIncreasing marks → AreNodes net.nodes marks → length marks ≤ most_landmarks → i < length marks → x ≡ get_or marks i 0
    → refusal_of (with_landmarks net (set_of (take i marks))) (Mark x) ≡ None
none_refused net marks i x up nodes few lt is =
    let here : IsNode net (get_or marks i 0) = nodes i 0 lt in
    let node : is_node net (get_or marks i 0) ≡ true = rw (le-leb 1 (get_or marks i 0) here.0, le-leb (get_or marks i 0) net.nodes here.1) refl in
    let new : is_member (get_or marks i 0) (set_of (take i marks)) ≡ false = not_yet marks i up lt in
    let short : length (set_of (take i marks)) ≤ i = no_more marks i (omega (arith, lt)) in
    let room : nat_le 1000 (length (set_of (take i marks))) ≡ false = grind (arith, nat_tests) in
    rw is (rw (node, new, room) refl)

pub only_memory : (net old : Net) (marks : List ℕ) (i x : ℕ) (refusal : Refusal) → IsStrictlyIncreasing marks → AreNodes net.nodes marks → length marks ≤ most_landmarks → i < length marks
    → x ≡ get_or marks i 0 → old ≡ with_landmarks net (set_of (take i marks)) → MayRefuseCommand old (Mark x) refusal → IsRefusedMarking marks refusal
only_memory net old marks i x refusal up nodes few lt is so_far (inl cause) =
    let none = none_refused net marks i x up nodes few lt is in
    let some : refusal_of (with_landmarks net (set_of (take i marks))) (Mark x) ≡ Some refusal = ap (λ (n : Net). refusal_of n (Mark x)) (sym so_far) ∙ cause in
    absurd (let never : None ≡ Some refusal = sym none ∙ some in cc)
only_memory net old marks i x refusal up nodes few lt is so_far (inr memory) = inr (memory.0, few)
