-- Networks that go on by groups to a later version.
use Rattle.std.proofs.Common.{◌≡◌, ℕ, ◌+◌, ◌-◌, ◌≤◌, List, ◌++◌, take, drop, Some, sym, ap, ◌∙◌, arith}
use Rattle.std.specs.Prelude.{option_and_then}
use Rattle.std.proofs.lemmas.List.{take-take, take-append-drop, drop-take}
use Rattle.roadnet.specs.declared.groups.Group.{Group}
use Rattle.roadnet.specs.Net.{Net}
use Rattle.roadnet.specs.Step.{after}
use Rattle.roadnet.proofs.Stepped.{after_both}
use Rattle.machine.specs.Machine.{Machine, groups_to, network_at}

-- the groups from one place to another, behind those to the first
split_at : {A : Type 0} (xs : List A) (n k : ℕ) → n ≤ k → take k xs ≡ take n xs ++ take (k - n) (drop n xs)
split_at xs n k le =
    let m = k - n in
    let whole : n + m ≡ k = omega arith in
    sym (take-append-drop n (take k xs))
    ∙ (ap (λ ys. ys ++ drop n (take k xs)) (take-take n k xs le)
    ∙ ap (λ ys. take n xs ++ ys) (ap (λ j. drop n (take j xs)) (sym whole) ∙ drop-take n m xs))

-- what a body takes of the groups that it has
pub between_is : (items acc : List Group) (v w o : ℕ) → items ≡ acc → v ≤ w → o ≤ v → take (w - o) acc ≡ take (v - o) acc ++ take (w - o - (v - o)) (drop (v - o) items)
between_is items acc v w o same le from =
    split_at acc (v - o) (w - o) (omega arith) ∙ ap (λ (ys : List Group). take (v - o) acc ++ take (w - o - (v - o)) (drop (v - o) ys)) (sym same)

-- the network at a version, by the groups from another one
pub network_between : (m : Machine) (v w : ℕ) (net : Net) (groups : List Group) → network_at m v ≡ Some net → groups_to m w ≡ groups_to m v ++ groups → network_at m w ≡ after net groups
network_between m v w net groups here way =
    ap (after m.base) way ∙ (after_both m.base (groups_to m v) groups ∙ ap (option_and_then (λ (n : Net). after n groups)) here)

-- the groups from one version to another lead from the one's network to the other's
pub leads_on : (m : Machine) (v w : ℕ) (net next : Net) (groups : List Group) → network_at m v ≡ Some net → network_at m w ≡ Some next → groups_to m w ≡ groups_to m v ++ groups → after net groups ≡ Some next
leads_on m v w net next groups here there way = sym (network_between m v w net groups here way) ∙ there
