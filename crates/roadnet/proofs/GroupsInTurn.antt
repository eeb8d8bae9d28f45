-- Groups one after another: what each is judged after, and what all give.
use Rattle.std.proofs.Common.{◌≡◌, ◌∙◌, ℕ, suc, ◌+◌, ◌<◌, List, [], ◌∷◌, ◌++◌, Some, None, length, get_or, take, drop, refl, ap, sym, arith}
use Rattle.std.specs.Prelude.{◌&&◌, nat_le}
use Rattle.std.proofs.lemmas.List.{take-append-drop}
use Rattle.std.proofs.lemmas.List.Sums.{fold_more}
use Rattle.std.proofs.Math.Seq.{drop-cons, take-suc}
use Rattle.roadnet.specs.declared.commands.Command.{Command}
use Rattle.roadnet.specs.declared.refusals.Refusal.{Refusal}
use Rattle.roadnet.specs.Net.{Net, IsNetwork}
use Rattle.roadnet.specs.Step.{is_node, first_refusal}
use Rattle.roadnet.specs.Batches.{changed_by, changed_by_all, first_refusal_of_all}
use Rattle.roadnet.proofs.InTurn.{IsNetwork-changed_by, goes_on, nodes_kept, room_kept}

all_admitted : (net : Net) (xs ys : List (List Command)) → first_refusal_of_all net xs ≡ None → first_refusal_of_all net (xs ++ ys) ≡ first_refusal_of_all (changed_by_all net xs) ys
all_admitted net [] ys none = refl
all_admitted net (x ∷ xs) ys none =
    let on : (first_refusal net x ≡ None) × (first_refusal_of_all (changed_by net x) xs ≡ None) = goes_on (first_refusal net x) (first_refusal_of_all (changed_by net x) xs) none in
    rw on.0 (all_admitted (changed_by net x) xs ys on.1)

front_groups_admitted : (net : Net) (xs ys : List (List Command)) → first_refusal_of_all net (xs ++ ys) ≡ None → first_refusal_of_all net xs ≡ None
front_groups_admitted net [] ys none = refl
front_groups_admitted net (x ∷ xs) ys none =
    let on : (first_refusal net x ≡ None) × (first_refusal_of_all (changed_by net x) (xs ++ ys) ≡ None) = goes_on (first_refusal net x) (first_refusal_of_all (changed_by net x) (xs ++ ys)) none in
    rw on.0 (front_groups_admitted (changed_by net x) xs ys on.1)

split_groups : (gs : List (List Command)) (i : ℕ) (d : List Command) → i < length gs → take i gs ++ get_or gs i d ∷ drop (suc i) gs ≡ gs
split_groups gs i d lt = ap (λ (l : List (List Command)). take i gs ++ l) (sym (drop-cons gs i d lt)) ∙ take-append-drop i gs

one_more : (gs : List (List Command)) (i : ℕ) (d : List Command) → i < length gs → take (i + 1) gs ≡ take i gs ++ get_or gs i d ∷ []
one_more gs i d lt = let e : i + 1 ≡ suc i = omega arith in ap (λ (n : ℕ). take n gs) e ∙ take-suc gs i d lt

module _ (net : Net) (gs : List (List Command)) (i : ℕ) where
  pub prefix_groups_admitted : first_refusal_of_all net gs ≡ None → first_refusal_of_all net (take i gs) ≡ None
  prefix_groups_admitted none = front_groups_admitted net (take i gs) (drop i gs) (ap (first_refusal_of_all net) (take-append-drop i gs) ∙ none)

  from_group : (d : List Command) → i < length gs → first_refusal_of_all net (take i gs) ≡ None → first_refusal_of_all net gs ≡ first_refusal_of_all (changed_by_all net (take i gs)) (get_or gs i d ∷ drop (suc i) gs)
  from_group d lt none = ap (first_refusal_of_all net) (sym (split_groups gs i d lt)) ∙ all_admitted net (take i gs) (get_or gs i d ∷ drop (suc i) gs) none

  -- the first group that is refused after those before it
  pub group_refused_here : (d : List Command) (refusal : Refusal) → i < length gs → first_refusal_of_all net (take i gs) ≡ None → first_refusal (changed_by_all net (take i gs)) (get_or gs i d) ≡ Some refusal → first_refusal_of_all net gs ≡ Some refusal
  group_refused_here d refusal lt none refused = from_group d lt none ∙ rw refused refl

  -- each group is admitted after those before it
  pub group_admitted_here : (d : List Command) → i < length gs → first_refusal_of_all net gs ≡ None → first_refusal (changed_by_all net (take i gs)) (get_or gs i d) ≡ None
  group_admitted_here d lt none =
      (goes_on (first_refusal (changed_by_all net (take i gs)) (get_or gs i d)) (first_refusal_of_all (changed_by (changed_by_all net (take i gs)) (get_or gs i d)) (drop (suc i) gs)) (sym (from_group d lt (prefix_groups_admitted none)) ∙ none)).0

  pub one_group_changed : (d : List Command) → i < length gs → changed_by_all net (take (i + 1) gs) ≡ changed_by (changed_by_all net (take i gs)) (get_or gs i d)
  one_group_changed d lt = fold_more changed_by net gs i d lt

  -- one group more is admitted
  pub one_group_admitted : (d : List Command) → i < length gs → first_refusal_of_all net (take i gs) ≡ None → first_refusal (changed_by_all net (take i gs)) (get_or gs i d) ≡ None → first_refusal_of_all net (take (i + 1) gs) ≡ None
  one_group_admitted d lt none here =
      ap (first_refusal_of_all net) (one_more gs i d lt) ∙ all_admitted net (take i gs) (get_or gs i d ∷ []) none ∙ rw here refl

pub IsNetwork-changed_by_all : (net : Net) (gs : List (List Command)) → IsNetwork net → first_refusal_of_all net gs ≡ None → IsNetwork (changed_by_all net gs)
IsNetwork-changed_by_all net [] ok none = ok
IsNetwork-changed_by_all net (g ∷ gs) ok none =
    let on : (first_refusal net g ≡ None) × (first_refusal_of_all (changed_by net g) gs ≡ None) = goes_on (first_refusal net g) (first_refusal_of_all (changed_by net g) gs) none in
    IsNetwork-changed_by_all (changed_by net g) gs (IsNetwork-changed_by net g ok on.0) on.1

nodes_kept_all : (net : Net) (gs : List (List Command)) → (changed_by_all net gs).nodes ≡ net.nodes
nodes_kept_all net [] = refl
nodes_kept_all net (g ∷ gs) = nodes_kept_all (changed_by net g) gs ∙ nodes_kept net g

room_kept_all : (net : Net) (gs : List (List Command)) → (changed_by_all net gs).room ≡ net.room
room_kept_all net [] = refl
room_kept_all net (g ∷ gs) = room_kept_all (changed_by net g) gs ∙ room_kept net g

-- nodes and room are the same behind groups and commands
module _ (net : Net) (gs : List (List Command)) (cs : List Command) where
  pub node_same : (x : ℕ) → is_node (changed_by (changed_by_all net gs) cs) x ≡ is_node net x
  node_same x = ap (λ (n : ℕ). nat_le 1 x && nat_le x n) (nodes_kept (changed_by_all net gs) cs ∙ nodes_kept_all net gs)

  pub nodes_same_both : (x y : ℕ) → (is_node (changed_by (changed_by_all net gs) cs) x && is_node (changed_by (changed_by_all net gs) cs) y) ≡ (is_node net x && is_node net y)
  nodes_same_both x y = rw (node_same x, node_same y) refl

  pub room_same_both : (changed_by (changed_by_all net gs) cs).room ≡ net.room
  room_same_both = room_kept (changed_by_all net gs) cs ∙ room_kept_all net gs
