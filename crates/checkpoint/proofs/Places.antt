-- Words that are put into arcs.
use Rattle.std.proofs.Common.{◌≡◌, ℕ, zero, suc, ◌+◌, ◌<◌, ◌≤◌, List, [], ◌∷◌, ◌++◌, length, get_or, set, take, drop, sym, ap, ◌∙◌, append_assoc, arith}
use Rattle.std.specs.Prelude.{map}
use Rattle.std.proofs.lemmas.List.{take_more, take_more_set, map-append, length-map, length-take, take-map, drop-map, drop-take, take-append-le, take-take, drop-append-le}
use Rattle.roadnet.specs.declared.arcs.RoadArc.{RoadArc}
use Rattle.pages.specs.declared.content.Ends.{Ends}
use Rattle.pages.specs.declared.content.Word.{Word}
use Rattle.pages.specs.Spelling.{ends_of, word_of}

pub map_set_same : {X Y : Type 0} (f : X → Y) (xs : List X) (i : ℕ) (x d : X) → i < length xs → f x ≡ f (get_or xs i d) → map f (set xs i x) ≡ map f xs
map_set_same f [] i x d lt e = absurd (omega arith)
map_set_same f (y ∷ xs) zero x d lt e = ap (λ z. z ∷ map f xs) e
map_set_same f (y ∷ xs) (suc i) x d lt e = ap (λ zs. f y ∷ zs) (map_set_same f xs i x d (omega arith) e)

-- one word more
pub word_put : (front : List Word) (arcs : List RoadArc) (words : List Word) (first i : ℕ) (arc : RoadArc) (d : Word) → first + i < length arcs → i < length words
    → map word_of (take (first + i) arcs) ≡ front ++ take i words → word_of arc ≡ get_or words i d
    → map word_of (take (first + (i + 1)) (set arcs (first + i) arc)) ≡ front ++ take (i + 1) words
word_put front arcs words first i arc d lt lt' so_far is =
    let e : first + (i + 1) ≡ first + i + 1 = omega arith in
    ap (λ (n : ℕ). map word_of (take n (set arcs (first + i) arc))) e
    ∙ ap (map word_of) (take_more_set arcs (first + i) arc lt) ∙ map-append word_of (take (first + i) arcs) (arc ∷ [])
    ∙ ap (λ xs. xs ++ word_of arc ∷ []) so_far ∙ ap (λ w. (front ++ take i words) ++ w ∷ []) is
    ∙ append_assoc front (take i words) (get_or words i d ∷ [])
    ∙ ap (λ xs. front ++ xs) (sym (take_more words i d lt'))

-- one arc's ends more
pub ends_put : (front : List Ends) (arcs : List RoadArc) (ends : List Ends) (first i : ℕ) (arc : RoadArc) (d : Ends) → first + i < length arcs → i < length ends
    → map ends_of (take (first + i) arcs) ≡ front ++ take i ends → ends_of arc ≡ get_or ends i d
    → map ends_of (take (first + (i + 1)) (set arcs (first + i) arc)) ≡ front ++ take (i + 1) ends
ends_put front arcs ends first i arc d lt lt' so_far is =
    let e : first + (i + 1) ≡ first + i + 1 = omega arith in
    ap (λ (n : ℕ). map ends_of (take n (set arcs (first + i) arc))) e
    ∙ ap (map ends_of) (take_more_set arcs (first + i) arc lt) ∙ map-append ends_of (take (first + i) arcs) (arc ∷ [])
    ∙ ap (λ xs. xs ++ ends_of arc ∷ []) so_far ∙ ap (λ w. (front ++ take i ends) ++ w ∷ []) is
    ∙ append_assoc front (take i ends) (get_or ends i d ∷ [])
    ∙ ap (λ xs. front ++ xs) (sym (take_more ends i d lt'))

-- ends that are put behind the first arcs
pub record IsLaid (n k : ℕ) (old new : List RoadArc) (xs : List Ends) : Type 0 where
  pub first : map ends_of (take n new) ≡ map ends_of (take n old)
  pub laid : map ends_of (take (k + length xs) (drop n new)) ≡ map ends_of (take k (drop n old)) ++ xs

pub laid_put : (n k : ℕ) (old new : List RoadArc) (xs : List Ends) → n + k ≤ length old → map ends_of (take (n + k + length xs) new) ≡ map ends_of (take (n + k) old) ++ xs → IsLaid n k old new xs
laid_put n k old new xs within e =
    let many : length (map ends_of (take (n + k) old)) ≡ n + k = omega (arith, length-map (take (n + k) old) ends_of, length-take (n + k) old) in
    let sum : n + k + length xs ≡ n + (k + length xs) = omega arith in
    record {
      first = ap (map ends_of) (sym (take-take n (n + k + length xs) new (omega arith))) ∙ sym (take-map ends_of n (take (n + k + length xs) new)) ∙ ap (take n) e
          ∙ take-append-le n (map ends_of (take (n + k) old)) xs (omega (arith, many)) ∙ take-map ends_of n (take (n + k) old) ∙ ap (map ends_of) (take-take n (n + k) old (omega arith));
      laid = ap (map ends_of) (sym (drop-take n (k + length xs) new) ∙ ap (λ (m : ℕ). drop n (take m new)) (sym sum)) ∙ sym (drop-map ends_of n (take (n + k + length xs) new)) ∙ ap (drop n) e
          ∙ drop-append-le n (map ends_of (take (n + k) old)) xs (omega (arith, many)) ∙ ap (λ ys. ys ++ xs) (drop-map ends_of n (take (n + k) old) ∙ ap (map ends_of) (drop-take n k old));
    }

pub laid_as : (n k first last : ℕ) (old new : List RoadArc) (xs ys : List Ends) → IsLaid n k old new xs → k ≡ first → k + length xs ≡ last → xs ≡ ys → map ends_of (take last (drop n new)) ≡ map ends_of (take first (drop n old)) ++ ys
laid_as n k first last old new xs ys put p q e =
    ap (λ (m : ℕ). map ends_of (take m (drop n new))) (sym q) ∙ put.laid ∙ ap (λ (m : ℕ). map ends_of (take m (drop n old)) ++ xs) p ∙ ap (λ zs. map ends_of (take first (drop n old)) ++ zs) e
