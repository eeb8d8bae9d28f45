-- The places of the arcs of a block.
use Rattle.std.proofs.Common.{◌≡◌, ◌∙◌, ℕ, suc, ◌+◌, ◌/◌, ◌<◌, ◌≤◌, Bool, true, false, cond, List, [], ◌∷◌, ◌++◌, length, get_or, set, take, map, refl, ap, ap₂, sym, arith, ⊎_elim}
use Rattle.std.specs.List.{filter, All}
use Rattle.std.proofs.lemmas.Bool.{cases_eq, eq-eqb, ne_eqb}
use Rattle.std.proofs.lemmas.List.{append-nil, get_or-map, get_or-set_other, get_or-set_same, length-map, map-set, take_more, length-take-le}
use Rattle.std.proofs.lemmas.List.Elements.{All-cons, All-nil}
use Rattle.roadnet.specs.declared.arcs.RoadArc.{RoadArc}
use Rattle.snapshot.specs.Blocks.{is_of_block, within_block, arcs_of_block, places_of_block}

places_one : (block i : ℕ) (arc : RoadArc) (b : Bool) → is_of_block block arc ≡ b → (more : List ℕ) → cond b (i ∷ more) more ≡ cond b (i ∷ []) [] ++ more
places_one block i arc true e more = refl
places_one block i arc false e more = refl

cond_append : (b : Bool) (i : ℕ) (xs ys : List ℕ) → cond b (i ∷ (xs ++ ys)) (xs ++ ys) ≡ cond b (i ∷ xs) xs ++ ys
cond_append true i xs ys = refl
cond_append false i xs ys = refl

pub places-append : (block i : ℕ) (xs ys : List RoadArc) → places_of_block block i (xs ++ ys) ≡ places_of_block block i xs ++ places_of_block block (i + length xs) ys
places-append block i [] ys =
    let e : i + 0 ≡ i = omega arith in
    rw e refl
places-append block i (arc ∷ xs) ys =
    let e : i + 1 + length xs ≡ i + suc (length xs) = omega arith in
    let rest : places_of_block block (i + 1) (xs ++ ys) ≡ places_of_block block (i + 1) xs ++ places_of_block block (i + suc (length xs)) ys = places-append block (i + 1) xs ys ∙ ap (λ n. places_of_block block (i + 1) xs ++ places_of_block block n ys) e in
    ap (λ (l : List ℕ). cond (is_of_block block arc) (i ∷ l) l) rest ∙ cond_append (is_of_block block arc) i (places_of_block block (i + 1) xs) (places_of_block block (i + suc (length xs)) ys)

-- one arc more
pub places-more : (block i : ℕ) (arcs : List RoadArc) (d : RoadArc) → i < length arcs → places_of_block block 0 (take (i + 1) arcs) ≡ places_of_block block 0 (take i arcs) ++ places_of_block block i (get_or arcs i d ∷ [])
places-more block i arcs d h =
    let at : 0 + length (take i arcs) ≡ i = omega (arith, length-take-le i arcs (omega arith)) in
    ap (places_of_block block 0) (take_more arcs i d h) ∙ (places-append block 0 (take i arcs) (get_or arcs i d ∷ []) ∙ ap (λ n. places_of_block block 0 (take i arcs) ++ places_of_block block n (get_or arcs i d ∷ [])) at)

below_or_not : (b : Bool) (i n : ℕ) (xs : List ℕ) → i < n → All (λ k. k < n) xs → All (λ k. k < n) (cond b (i ∷ xs) xs)
below_or_not true i n xs h all = All-cons (λ k. k < n) i xs h all
below_or_not false i n xs h all = all

pub places-below : (block i n : ℕ) (arcs : List RoadArc) → i + length arcs ≤ n → All (λ k. k < n) (places_of_block block i arcs)
places-below block i n [] h = All-nil (λ k. k < n)
places-below block i n (arc ∷ arcs) h = below_or_not (is_of_block block arc) i n (places_of_block block (i + 1) arcs) (omega arith) (places-below block (i + 1) n arcs (omega arith))

found_or_not : (b : Bool) (f : ℕ → RoadArc) (i : ℕ) (arc : RoadArc) (places : List ℕ) (arcs : List RoadArc) → f i ≡ within_block arc → map f places ≡ map within_block arcs → map f (cond b (i ∷ places) places) ≡ map within_block (cond b (arc ∷ arcs) arcs)
found_or_not true f i arc places arcs e same = ap₂ (λ (a : RoadArc) (l : List RoadArc). a ∷ l) e same
found_or_not false f i arc places arcs e same = same

-- what stands at a block's places are its arcs
pub arcs_at_places : (whole : List RoadArc) (block i : ℕ) (arcs : List RoadArc) (d : RoadArc) → ((k : ℕ) → k < length arcs → get_or whole (i + k) d ≡ get_or arcs k d) → map (λ k. within_block (get_or whole k d)) (places_of_block block i arcs) ≡ arcs_of_block block arcs
arcs_at_places whole block i [] d same = refl
arcs_at_places whole block i (arc ∷ arcs) d same =
    let here : get_or whole i d ≡ arc =
    (let e : i ≡ i + 0 = omega arith in
    ap (λ k. get_or whole k d) e ∙ same 0 (omega arith)) in
    found_or_not (is_of_block block arc) (λ k. within_block (get_or whole k d)) i arc (places_of_block block (i + 1) arcs) (filter (is_of_block block) arcs) (ap within_block here) (arcs_at_places whole block (i + 1) arcs d (λ k h.
    let e : i + 1 + k ≡ i + suc k = omega arith in
    ap (λ n. get_or whole n d) e ∙ same (suc k) (omega arith)))

shorter : (b : Bool) (i : ℕ) (xs : List ℕ) (n : ℕ) → length xs ≤ n → length (cond b (i ∷ xs) xs) ≤ suc n
shorter true i xs n h = omega arith
shorter false i xs n h = omega arith

pub length-places : (block i : ℕ) (arcs : List RoadArc) → length (places_of_block block i arcs) ≤ length arcs
length-places block i [] = omega arith
length-places block i (arc ∷ arcs) = shorter (is_of_block block arc) i (places_of_block block (i + 1) arcs) (length arcs) (length-places block (i + 1) arcs)

-- one place more is filed
module _ {V : Type 0} (items : V → List ℕ) (lists : List V) (new : V) (arcs : List RoadArc) (i b : ℕ) (d : RoadArc) (h : i < length arcs) (tail : b ≡ (get_or arcs i d).tail / 1024) (within : b < length lists) (old : V) (pushed : items new ≡ items (get_or lists b old) ++ i ∷ []) (block : ℕ) (filed : get_or (map items lists) block [] ≡ places_of_block block 0 (take i arcs)) where
  own_list : block ≡ b → get_or (map items (set lists b new)) block [] ≡ places_of_block block 0 (take (i + 1) arcs)
  own_list e =
      let kept : get_or (map items lists) block [] ≡ items (get_or lists b old) = ap (λ n. get_or (map items lists) n []) e ∙ get_or-map items lists b old [] within in
      let here : is_of_block block (get_or arcs i d) ≡ true = eq-eqb ((get_or arcs i d).tail / 1024) block (sym tail ∙ sym e) in
      let more : places_of_block block i (get_or arcs i d ∷ []) ≡ i ∷ [] = rw here refl in
      ap (λ (l : List (List ℕ)). get_or l block []) (map-set items lists b new)
      ∙ (ap (λ n. get_or (set (map items lists) b (items new)) n []) e
      ∙ (get_or-set_same (map items lists) b (items new) [] (omega (arith, length-map lists items))
      ∙ (pushed ∙ (ap₂ (λ (xs ys : List ℕ). xs ++ ys) (sym kept ∙ filed) (sym more) ∙ sym (places-more block i arcs d h)))))

  other_list : (block ≡ b → ⊥) → get_or (map items (set lists b new)) block [] ≡ places_of_block block 0 (take (i + 1) arcs)
  other_list ne =
      let not_here : is_of_block block (get_or arcs i d) ≡ false = ne_eqb ((get_or arcs i d).tail / 1024) block (λ e. ne (sym (tail ∙ e))) in
      let none : places_of_block block i (get_or arcs i d ∷ []) ≡ [] = rw not_here refl in
      ap (λ (l : List (List ℕ)). get_or l block []) (map-set items lists b new)
      ∙ (get_or-set_other (map items lists) b block (items new) [] ne
      ∙ (filed ∙ (sym (append-nil (places_of_block block 0 (take i arcs))) ∙ (ap (λ (l : List ℕ). places_of_block block 0 (take i arcs) ++ l) (sym none) ∙ sym (places-more block i arcs d h)))))

  pub file_more : get_or (map items (set lists b new)) block [] ≡ places_of_block block 0 (take (i + 1) arcs)
  file_more = ⊎_elim own_list other_list (cases_eq block b)
