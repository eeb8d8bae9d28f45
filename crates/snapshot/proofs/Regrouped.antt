-- Some blocks made anew, and the others kept.
use Rattle.std.proofs.Common.{◌≡◌, ◌⊎◌, ◌∙◌, ℕ, suc, ◌+◌, ◌<◌, ◌≤◌, Bool, true, false, List, [], ◌∷◌, length, get_or, set, map, ap, sym, subst, arith, refl, max, inl, inr, Contains, ⊎_elim}
use Rattle.std.specs.List.{fold}
use Rattle.std.proofs.lemmas.Bool.{cases_Bool, cases_eq, cases_lt, false≢true}
use Rattle.std.proofs.lemmas.List.{get_or-map, get_or-set_other, get_or-set_same, length-map, length-set, map-set}
use Rattle.roadnet.specs.declared.arcs.RoadArc.{RoadArc}
use Rattle.snapshot.specs.declared.blocks.Block.{Block}
use Rattle.snapshot.specs.declared.legs.Leg.{Leg}
use Rattle.snapshot.specs.Blocks.{arcs_of_block, AreBlockParts, AreBlocksOf}
use Rattle.snapshot.proofs.Built.{Contains-of_map}
use Rattle.snapshot.proofs.Greatest.{greatest_from_least, greatest_from_member}
use Rattle.std.proofs.lemmas.List.Elements.{Contains-get_or}
use Rattle.snapshot.proofs.Shared.{greatest_of, parts_in}

module _ (arcs : List RoadArc) (delta : ℕ) (touched : List Bool) where
  -- the blocks at these places are those of the arcs
  abbrev pub AreDone : ℕ → List Block → Type 0
  AreDone k blocks = (block : ℕ) → block < k → block < length blocks → get_or touched block true ≡ true → AreBlockParts (arcs_of_block block arcs) delta (get_or (map parts_in blocks) block [])

  -- the blocks at the other places are the older ones
  abbrev pub AreKept : List Block → List Block → Type 0
  AreKept old blocks = (block : ℕ) (d : Block) → get_or touched block true ≡ false → get_or blocks block d ≡ get_or old block d

  pub done_same : (k : ℕ) (blocks : List Block) → get_or touched k true ≡ false → AreDone k blocks → AreDone (k + 1) blocks
  done_same k blocks flag done block h within mark =
      ⊎_elim
      (λ (e : block ≡ k). absurd (false≢true (sym flag ∙ (ap (λ b. get_or touched b true) (sym e) ∙ mark))))
      (λ (ne : block ≡ k → ⊥). done block (omega (arith, ne)) within mark)
      (cases_eq block k)

  pub done_more : (k : ℕ) (blocks : List Block) (next : Block) → AreBlockParts (arcs_of_block k arcs) delta (parts_in next) → AreDone k blocks → AreDone (k + 1) (set blocks k next)
  done_more k blocks next own done block h within mark =
      let pushed : map parts_in (set blocks k next) ≡ set (map parts_in blocks) k (parts_in next) = map-set parts_in blocks k next in
      let long : length (set blocks k next) ≡ length blocks = length-set blocks k next in
      ⊎_elim
      (λ (e : block ≡ k).
      let at : get_or (map parts_in (set blocks k next)) block [] ≡ parts_in next = ap (λ (l : List (List (List Leg))). get_or l block []) pushed ∙ (ap (λ b. get_or (set (map parts_in blocks) k (parts_in next)) b []) e ∙ get_or-set_same (map parts_in blocks) k (parts_in next) [] (omega (arith, within, long, e, length-map blocks parts_in))) in
      subst (AreBlockParts (arcs_of_block block arcs) delta) (sym at) (subst (λ b. AreBlockParts (arcs_of_block b arcs) delta (parts_in next)) (sym e) own))
      (λ (ne : block ≡ k → ⊥).
      let at : get_or (map parts_in (set blocks k next)) block [] ≡ get_or (map parts_in blocks) block [] = ap (λ (l : List (List (List Leg))). get_or l block []) pushed ∙ get_or-set_other (map parts_in blocks) k block (parts_in next) [] ne in
      subst (AreBlockParts (arcs_of_block block arcs) delta) (sym at) (done block (omega (arith, h, ne)) (omega (arith, within, long)) mark))
      (cases_eq block k)

  pub kept_more : (old blocks : List Block) (k : ℕ) (next : Block) → get_or touched k true ≡ true → AreKept old blocks → AreKept old (set blocks k next)
  kept_more old blocks k next mark kept block d flag =
      ⊎_elim
      (λ (e : block ≡ k). absurd (false≢true (sym flag ∙ (ap (λ b. get_or touched b true) e ∙ mark))))
      (λ (ne : block ≡ k → ⊥). get_or-set_other blocks k block next d ne ∙ kept block d flag)
      (cases_eq block k)

  one_kept : (old blocks : List Block) (block : ℕ) → length blocks ≡ length old → AreKept old blocks → block < length blocks → get_or touched block true ≡ false → get_or (map parts_in blocks) block [] ≡ get_or (map parts_in old) block []
  one_kept old [] block count kept h flag = absurd (omega arith)
  one_kept old (first ∷ blocks) block count kept h flag =
      get_or-map parts_in (first ∷ blocks) block first [] h
      ∙ (ap parts_in (kept block first flag) ∙ sym (get_or-map parts_in old block first [] (omega (arith, h, count))))

  pub all_done : (old blocks : List Block) (k : ℕ) → length blocks ≡ k → length blocks ≡ length old → AreKept old blocks → AreDone k blocks → ((block : ℕ) → block < length old → get_or touched block true ≡ false → AreBlockParts (arcs_of_block block arcs) delta (get_or (map parts_in old) block [])) → AreBlocksOf arcs delta (map parts_in blocks)
  all_done old blocks k size count kept done untouched block h =
      let within : block < length blocks = omega (arith, h, length-map blocks parts_in) in
      ⊎_elim
      (λ (mark : get_or touched block true ≡ true). done block (omega (arith, within, size)) within mark)
      (λ (flag : get_or touched block true ≡ false).
      subst (AreBlockParts (arcs_of_block block arcs) delta) (sym (one_kept old blocks block count kept within flag)) (untouched block (omega (arith, within, count)) flag))
      (cases_Bool (get_or touched block true))

-- ---- the greatest of blocks of which some were made anew
-- a number that is the greatest: none is greater, and it is one of them or 0
pub greatest_is : (xs : List ℕ) (g : ℕ) → ((x : ℕ) → Contains xs x → x ≤ g) → (g ≡ 0) ⊎ Contains xs g → g ≡ fold max 0 xs
greatest_is xs g most one =
    let above : fold max 0 xs ≤ g = greatest_from_least xs 0 g (omega arith) most in
    ⊎_elim
    (λ (z : g ≡ 0). omega (arith, above, z))
    (λ (c : Contains xs g). omega (arith, above, greatest_from_member xs 0 g c))
    one

-- the greatest is one of them, or the given one
greatest_from_one : (xs : List ℕ) (g : ℕ) → (fold max g xs ≡ g) ⊎ Contains xs (fold max g xs)
greatest_from_one [] g = inl refl
greatest_from_one (x ∷ xs) g =
    ⊎_elim
    (λ (e : fold max (max g x) xs ≡ max g x).
    ⊎_elim
    (λ (lt : g < x). inr (0, omega arith, omega (arith, e, lt)))
    (λ (ge : x ≤ g). inl (omega (arith, e, ge)))
    (cases_lt g x))
    (λ (c : Contains xs (fold max (max g x) xs)). inr (suc c.0, omega (arith, c.1), c.2))
    (greatest_from_one xs (max g x))

pub greatest_one : (xs : List ℕ) → (fold max 0 xs ≡ 0) ⊎ Contains xs (fold max 0 xs)
greatest_one xs = greatest_from_one xs 0

-- The greatest of blocks, where that of the older ones is known: at the touched places no older block has it, and some number is the greatest of the newer.
module _ (touched : List Bool) (old new : List Block) (was : ℕ) where
  abbrev pub AreLess : ℕ → Type 0
  AreLess k = (block : ℕ) (d : Block) → block < k → block < length old → get_or touched block true ≡ true → (greatest_of (get_or old block d) ≡ was) → ⊥

  abbrev pub AreMost : ℕ → ℕ → Type 0
  AreMost k most = (block : ℕ) (d : Block) → block < k → block < length new → get_or touched block true ≡ true → greatest_of (get_or new block d) ≤ most

  abbrev pub IsOne : ℕ → Type 0
  IsOne most = (most ≡ 0) ⊎ Contains (map greatest_of new) most

  pub less_same : (k : ℕ) → get_or touched k true ≡ false → AreLess k → AreLess (k + 1)
  less_same k flag less block d h within mark e =
      ⊎_elim
      (λ (is : block ≡ k). false≢true (sym flag ∙ (ap (λ b. get_or touched b true) (sym is) ∙ mark)))
      (λ (ne : block ≡ k → ⊥). less block d (omega (arith, h, ne)) within mark e)
      (cases_eq block k)

  pub less_more : (k : ℕ) (it : Block) → ((d : Block) → get_or old k d ≡ it) → (greatest_of it ≡ was → ⊥) → AreLess k → AreLess (k + 1)
  less_more k it item ne_was less block d h within mark e =
      ⊎_elim
      (λ (is : block ≡ k). ne_was (sym (ap greatest_of (ap (λ b. get_or old b d) is ∙ item d)) ∙ e))
      (λ (ne : block ≡ k → ⊥). less block d (omega (arith, h, ne)) within mark e)
      (cases_eq block k)

  pub most_same : (k most : ℕ) → get_or touched k true ≡ false → AreMost k most → AreMost (k + 1) most
  most_same k most flag done block d h within mark =
      ⊎_elim
      (λ (is : block ≡ k). absurd (false≢true (sym flag ∙ (ap (λ b. get_or touched b true) (sym is) ∙ mark))))
      (λ (ne : block ≡ k → ⊥). done block d (omega (arith, h, ne)) within mark)
      (cases_eq block k)

  pub most_more : (k most : ℕ) (it : Block) → ((d : Block) → get_or new k d ≡ it) → AreMost k most → AreMost (k + 1) (max most (greatest_of it))
  most_more k most it item done block d h within mark =
      ⊎_elim
      (λ (is : block ≡ k). let same : greatest_of (get_or new block d) ≡ greatest_of it = ap greatest_of (ap (λ b. get_or new b d) is ∙ item d) in omega (arith, same))
      (λ (ne : block ≡ k → ⊥). omega (arith, done block d (omega (arith, h, ne)) within mark))
      (cases_eq block k)

  member : (xs : List Block) (block : ℕ) (d : Block) → block < length xs → Contains (map greatest_of xs) (greatest_of (get_or xs block d))
  member xs block d h = subst (Contains (map greatest_of xs)) (get_or-map greatest_of xs block d 0 h) (Contains-get_or (map greatest_of xs) block 0 (omega (arith, h, length-map xs greatest_of)))

  pub one_more : (k most : ℕ) (it : Block) → k < length new → ((d : Block) → get_or new k d ≡ it) → IsOne most → IsOne (max most (greatest_of it))
  one_more k most it h item one =
      ⊎_elim
      (λ (lt : most < greatest_of it).
      let same : greatest_of (get_or new k it) ≡ max most (greatest_of it) = ap greatest_of (item it) ∙ omega (arith, lt) in
      inr (subst (Contains (map greatest_of new)) same (member new k it h)))
      (λ (ge : greatest_of it ≤ most).
      let same : most ≡ max most (greatest_of it) = omega (arith, ge) in
      subst IsOne same one)
      (cases_lt most (greatest_of it))

  module _ (count : length new ≡ length old) (is : was ≡ fold max 0 (map greatest_of old)) (kept : (block : ℕ) (d : Block) → get_or touched block true ≡ false → get_or new block d ≡ get_or old block d) (most : ℕ) where
    none_is_more : AreMost (length old) most → (x : ℕ) → Contains (map greatest_of new) x → x ≤ max most was
    none_is_more done x among =
        let (it, (at, within, here), own) = Contains-of_map greatest_of new x among in
        let same : greatest_of (get_or new at it) ≡ x = ap greatest_of here ∙ own in
        ⊎_elim
        (λ (mark : get_or touched at true ≡ true). omega (arith, same, done at it (omega (arith, within, count)) within mark))
        (λ (flag : get_or touched at true ≡ false).
        let was_so : greatest_of (get_or new at it) ≡ greatest_of (get_or old at it) = ap greatest_of (kept at it flag) in
        omega (arith, same, was_so, is, greatest_from_member (map greatest_of old) 0 (greatest_of (get_or old at it)) (member old at it (omega (arith, within, count)))))
        (cases_Bool (get_or touched at true))

    -- the older greatest is one of the newer, if no touched block had it
    still_one : AreLess (length old) → IsOne was
    still_one less =
        ⊎_elim
        (λ (z : fold max 0 (map greatest_of old) ≡ 0). inl (is ∙ z))
        (λ (c : Contains (map greatest_of old) (fold max 0 (map greatest_of old))).
        let (it, (at, within, here), own) = Contains-of_map greatest_of old (fold max 0 (map greatest_of old)) c in
        let same : greatest_of (get_or old at it) ≡ was = ap greatest_of here ∙ (own ∙ sym is) in
        ⊎_elim
        (λ (mark : get_or touched at true ≡ true). absurd (less at it within within mark same))
        (λ (flag : get_or touched at true ≡ false).
        inr (subst (Contains (map greatest_of new)) (ap greatest_of (kept at it flag) ∙ same) (member new at it (omega (arith, within, count)))))
        (cases_Bool (get_or touched at true)))
        (greatest_one (map greatest_of old))

    pub greatest_is_that : AreLess (length old) → AreMost (length old) most → IsOne most → max most was ≡ fold max 0 (map greatest_of new)
    greatest_is_that less done one =
        greatest_is (map greatest_of new) (max most was) (none_is_more done)
        (⊎_elim
        (λ (lt : most < was). let same : was ≡ max most was = omega (arith, lt) in subst IsOne same (still_one less))
        (λ (ge : was ≤ most). let same : most ≡ max most was = omega (arith, ge) in subst IsOne same one)
        (cases_lt most was))
