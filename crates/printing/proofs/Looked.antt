-- The numbers of arcs, one arc more.
use Rattle.std.proofs.Common.{◌≡◌, ◌∙◌, ℕ, ◌+◌, ◌<◌, Bool, true, false, cond, List, [], ◌∷◌, ◌++◌, Option, length, get_or, take, map, refl, sym, ap, subst, arith, append-nil}
use Rattle.std.specs.Prelude.{filter}
use Rattle.std.specs.Io.KnownBytes.{Appends}
use Rattle.std.specs.List.{flat_map, enumerate_from}
use Rattle.std.proofs.KnownBytes.{Appends-trans}
use Rattle.std.proofs.lemmas.Grind.{flat_map-append}
use Rattle.std.proofs.lemmas.List.{take_more, length-append, length-take, map-append}
use Rattle.std.proofs.lemmas.List.Elements.{filter-append}
use Rattle.roadnet.specs.declared.arcs.RoadArc.{RoadArc}
use Rattle.dimacs.specs.Faults.{Row}
use Rattle.printing.specs.Exports.{text_line_of, text_of}
use Rattle.printing.specs.Chosen.{arcs_where}

enumerate_push : (n : ℕ) (arcs : List RoadArc) (arc : RoadArc) → enumerate_from n (arcs ++ arc ∷ []) ≡ enumerate_from n arcs ++ (n + length arcs, arc) ∷ []
enumerate_push n [] arc = let same : n ≡ n + 0 = omega arith in ap {B = List (ℕ × RoadArc)} (λ k. (k, arc) ∷ []) same
enumerate_push n (x ∷ xs) arc =
    let same : n + 1 + length xs ≡ n + length (x ∷ xs) = omega arith in
    ap (λ l. (n, x) ∷ l) (enumerate_push (n + 1) xs arc ∙ ap {B = List (ℕ × RoadArc)} (λ k. enumerate_from (n + 1) xs ++ (k, arc) ∷ []) same)

where_push : (test : RoadArc → Bool) (arcs : List RoadArc) (arc : RoadArc) → arcs_where test (arcs ++ arc ∷ []) ≡ arcs_where test arcs ++ cond (test arc) ((1 + length arcs) ∷ []) []
where_push test arcs arc =
    let passes : ℕ × RoadArc → Bool = λ p. test p.1 in
    let first : ℕ × RoadArc → ℕ = λ p. p.0 in
    ap (λ l. map first (filter passes l)) (enumerate_push 1 arcs arc)
    ∙ ap (map first) (filter-append passes (enumerate_from 1 arcs) ((1 + length arcs, arc) ∷ []))
    ∙ map-append first (filter passes (enumerate_from 1 arcs)) (filter passes ((1 + length arcs, arc) ∷ []))
    ∙ ap (λ (l : List ℕ). arcs_where test arcs ++ l) (one (test arc))
  where
    one : (b : Bool) → map (λ (p : ℕ × RoadArc). p.0) (cond b ((1 + length arcs, arc) ∷ []) []) ≡ cond b ((1 + length arcs) ∷ []) []
    one true = refl
    one false = refl

-- what is written of each number, one arc more
pub where_more : (test : RoadArc → Bool) (f : ℕ → List ℕ) (arcs : List RoadArc) (i : ℕ) (d : RoadArc) → i < length arcs
    → flat_map f (arcs_where test (take (i + 1) arcs)) ≡ flat_map f (arcs_where test (take i arcs)) ++ cond (test (get_or arcs i d)) (f (i + 1)) []
where_more test f arcs i d lt =
    let arc = get_or arcs i d in
    let count : 1 + length (take i arcs) ≡ i + 1 = omega (arith, length-take i arcs, lt) in
    ap (λ (l : List RoadArc). flat_map f (arcs_where test l)) (take_more arcs i d lt)
    ∙ ap (flat_map f) (where_push test (take i arcs) arc)
    ∙ flat_map-append f (arcs_where test (take i arcs)) (cond (test arc) ((1 + length (take i arcs)) ∷ []) [])
    ∙ ap (λ (l : List ℕ). flat_map f (arcs_where test (take i arcs)) ++ l) (one (test arc) (1 + length (take i arcs)) ∙ ap (λ (k : ℕ). cond (test arc) (f k) []) count)
  where
    one : (b : Bool) (k : ℕ) → flat_map f (cond b (k ∷ []) []) ≡ cond b (f k) []
    one true k = append-nil (f k)
    one false k = refl

pub written_more : (test : RoadArc → Bool) (f : ℕ → List ℕ) (arcs : List RoadArc) (i : ℕ) (d : RoadArc) (old mid new : Option (List ℕ)) → i < length arcs
    → Appends old mid (flat_map f (arcs_where test (take i arcs))) → Appends mid new (cond (test (get_or arcs i d)) (f (i + 1)) []) → Appends old new (flat_map f (arcs_where test (take (i + 1) arcs)))
written_more test f arcs i d old mid new lt before here = subst (Appends old new) (sym (where_more test f arcs i d lt)) (Appends-trans old mid new _ _ before here)

-- the same of an arc that was read at its place
pub written_at : (test : RoadArc → Bool) (f : ℕ → List ℕ) (arcs : List RoadArc) (i : ℕ) (arc : RoadArc) (old mid new : Option (List ℕ)) → i < length arcs → get_or arcs i arc ≡ arc
    → Appends old mid (flat_map f (arcs_where test (take i arcs))) → Appends mid new (cond (test arc) (f (i + 1)) []) → Appends old new (flat_map f (arcs_where test (take (i + 1) arcs)))
written_at test f arcs i arc old mid new lt is before here =
    written_more test f arcs i arc old mid new lt before (subst (λ (x : RoadArc). Appends mid new (cond (test x) (f (i + 1)) [])) (sym is) here)

-- how many they are, one arc more
one_more : (test : RoadArc → Bool) (arcs : List RoadArc) (i : ℕ) (d : RoadArc) → i < length arcs
    → arcs_where test (take (i + 1) arcs) ≡ arcs_where test (take i arcs) ++ cond (test (get_or arcs i d)) ((1 + length (take i arcs)) ∷ []) []
one_more test arcs i d lt = ap (arcs_where test) (take_more arcs i d lt) ∙ where_push test (take i arcs) (get_or arcs i d)

pub counted_yes : (test : RoadArc → Bool) (arcs : List RoadArc) (i : ℕ) (d : RoadArc) (count : ℕ) → i < length arcs → test (get_or arcs i d) ≡ true → count ≡ length (arcs_where test (take i arcs))
    → count + 1 ≡ length (arcs_where test (take (i + 1) arcs))
counted_yes test arcs i d count lt passes is =
    let more = one_more test arcs i d lt in
    let longer : arcs_where test (take (i + 1) arcs) ≡ arcs_where test (take i arcs) ++ (1 + length (take i arcs)) ∷ [] = rw passes at more in
    omega (arith, is, ap length longer, length-append (arcs_where test (take i arcs)) ((1 + length (take i arcs)) ∷ []))

pub counted_no : (test : RoadArc → Bool) (arcs : List RoadArc) (i : ℕ) (d : RoadArc) (count : ℕ) → i < length arcs → test (get_or arcs i d) ≡ false → count ≡ length (arcs_where test (take i arcs))
    → count ≡ length (arcs_where test (take (i + 1) arcs))
counted_no test arcs i d count lt fails is =
    let more = one_more test arcs i d lt in
    let same : arcs_where test (take (i + 1) arcs) ≡ arcs_where test (take i arcs) ++ [] = rw fails at more in
    is ∙ ap length (sym (append-nil (arcs_where test (take i arcs)))) ∙ sym (ap length same)

-- ---- the same of lines
of_rows : {X : Type 0} (row : X → Row) (xs : List X) → text_of (map row xs) ≡ flat_map (λ x. text_line_of (row x)) xs
of_rows row [] = refl
of_rows row (x ∷ xs) = ap (λ (l : List ℕ). text_line_of (row x) ++ l) (of_rows row xs)

pub row_written : {X : Type 0} (row : X → Row) (xs : List X) (i : ℕ) (d : X) (old mid new : Option (List ℕ)) → i < length xs
    → Appends old mid (text_of (map row (take i xs))) → Appends mid new (text_line_of (row (get_or xs i d))) → Appends old new (text_of (map row (take (i + 1) xs)))
row_written row xs i d old mid new lt before here =
    let more : text_of (map row (take (i + 1) xs)) ≡ text_of (map row (take i xs)) ++ text_line_of (row (get_or xs i d)) =
    ap (λ (l : List _). text_of (map row l)) (take_more xs i d lt)
    ∙ of_rows row (take i xs ++ get_or xs i d ∷ [])
    ∙ flat_map-append (λ x. text_line_of (row x)) (take i xs) (get_or xs i d ∷ [])
    ∙ ap (λ (l : List ℕ). flat_map (λ x. text_line_of (row x)) (take i xs) ++ l) (append-nil (text_line_of (row (get_or xs i d))))
    ∙ ap (λ (l : List ℕ). l ++ text_line_of (row (get_or xs i d))) (sym (of_rows row (take i xs))) in
    subst (Appends old new) (sym more) (Appends-trans old mid new _ _ before here)

pub number_written : (test : RoadArc → Bool) (row : ℕ → Row) (arcs : List RoadArc) (i : ℕ) (d : RoadArc) (old mid new : Option (List ℕ)) → i < length arcs
    → Appends old mid (text_of (map row (arcs_where test (take i arcs)))) → Appends mid new (cond (test (get_or arcs i d)) (text_line_of (row (i + 1))) []) → Appends old new (text_of (map row (arcs_where test (take (i + 1) arcs))))
number_written test row arcs i d old mid new lt before here =
    subst (Appends old new) (sym (of_rows row (arcs_where test (take (i + 1) arcs))))
    (written_more test (λ k. text_line_of (row k)) arcs i d old mid new lt (subst (Appends old mid) (of_rows row (arcs_where test (take i arcs))) before) here)

-- the same of an arc that was read at its place
pub number_written_at : (test : RoadArc → Bool) (row : ℕ → Row) (arcs : List RoadArc) (i : ℕ) (arc : RoadArc) (old mid new : Option (List ℕ)) → i < length arcs → get_or arcs i arc ≡ arc
    → Appends old mid (text_of (map row (arcs_where test (take i arcs)))) → Appends mid new (cond (test arc) (text_line_of (row (i + 1))) []) → Appends old new (text_of (map row (arcs_where test (take (i + 1) arcs))))
number_written_at test row arcs i arc old mid new lt is before here =
    number_written test row arcs i arc old mid new lt before (subst (λ (x : RoadArc). Appends mid new (cond (test x) (text_line_of (row (i + 1))) [])) (sym is) here)
