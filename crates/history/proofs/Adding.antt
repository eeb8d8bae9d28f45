-- The steps of a history's book keep its rule.
use Rattle.std.proofs.Common.{◌≡◌, ◌≢◌, ℕ, zero, suc, ◌<◌, ◌==◌, true, false, true≢false, List, [], ◌∷◌, ◌++◌, length, refl, ap, sym, ◌∙◌, subst, arith, inl, append_assoc, None}
use Rattle.std.specs.Prelude.{All, slice_set, slice_index_or}
use Rattle.std.proofs.lemmas.List.{append-nil}
use Rattle.std.proofs.lemmas.List.Elements.{All-append}
use prog.Atomic.{either}
use Rattle.logbook.specs.Pages.{Cell, cell, gives, adds, Nib, no_nib, may_make, may_write, Moves}
use Rattle.history.specs.declared.entries.Link.{Link}
use Rattle.history.specs.Chains.{pen_of}
use Rattle.history.specs.Rules.{IsHome, IsLogKept, WritesBehind}

abbrev pub shown : List Link → List Link
shown log = []

abbrev pub moved : List Link → List Link → ℕ → Type 0
moved xs ys n = Unit {0}

-- a cell that comes home leaves the others where they are
home_set : (cs : List Cell) (j n k : ℕ) → IsHome cs k → IsHome (slice_set cs j (n, true)) k
home_set [] j n k h = absurd (omega (arith, h.0))
home_set (c ∷ cs) zero n zero h = (omega arith, refl)
home_set (c ∷ cs) zero n (suc k) h = h
home_set (c ∷ cs) (suc j) n zero h = (omega arith, h.1)
home_set (c ∷ cs) (suc j) n (suc k) h =
    let r = home_set cs j n k (omega (arith, h.0), h.1) in (omega (arith, r.0), r.1)

home_here : (cs : List Cell) (j n : ℕ) → j < length cs → IsHome (slice_set cs j (n, true)) j
home_here [] j n lt = absurd (omega (arith, lt))
home_here (c ∷ cs) zero n lt = (omega arith, refl)
home_here (c ∷ cs) (suc j) n lt = let r = home_here cs j n (omega (arith, lt)) in (omega (arith, r.0), r.1)

home_more : (cs more : List Cell) (k : ℕ) → IsHome cs k → IsHome (cs ++ more) k
home_more [] more k h = absurd (omega (arith, h.0))
home_more (c ∷ cs) more zero h = (omega arith, h.1)
home_more (c ∷ cs) more (suc k) h = let r = home_more cs more k (omega (arith, h.0), h.1) in (omega (arith, r.0), r.1)

within_set : (cs : List Cell) (j k n : ℕ) → k < length cs → k < length (slice_set cs j (n, true))
within_set [] j k n lt = absurd (omega (arith, lt))
within_set (c ∷ cs) zero k n lt = lt
within_set (c ∷ cs) (suc j) zero n lt = omega arith
within_set (c ∷ cs) (suc j) (suc k) n lt = let r = within_set cs j k n (omega (arith, lt)) in omega (arith, r)

all_home : (P Q : ℕ → Type 0) → ((k : ℕ) → P k → Q k) → (log : List Link) → All (λ l. P (pen_of l)) log → All (λ l. Q (pen_of l)) log
all_home P Q f log h = λ i d lt. f (pen_of (slice_index_or log i d)) (h i d lt)

all_behind : (P : Link → Type 0) (xs ys : List Link) → All P (xs ++ ys) → All P ys
all_behind P [] ys h = h
all_behind P (x ∷ xs) ys h = all_behind P xs ys (λ i d lt. h (suc i) d (omega (arith, lt)))

one : (P : Link → Type 0) (l : Link) → P l → All P (l ∷ [])
one P l p zero d lt = p
one P l p (suc i) d lt = absurd (omega (arith, lt))

-- an entry at home is not of a pen whose cell is away
apart_of : (cs : List Cell) (key : ℕ) → (cell cs key).1 ≡ false → (k : ℕ) → IsHome cs k → k ≢ key
apart_of cs key away k h same = true≢false (sym h.1 ∙ (ap (λ (n : ℕ). (cell cs n).1) same ∙ away))

-- who has a pen writes its entry, whatever the book is
pub writes_moves : (v : List Link) (l : Link) (p : Nib) → p.right ≡ may_write → pen_of l ≡ p.key
    → Moves IsLogKept shown moved 0 (v, (p, None)) (λ n. either (n == 0) 0 n) (λ found after. WritesBehind v l after.0)
writes_moves v l p right same cs log kept pre away =
    let gone = away right in
    let set : List Cell = slice_set cs 0 (either ((cell cs 0).0 == 0) 0 (cell cs 0).0, true) in
    let old : All (λ other. IsHome (slice_set set p.key (p.value, true)) (pen_of other)) log =
    all_home (IsHome cs) (IsHome (slice_set set p.key (p.value, true)))
    (λ k h. home_set set p.key p.value k (home_set cs 0 (either ((cell cs 0).0 == 0) 0 (cell cs 0).0) k h)) log kept.pens in
    let here : IsHome (slice_set set p.key (p.value, true)) (pen_of l) =
    subst (λ (k : ℕ). IsHome (slice_set set p.key (p.value, true)) k) (sym same)
    (home_here set p.key p.value (within_set cs 0 p.key (either ((cell cs 0).0 == 0) 0 (cell cs 0).0) gone.0)) in
    let others : All (λ other. IsHome cs (pen_of other)) pre.0 =
    all_behind (λ other. IsHome cs (pen_of other)) v pre.0 (subst (λ (w : List Link). All (λ other. IsHome cs (pen_of other)) w) (sym pre.1) kept.pens) in (
      kept.word.0,
      kept.word.1,
      (
        gives,
        l ∷ [],
        None,
        right,
        record {
          word = home_set set p.key p.value 0 (home_set cs 0 (either ((cell cs 0).0 == 0) 0 (cell cs 0).0) 0 kept.word);
          pens = All-append (λ other. IsHome (slice_set set p.key (p.value, true)) (pen_of other)) log (l ∷ []) old (one (λ other. IsHome (slice_set set p.key (p.value, true)) (pen_of other)) l here);
        },
        inl (refl, refl),
        record {
          others = pre.0;
          log_is = ap (λ w. w ++ l ∷ []) (sym pre.1) ∙ append_assoc v pre.0 (l ∷ []);
          apart = all_home (IsHome cs) (λ k. k ≢ pen_of l) (λ k h. apart_of cs (pen_of l) (subst (λ (n : ℕ). (cell cs n).1 ≡ false) (sym same) gone.1) k h) pre.0 others;
        },
      ),
    )

-- a pen can be made at any time
pub makes_moves : (v : List Link)
    → Moves IsLogKept shown moved 0 (v, (no_nib, None)) (λ n. either (n == 0) 0 n) (λ found after. after.1.0.right ≡ may_make)
makes_moves v cs log kept pre away =
    let set : List Cell = slice_set cs 0 (either ((cell cs 0).0 == 0) 0 (cell cs 0).0, true) in
    let still : (k : ℕ) → IsHome cs k → IsHome (set ++ (0, false) ∷ []) k =
    λ k h. home_more set ((0, false) ∷ []) k (home_set cs 0 (either ((cell cs 0).0 == 0) 0 (cell cs 0).0) k h) in (
      kept.word.0,
      kept.word.1,
      (
        adds,
        [],
        None,
        tt,
        record {
          word = still 0 kept.word;
          pens = subst (λ (w : List Link). All (λ other. IsHome (set ++ (0, false) ∷ []) (pen_of other)) w) (sym (append-nil log)) (all_home (IsHome cs) (IsHome (set ++ (0, false) ∷ [])) still log kept.pens);
        },
        inl (refl, refl),
        refl,
      ),
    )
