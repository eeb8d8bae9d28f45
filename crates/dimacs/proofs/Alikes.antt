-- Lines that say the same.
use Rattle.std.proofs.Common.{◌≡◌, ℕ, ◌<◌, Bool, true, false, List, [], ◌∷◌, ◌++◌, length, None, Result, Ok, Err, refl, ◌∙◌, arith, inl, inr}
use Rattle.dimacs.specs.declared.fault.Code.{Code}
use Rattle.dimacs.specs.Alike.{AreFieldsAlike, AllAlike, SaySame}
use Rattle.dimacs.specs.Faults.{Row, Judge, is_remark}
use Rattle.dimacs.specs.Joint.{is_run}
use Rattle.dimacs.specs.Progress.{TakesOrRuns}
use Rattle.dimacs.proofs.Items.{by_memory_of}

pub all_alike : (row : Row) → AllAlike row row
all_alike [] = tt
all_alike (x ∷ xs) = (inl refl, all_alike xs)

pub same_row : (row : Row) → SaySame row row
same_row [] = tt
same_row (x ∷ xs) = (refl, all_alike xs)

pub same_is : (one other : Row) → one ≡ other → SaySame one other
same_is one other e = rw e (same_row other)

alike_then : (x y z : List ℕ) → AreFieldsAlike x y → AreFieldsAlike y z → AreFieldsAlike x z
alike_then x y z (inl e) (inl f) = inl (e ∙ f)
alike_then x y z (inl e) (inr f) = inr (rw e f.0, f.1, rw e f.2)
alike_then x y z (inr e) (inl f) = inr (e.0, (rw (← f) e.1), (rw (← f) e.2))
alike_then x y z (inr e) (inr f) = inr (e.0, f.1, e.2 ∙ f.2)

all_then : (xs ys zs : Row) → AllAlike xs ys → AllAlike ys zs → AllAlike xs zs
all_then [] [] zs e f = f
all_then [] (y ∷ ys) zs e f = absurd e
all_then (x ∷ xs) [] zs e f = absurd e
all_then (x ∷ xs) (y ∷ ys) [] e f = absurd f
all_then (x ∷ xs) (y ∷ ys) (z ∷ zs) e f = (alike_then x y z e.0 f.0, all_then xs ys zs e.1 f.1)

pub same_then : (xs ys zs : Row) → SaySame xs ys → SaySame ys zs → SaySame xs zs
same_then [] [] zs e f = f
same_then [] (y ∷ ys) zs e f = absurd e
same_then (x ∷ xs) [] zs e f = absurd e
same_then (x ∷ xs) (y ∷ ys) [] e f = absurd f
same_then (x ∷ xs) (y ∷ ys) (z ∷ zs) e f = (e.0 ∙ f.0, all_then xs ys zs e.1 f.1)

-- one field is another, which is not the first
pub one_differs : (before : Row) (f g : List ℕ) (after : Row) → 0 < length before → AreFieldsAlike f g → SaySame (before ++ f ∷ after) (before ++ g ∷ after)
one_differs [] f g after some alike = absurd (omega (arith, some))
one_differs (x ∷ xs) f g after some alike = (refl, go xs)
  where
    go : (xs : Row) → AllAlike (xs ++ f ∷ after) (xs ++ g ∷ after)
    go [] = (alike, all_alike after)
    go (x ∷ xs) = (inl refl, go xs)

-- What does not tell them apart.

pub alike_length : (xs ys : Row) → AllAlike xs ys → length xs ≡ length ys
alike_length [] [] e = refl
alike_length [] (y ∷ ys) e = absurd e
alike_length (x ∷ xs) [] e = absurd e
alike_length (x ∷ xs) (y ∷ ys) e = omega (arith, alike_length xs ys e.1)

pub remark_same_row : (mark : ℕ) (one other : Row) → SaySame one other → is_remark mark one ≡ is_remark mark other
remark_same_row mark [] [] e = refl
remark_same_row mark [] (y ∷ ys) e = absurd e
remark_same_row mark (x ∷ xs) [] e = absurd e
remark_same_row mark (x ∷ xs) (y ∷ ys) e = rw e.0 refl

pub run_same_row : (one other : Row) → SaySame one other → is_run one ≡ is_run other
run_same_row [] [] e = refl
run_same_row [] (y ∷ ys) e = absurd e
run_same_row (x ∷ xs) [] e = absurd e
run_same_row (x ∷ xs) (y ∷ ys) e = let count : length (x ∷ xs) ≡ length (y ∷ ys) = omega (arith, alike_length xs ys e.1) in rw (count, e.0) refl

-- what a line answers is so of each line that says the same
pub answered_same : {S : Type 0} (judge : Judge) (has_taken : List Row → S → Type 0)
    → ((earlier : List Row) (one other : Row) → SaySame one other → judge earlier one ≡ judge earlier other)
    → ((earlier : List Row) (one other : Row) (value : S) → SaySame one other → judge earlier one ≡ None → has_taken (earlier ++ other ∷ []) value → has_taken (earlier ++ one ∷ []) value)
    → (until : Bool) (earlier : List Row) (one other : Row) (new : S) (result : Result Bool Code) → SaySame one other
    → TakesOrRuns judge has_taken until earlier other new result → TakesOrRuns judge has_taken until earlier one new result
answered_same judge has_taken judged taken until earlier one other new (Ok true) same (u, is, has) = (u, run_same_row one other same ∙ is, has)
answered_same judge has_taken judged taken until earlier one other new (Ok false) same (none, has, no_run) =
    let clean : judge earlier one ≡ None = judged earlier one other same ∙ none in
    (clean, taken earlier one other new same clean has, λ u. run_same_row one other same ∙ no_run u)
answered_same judge has_taken judged taken until earlier one other new (Err code) same why =
    by_memory_of code why (λ p. (judged earlier one other same ∙ p.0, λ u. run_same_row one other same ∙ p.1 u)) (λ t. t)
