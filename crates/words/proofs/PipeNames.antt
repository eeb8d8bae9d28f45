-- The names of pairs of pipes, one after the other.
use Rattle.std.proofs.Common.{◌≡◌, ◌+◌, ◌*◌, ◌/◌, ◌≢◌, ℕ, zero, suc, ◌∙◌, List, [], ◌∷◌, ◌++◌, Option, Some, None, slice_get, option_map, unwrap_or, length, take, ap, refl, sym, subst, arith}
use Rattle.std.proofs.Common.{◌<◌, ◌≤◌, ◌⊎◌, inl, inr, ⊎_elim, Bool, true, false, ltb, Result, Ok, Err, IfOk}
use Rattle.std.specs.Prelude.{IfErr, nat_le}
use Rattle.std.proofs.lemmas.Bool.{ltb-true, ltb-false}
use Rattle.std.proofs.lemmas.List.{length-map, map-append}
use Rattle.std.proofs.Common.{bytes_eq, slice_index_or}
use Rattle.std.proofs.lemmas.Slice.Eq.{bytes_eq-Decides}
use Rattle.std.proofs.lemmas.Option.{slice_get-map, slice_get-get_or}
use Rattle.words.specs.declared.pipes.Misfit.{Misfit}
use Rattle.words.specs.declared.pipes.Misfit.TheVariants.{LonePipe}
use Rattle.std.specs.Borrow.{Bor}
use Rattle.words.specs.Pipes.{names_of, texts, AreDifferent, ArePipesFit, AreMisfit, ArePairs, AreUnfit, AskBehind}
use Rattle.words.specs.declared.pipes.PipePair.{PipePair}

-- a pair more has two names more
pub names_more : (pairs : List PipePair) (pair : PipePair) → names_of (pairs ++ pair ∷ []) ≡ names_of pairs ++ pair.input.now ∷ pair.output.now ∷ []
names_more [] pair = refl
names_more (p ∷ ps) pair = ap (λ (names : List (List ℕ)). p.input.now ∷ p.output.now ∷ names) (names_more ps pair)

-- each pair has two
pub length-names_of : (pairs : List PipePair) → length (names_of pairs) ≡ 2 * length pairs
length-names_of [] = refl
length-names_of (p ∷ ps) = let rest = length-names_of ps in omega arith

-- the one that is read
pub name_read : (pairs : List PipePair) (k : ℕ) → slice_get (names_of pairs) (2 * k) ≡ option_map (λ p. p.input.now) (slice_get pairs k)
name_read [] k = refl
name_read (p ∷ ps) zero = refl
name_read (p ∷ ps) (suc k) =
    let two : suc (suc (2 * k)) ≡ 2 * suc k = omega arith in
    subst (λ (n : ℕ). slice_get (names_of (p ∷ ps)) n ≡ option_map (λ (q : PipePair). q.input.now) (slice_get ps k)) two (name_read ps k)

-- and the one that is written
pub name_written : (pairs : List PipePair) (k : ℕ) → slice_get (names_of pairs) (2 * k + 1) ≡ option_map (λ p. p.output.now) (slice_get pairs k)
name_written [] k = refl
name_written (p ∷ ps) zero = refl
name_written (p ∷ ps) (suc k) =
    let two : suc (suc (2 * k + 1)) ≡ 2 * suc k + 1 = omega arith in
    subst (λ (n : ℕ). slice_get (names_of (p ∷ ps)) n ≡ option_map (λ (q : PipePair). q.output.now) (slice_get ps k)) two (name_written ps k)

-- two elements more are taken
pub take_two : {X : Type 0} (xs : List X) (n : ℕ) (x y : X) → slice_get xs n ≡ Some x → slice_get xs (suc n) ≡ Some y
    → take (suc (suc n)) xs ≡ take n xs ++ x ∷ y ∷ []
take_two {X = X} [] n x y first second = absurd cc
take_two {X = X} (z ∷ []) zero x y first second = absurd cc
take_two {X = X} (z ∷ w ∷ rest) zero x y first second =
    let a : z ≡ x = ap (λ o. unwrap_or o z) first in
    let b : w ≡ y = ap (λ o. unwrap_or o w) second in
    ap (λ (v : X). v ∷ w ∷ []) a ∙ ap (λ (v : X). x ∷ v ∷ []) b
take_two {X = X} (z ∷ zs) (suc n) x y first second = ap (λ (rest : List X). z ∷ rest) (take_two zs n x y first second)

-- the name at an even place is that of a pipe that is read, and that at an odd one of one that is written
pub name_at_even : (pairs : List PipePair) (n : ℕ) → n ≡ 2 * (n / 2) → slice_get (names_of pairs) n ≡ option_map (λ p. p.input.now) (slice_get pairs (n / 2))
name_at_even pairs n even =
    subst (λ (m : ℕ). slice_get (names_of pairs) m ≡ option_map (λ (p : PipePair). p.input.now) (slice_get pairs (n / 2))) (sym even) (name_read pairs (n / 2))

pub name_at_odd : (pairs : List PipePair) (n : ℕ) → n ≢ 2 * (n / 2) → slice_get (names_of pairs) n ≡ option_map (λ p. p.output.now) (slice_get pairs (n / 2))
name_at_odd pairs n uneven =
    let odd : n ≡ 2 * (n / 2) + 1 = omega arith in
    subst (λ (m : ℕ). slice_get (names_of pairs) m ≡ option_map (λ (p : PipePair). p.output.now) (slice_get pairs (n / 2))) (sym odd) (name_written pairs (n / 2))

-- the first names of pairs, and two more
pub texts_two : (words : List (Bor (List ℕ))) (n : ℕ) (x y : Bor (List ℕ)) → slice_get words n ≡ Some x → slice_get words (suc n) ≡ Some y
    → take (suc (suc n)) (texts words) ≡ take n (texts words) ++ x.now ∷ y.now ∷ []
texts_two words n x y first second =
    take_two (texts words) n x.now y.now
    (slice_get-map (λ (w : Bor (List ℕ)). w.now) words n ∙ ap (option_map (λ (w : Bor (List ℕ)). w.now)) first)
    (slice_get-map (λ (w : Bor (List ℕ)). w.now) words (suc n) ∙ ap (option_map (λ (w : Bor (List ℕ)). w.now)) second)

-- what holds below a number and at it
pub below_more : (P : ℕ → Type 0) (n : ℕ) → ((k : ℕ) → k < n → P k) → P n → (k : ℕ) → k < n + 1 → P k
below_more P n below at k less = go (ltb k n) refl
  where
    go : (b : Bool) → ltb k n ≡ b → P k
    go true e = below k (ltb-true k n e)
    go false e = let above = ltb-false k n e in let same : n ≡ k = omega arith in subst P same at

-- nothing stands beyond the end
past : {X : Type 0} (xs : List X) (i : ℕ) → length xs ≤ i → slice_get xs i ≡ None
past [] i beyond = refl
past (x ∷ xs) zero beyond = absurd (omega arith)
past (x ∷ xs) (suc i) beyond = past xs i (omega arith)

pub name_past : (pairs : List PipePair) (n : ℕ) → length pairs ≤ n / 2 → slice_get (names_of pairs) n ≡ None
name_past pairs n beyond = let two = length-names_of pairs in past (names_of pairs) n (omega arith)

-- pairs of so many different names are fit
pub fit_of : {V : Type 0} (items_of : V → List PipePair) (result : Result V Misfit) (words : List (Bor (List ℕ))) → length words ≤ 120 → AreDifferent (texts words)
    → IfOk result (λ pairs. names_of (items_of pairs) ≡ texts words) → IfOk result (λ pairs. ArePipesFit (items_of pairs))
fit_of items_of (Ok pairs) words most different same =
    let two = length-names_of (items_of pairs) in
    let long = ap length same ∙ length-map words (λ (w : Bor (List ℕ)). w.now) in (
      omega arith,
      subst AreDifferent (sym same) different,
    )
fit_of items_of (Err why) words most different same = tt

-- the word at a place
pub text_at : (words : List (Bor (List ℕ))) (k : ℕ) (d : Bor (List ℕ)) → k < length words → slice_get (texts words) k ≡ Some (slice_index_or words k d).now
text_at words k d less =
    slice_get-map (λ (w : Bor (List ℕ)). w.now) words k ∙ ap (option_map (λ (w : Bor (List ℕ)). w.now)) (slice_get-get_or words k d less)

-- two words that compare as the same are the same
pub same_texts : (words : List (Bor (List ℕ))) (i j : ℕ) (d : Bor (List ℕ)) → i < length words → j < length words
    → bytes_eq (slice_index_or words i d).now (slice_index_or words j d).now ≡ true → slice_get (texts words) i ≡ slice_get (texts words) j
same_texts words i j d i_less j_less same =
    text_at words i d i_less ∙ ap (λ (w : List ℕ). Some w) ((bytes_eq-Decides (slice_index_or words i d).now (slice_index_or words j d).now).0 same) ∙ sym (text_at words j d j_less)

clash : (b : Bool) → b ≡ true → b ≡ false → ⊥
clash b here there = absurd cc

-- and two that don't are not
pub other_texts : (words : List (Bor (List ℕ))) (i j : ℕ) (d : Bor (List ℕ)) → i < length words → j < length words
    → bytes_eq (slice_index_or words i d).now (slice_index_or words j d).now ≡ false → slice_get (texts words) i ≡ slice_get (texts words) j → ⊥
other_texts words i j d i_less j_less other same =
    let both = sym (text_at words i d i_less) ∙ same ∙ text_at words j d j_less in
    let equal = ap (λ (o : Option (List ℕ)). unwrap_or o []) both in
    clash (bytes_eq (slice_index_or words i d).now (slice_index_or words j d).now)
    ((bytes_eq-Decides (slice_index_or words i d).now (slice_index_or words j d).now).1 equal)
    other

-- the first names make the pairs so far, and two more a pair more
pub pair_more : (words : List (Bor (List ℕ))) (old new : List PipePair) (k : ℕ) (d : Bor (List ℕ)) (asks : Bool) → k < length words / 2
    → new ≡ old ++ record { input = slice_index_or words (2 * k) d; output = slice_index_or words (2 * k + 1) d; asks_alone = asks } ∷ []
    → names_of old ≡ take (2 * k) (texts words) → names_of new ≡ take (2 * (k + 1)) (texts words)
pair_more words old new k d asks less more had =
    let x = slice_index_or words (2 * k) d in
    let y = slice_index_or words (2 * k + 1) d in
    let pair : PipePair = record { input = x; output = y; asks_alone = asks } in
    let first = slice_get-get_or words (2 * k) d (omega arith) in
    let step : 2 * k + 1 ≡ suc (2 * k) = omega arith in
    let second = subst (λ (m : ℕ). slice_get words m ≡ Some y) step (slice_get-get_or words (2 * k + 1) d (omega arith)) in
    let two : suc (suc (2 * k)) ≡ 2 * (k + 1) = omega arith in
    ap names_of more ∙ names_more old pair ∙ ap (λ (names : List (List ℕ)). names ++ x.now ∷ y.now ∷ []) had
    ∙ sym (texts_two words (2 * k) x y first second) ∙ ap (λ (n : ℕ). take n (texts words)) two

-- what stands in a list with one element more
pub of_more : {X : Type 0} (xs : List X) (x y : X) (i : ℕ) → slice_get (xs ++ x ∷ []) i ≡ Some y → (slice_get xs i ≡ Some y) ⊎ ((i ≡ length xs) × (x ≡ y))
of_more [] x y zero is = inr (refl, ap (λ o. unwrap_or o x) is)
of_more [] x y (suc i) is = absurd cc
of_more (z ∷ zs) x y zero is = inl is
of_more (z ∷ zs) x y (suc i) is = ⊎_elim (λ (here : slice_get zs i ≡ Some y). inl here) (λ (end : (i ≡ length zs) × (x ≡ y)). inr (ap suc end.0, end.1)) (of_more zs x y i is)

-- of no pairs there is nothing to say
pub asks_none : (changing : ℕ) (pairs : List PipePair) → pairs ≡ [] → AskBehind changing pairs
asks_none changing pairs none place pair is = absurd (cc (subst (λ (ps : List PipePair). slice_get ps place ≡ Some pair) none is))

-- a pair more, at which sessions ask alone where it stands behind so many names
pub asks_more : (changing : ℕ) (old new : List PipePair) (pair : PipePair) (k : ℕ) → length old ≡ k → new ≡ old ++ pair ∷ [] → pair.asks_alone ≡ nat_le changing (2 * k)
    → AskBehind changing old → AskBehind changing new
asks_more changing old new pair k count more asks had place found is =
    ⊎_elim (λ (before : slice_get old place ≡ Some found). had place found before)
    (λ (end : (place ≡ length old) × (pair ≡ found)). ap (λ (p : PipePair). p.asks_alone) (sym end.1) ∙ asks ∙ ap (λ (n : ℕ). nat_le changing (2 * n)) (sym (end.0 ∙ count)))
    (of_more old pair found place (subst (λ (pairs : List PipePair). slice_get pairs place ≡ Some found) more is))

-- the pairs of names in one list are those of two, one behind the other
pub pairs_in : {V : Type 0} (items_of : V → List PipePair) (result : Result V Misfit) (names changing asking : List (Bor (List ℕ))) → names ≡ changing ++ asking
    → IfOk result (λ pairs. names_of (items_of pairs) ≡ texts names) → IfOk result (λ pairs. AskBehind (length changing) (items_of pairs))
    → IfOk result (λ pairs. ArePairs (texts changing) (texts asking) (items_of pairs))
pairs_in items_of (Ok pairs) names changing asking joined same asks = (
  same ∙ ap texts joined ∙ map-append (λ (w : Bor (List ℕ)). w.now) changing asking,
  subst (λ (n : ℕ). AskBehind n (items_of pairs)) (sym (length-map changing (λ (w : Bor (List ℕ)). w.now))) asks,
)
pairs_in items_of (Err why) names changing asking joined same asks = tt

-- and so is the reason for which they are none
pub unfit_in : {V : Type 0} (result : Result V Misfit) (names changing asking : List (Bor (List ℕ))) → names ≡ changing ++ asking → IfErr result (AreUnfit (texts names))
    → IfErr result (AreMisfit (texts changing) (texts asking))
unfit_in (Ok pairs) names changing asking joined unfit = tt
unfit_in (Err why) names changing asking joined unfit =
    misfit why (texts changing) (texts asking) (subst (λ (ns : List (List ℕ)). AreUnfit ns why) (ap texts joined ∙ map-append (λ (w : Bor (List ℕ)). w.now) changing asking) unfit)
  where
    misfit : (why : Misfit) (first rest : List (List ℕ)) → AreUnfit (first ++ rest) why → AreMisfit first rest why
    misfit LonePipe first rest unfit = absurd unfit
    misfit _ first rest unfit = unfit
