-- Zeros behind the fields of a page.
use Rattle.std.proofs.Common.{◌≡◌, ℕ, zero, suc, Bool, false, true, ◌+◌, ◌-◌, ◌≤◌, List, [], ◌∷◌, ◌++◌, length, take, drop, refl, sym, ap, ◌∙◌, append_assoc, arith}
use Rattle.std.proofs.lemmas.List.{length-append, length-replicate, replicate-append-replicate, drop-replicate, take-replicate, take-append-drop, take_at, drop_at, length-take, length-drop, drop-drop}
use Rattle.std.proofs.Math.Seq.{take-append-add}
use Rattle.std.proofs.lemmas.Bool.Decides.{nat_tests}
use Rattle.std.specs.Prelude.{◌==◌, ◌&&◌}
use Rattle.std.specs.List.{list_all}
use Rattle.std.proofs.lemmas.Slice.{take-put_mid, drop-put_mid}
use borrow.Rule.Slice.PartMut.{put_mid}
use Rattle.pages.specs.Spelling.{zeros, page_of, body, IsBlankFrom}

pub length-zeros : (n : ℕ) → length (zeros n) ≡ n
unfolding zeros
length-zeros n = length-replicate n 0

pub zeros-append : (m n : ℕ) → zeros m ++ zeros n ≡ zeros (m + n)
unfolding zeros
zeros-append m n = replicate-append-replicate m n 0

pub drop-zeros : (m n : ℕ) → drop m (zeros n) ≡ zeros (n - m)
unfolding zeros
drop-zeros m n = drop-replicate m n 0

pub take-zeros : (m n : ℕ) → m ≤ n → take m (zeros n) ≡ zeros m
unfolding zeros
take-zeros m n h = take-replicate m n 0 h

-- a page whose body is that of the page of these fields begins with them
pub begins : (page fields : List ℕ) → length fields ≤ 4095 → body page ≡ body (page_of fields) → (rest : List ℕ) × (page ≡ fields ++ rest)
unfolding page_of
begins page fields few e =
    let n : ℕ = 4095 - length fields in
    let k : 4095 ≡ length fields + n = omega arith in
    let tail : List ℕ = zeros (4096 - length fields) in
    let front : body page ≡ fields ++ take n tail = e ∙ ap (λ (m : ℕ). take m (fields ++ tail)) k ∙ take-append-add fields tail n in
    (take n tail ++ drop 4095 page, sym (take-append-drop 4095 page) ∙ ap (λ (xs : List ℕ). xs ++ drop 4095 page) front ∙ append_assoc fields (take n tail) (drop 4095 page))

-- one write after others
pub then_put : {old new : List ℕ} (written bytes : List ℕ) → new ≡ old ++ bytes → old ≡ written → new ≡ written ++ bytes
then_put written bytes e f = e ∙ ap (λ (xs : List ℕ). xs ++ bytes) f

-- the same where the bytes are told by an equation
pub then_put_as : {old new : List ℕ} (written bytes told : List ℕ) → new ≡ old ++ bytes → old ≡ written → bytes ≡ told → new ≡ written ++ told
then_put_as written bytes told e f g = then_put written bytes e f ∙ ap (λ (xs : List ℕ). written ++ xs) g

size_from : (n : ℕ) (xs : List ℕ) → length (take n xs) ≡ n → length (drop n xs) ≡ 4096 - n → n ≤ 4096 → length xs ≡ 4096
size_from n xs p q h = omega (arith, p, q, ap length (take-append-drop n xs), length-append (take n xs) (drop n xs))

-- what a writer has after a write of these bytes
pub written : (used : ℕ) (page bytes new : List ℕ) (n : ℕ) → IsBlankFrom used page → used + length bytes ≤ 4096 → n ≡ length bytes → new ≡ bytes
    → (take (used + length bytes) (put_mid used n page new) ≡ take used page ++ bytes) × IsBlankFrom (used + length bytes) (put_mid used n page new)
written used page bytes new n is fits e f =
    let same : length new ≡ length bytes = ap length f in
    let size : length page ≡ 4096 = is.size in
    let within : used ≤ length page = omega arith in
    let left : (4096 - used) - length bytes ≡ 4096 - (used + length bytes) = omega arith in
    let front : take (used + length bytes) (put_mid used n page new) ≡ take used page ++ bytes = take-put_mid used n page new (used + length bytes) (omega arith) within ∙ ap (λ (xs : List ℕ). take used page ++ xs) f in
    let rest : drop (used + length bytes) (put_mid used n page new) ≡ zeros (4096 - (used + length bytes)) = drop-put_mid used n page new (used + length bytes) (omega arith) within (omega arith) ∙ sym (drop-drop (length bytes) used page) ∙ ap (drop (length bytes)) is.blank ∙ drop-zeros (length bytes) (4096 - used) ∙ ap zeros left in
    (front, record { within = fits; size = size_from (used + length bytes) (put_mid used n page new) (omega (arith, ap length front, length-append (take used page) bytes, length-take used page)) (omega (arith, ap length rest, length-zeros (4096 - (used + length bytes)))) fits; blank = rest })

-- the same where zeros stay
pub skipped : (used count : ℕ) (page : List ℕ) → IsBlankFrom used page → used + count ≤ 4096
    → (take (used + count) page ≡ take used page ++ zeros count) × IsBlankFrom (used + count) page
skipped used count page is fits =
    let size : length page ≡ 4096 = is.size in
    let left : (4096 - used) - count ≡ 4096 - (used + count) = omega arith in
    let front : length (take used page) ≡ used = omega (arith, length-take used page) in
    let parts : page ≡ take used page ++ zeros (4096 - used) = sym (take-append-drop used page) ∙ ap (λ (xs : List ℕ). take used page ++ xs) is.blank in
    let whole : zeros (4096 - used) ≡ zeros count ++ zeros (4096 - (used + count)) = ap zeros (let e : 4096 - used ≡ count + (4096 - (used + count)) = omega arith in e) ∙ sym (zeros-append count (4096 - (used + count))) in
    let split : page ≡ (take used page ++ zeros count) ++ zeros (4096 - (used + count)) = parts ∙ ap (λ (xs : List ℕ). take used page ++ xs) whole ∙ sym (append_assoc (take used page) (zeros count) (zeros (4096 - (used + count)))) in
    let len : length (take used page ++ zeros count) ≡ used + count = omega (arith, length-append (take used page) (zeros count), length-zeros count) in (
      ap (take (used + count)) split ∙ take_at (take used page ++ zeros count) (zeros (4096 - (used + count))) (used + count) len,
      record { within = fits; size = size; blank = sym (drop-drop count used page) ∙ ap (drop count) is.blank ∙ drop-zeros count (4096 - used) ∙ ap zeros left },
    )

-- what a writer has written, and zeros, are the page
pub finished : (used : ℕ) (page : List ℕ) → IsBlankFrom used page → page ≡ page_of (take used page)
unfolding page_of
finished used page is =
    let size : length page ≡ 4096 = is.size in
    let within : used ≤ 4096 = is.within in
    let front : length (take used page) ≡ used = omega (arith, length-take used page) in
    sym (take-append-drop used page) ∙ ap (λ (xs : List ℕ). take used page ++ xs) (is.blank ∙ ap zeros (let e : 4096 - used ≡ 4096 - length (take used page) = omega arith in e))

-- a test of each byte for zero
pub zeros_pass : (n : ℕ) → list_all (λ byte. byte == 0) (zeros n) ≡ true
unfolding zeros
zeros_pass zero = refl
zeros_pass (suc n) = zeros_pass n

pub both : (a b : Bool) → (a && b) ≡ true → (a ≡ true) × (b ≡ true)
both true b e = (refl, e)
both false b e = absurd cc

is_zero : (n : ℕ) → (n == 0) ≡ true → n ≡ 0
is_zero n e = grind (arith, nat_tests)

pub pass_zeros : (bytes : List ℕ) → list_all (λ byte. byte == 0) bytes ≡ true → bytes ≡ zeros (length bytes)
unfolding zeros
pass_zeros [] e = refl
pass_zeros (byte ∷ bytes) e =
    let passed = both (byte == 0) (list_all (λ x. x == 0) bytes) e in
    let is : byte ≡ 0 = is_zero byte passed.0 in
    ap (λ (x : ℕ). x ∷ bytes) is ∙ ap (λ (xs : List ℕ). 0 ∷ xs) (pass_zeros bytes passed.1)

-- a page that begins with these fields, and whose other bytes pass the test
pub whole : (n : ℕ) (page front : List ℕ) → length page ≡ 4096 → n ≤ 4096 → front ≡ take n page → list_all (λ byte. byte == 0) (drop n page) ≡ true → page ≡ page_of front
unfolding page_of
whole n page front size few is pass =
    let k : length (drop n page) ≡ 4096 - length front = omega (arith, length-drop n page, ap length is, length-take n page) in
    sym (take-append-drop n page) ∙ ap (λ (xs : List ℕ). xs ++ drop n page) (sym is) ∙ ap (λ (xs : List ℕ). front ++ xs) (pass_zeros (drop n page) pass ∙ ap zeros k)

-- behind its fields a page passes the test
pub rest_passes : (n : ℕ) (page fields : List ℕ) → page ≡ page_of fields → length fields ≡ n → list_all (λ byte. byte == 0) (drop n page) ≡ true
unfolding page_of
rest_passes n page fields is len =
    ap (λ (xs : List ℕ). list_all (λ byte. byte == 0) (drop n xs)) is
    ∙ ap (list_all (λ byte. byte == 0)) (drop_at fields (zeros (4096 - length fields)) n len) ∙ zeros_pass (4096 - length fields)
