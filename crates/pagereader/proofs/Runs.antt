-- Pages of a run.
use Rattle.std.proofs.Common.{◌≡◌, ℕ, ◌+◌, ◌-◌, ◌*◌, ◌≤◌, List, ◌++◌, length, take, drop, ap, sym, ◌∙◌, arith, length-take}
use Rattle.std.specs.List.{slice_range}
use Rattle.std.proofs.lemmas.List.{drop-take, drop-drop, take-take, take-append-le}
use Rattle.storefile.specs.StoreFile.{page}

-- a page of a run is one of the file
pub page_of_run : (file bytes : List ℕ) (first k n i : ℕ) → bytes ≡ take n (drop (4096 * first) file) → k ≡ first + i → 4096 * (i + 1) ≤ n → take 4096 (drop (4096 * i) bytes) ≡ page file k
page_of_run file bytes first k n i is place fits =
    let rest : ℕ = n - 4096 * i in
    let size : n ≡ 4096 * i + rest = omega arith in
    let at : 4096 * first + 4096 * i ≡ 4096 * k = omega arith in
    let enough : 4096 ≤ rest = omega arith in
    ap (λ xs. take 4096 (drop (4096 * i) xs)) (is ∙ ap (λ m. take m (drop (4096 * first) file)) size)
    ∙ ap (take 4096) (drop-take (4096 * i) rest (drop (4096 * first) file))
    ∙ take-take 4096 rest (drop (4096 * i) (drop (4096 * first) file)) enough
    ∙ ap (take 4096) (drop-drop (4096 * i) (4096 * first) file)
    ∙ ap (λ m. take 4096 (drop m file)) at

-- what is read into the front of a buffer stands there
pub front_is : (n len : ℕ) (read old file : List ℕ) → n ≤ len → n ≤ length read → take n read ≡ take n file
    → take n (take len (read ++ drop (length read) old)) ≡ take (length (take n (take len (read ++ drop (length read) old)))) file
front_is n len read old file within room is =
    let all : take n (take len (read ++ drop (length read) old)) ≡ take n read = take-take n len (read ++ drop (length read) old) within ∙ take-append-le n read (drop (length read) old) room in
    let size : length (take n (take len (read ++ drop (length read) old))) ≡ n = ap length all ∙ (let e : length (take n read) ≡ n = omega (arith, length-take n read) in e) in
    all ∙ is ∙ ap (λ m. take m file) (sym size)

-- a page that is copied from a buffer
pub copied_page : (buffer : List ℕ) (count i n : ℕ) → i + 1 ≤ count → n ≡ i * 4096 + 4096 → slice_range buffer (i * 4096) n ≡ take 4096 (drop (4096 * i) (take (4096 * count) buffer))
copied_page buffer count i n within end =
    let rest : ℕ = 4096 * count - 4096 * i in
    let size : 4096 * count ≡ 4096 * i + rest = omega arith in
    let enough : 4096 ≤ rest = omega arith in
    let one : n - i * 4096 ≡ 4096 = omega arith in
    let at : i * 4096 ≡ 4096 * i = omega arith in
    ap (λ m. take m (drop (i * 4096) buffer)) one ∙ ap (λ m. take 4096 (drop m buffer)) at
    ∙ sym (take-take 4096 rest (drop (4096 * i) buffer) enough)
    ∙ ap (take 4096) (sym (drop-take (4096 * i) rest buffer))
    ∙ ap (λ m. take 4096 (drop (4096 * i) (take m buffer))) (sym size)
