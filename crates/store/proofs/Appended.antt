-- The pages of a file that is made of pages, one behind the other.
use Rattle.std.proofs.Common.{◌≡◌, ⊎_elim, ℕ, zero, suc, ◌+◌, ◌*◌, ◌<◌, List, ◌++◌, length, take, drop, refl, sym, ◌∙◌, ap, arith, length-append}
use Rattle.std.proofs.lemmas.Bool.{cases_lt}
use Rattle.std.proofs.lemmas.List.{ext_get_or, get_or_append_left, drop-drop, drop_at, take_all}
use Rattle.storefile.specs.StoreFile.{page}
use Rattle.storefile.proofs.PageBytes.{page_byte, page_length}
use Rattle.store.specs.Created.{first_pages}

pub page_behind : (xs ys : List ℕ) (n k : ℕ) → length xs ≡ 4096 * n → page (xs ++ ys) (n + k) ≡ page ys k
page_behind xs ys n k size =
    let e : 4096 * (n + k) ≡ 4096 * n + 4096 * k = omega arith in
    ap (λ (m : ℕ). take 4096 (drop m (xs ++ ys))) e ∙ ap (take 4096) (sym (drop-drop (4096 * k) (4096 * n) (xs ++ ys)) ∙ ap (drop (4096 * k)) (drop_at xs ys (4096 * n) size))

pub page_before : (xs ys : List ℕ) (n k : ℕ) → length xs ≡ 4096 * n → k < n → page (xs ++ ys) k ≡ page xs k
page_before xs ys n k size lt =
    let here : length (page xs k) ≡ 4096 = page_length xs k (omega arith) in
    let there : length (page (xs ++ ys) k) ≡ 4096 = page_length (xs ++ ys) k (omega (arith, length-append xs ys)) in
    ext_get_or 0 (page (xs ++ ys) k) (page xs k) (omega (arith, here, there)) (λ i below.
    let within : i < 4096 = omega (arith, there) in
    page_byte (xs ++ ys) k i within ∙ get_or_append_left xs ys 0 (4096 * k + i) (omega arith) ∙ sym (page_byte xs k i within))

pub page_itself : (p : List ℕ) → length p ≡ 4096 → page p 0 ≡ p
page_itself p size = take_all 4096 p (omega arith)

-- the first pages of these, each as long as a page
pub length-first : (f : ℕ → List ℕ) (n : ℕ) → ((k : ℕ) → k < n → length (f k) ≡ 4096) → length (first_pages f n) ≡ 4096 * n
unfolding first_pages
length-first f zero sizes = refl
length-first f (suc n) sizes = omega (arith, length-append (first_pages f n) (f n), length-first f n (λ k lt. sizes k (omega arith)), sizes n (omega arith))

pub page_of_first : (f : ℕ → List ℕ) (n : ℕ) → ((k : ℕ) → k < n → length (f k) ≡ 4096) → (k : ℕ) → k < n → page (first_pages f n) k ≡ f k
unfolding first_pages
page_of_first f zero sizes k lt = absurd (omega arith)
page_of_first f (suc n) sizes k lt =
    let long : length (first_pages f n) ≡ 4096 * n = length-first f n (λ j less. sizes j (omega arith)) in
    ⊎_elim
    (λ less. page_before (first_pages f n) (f n) n k long less ∙ page_of_first f n (λ j below. sizes j (omega arith)) k less)
    (λ ge.
    let is : k ≡ n = omega arith in
    let at : n ≡ n + 0 = omega arith in
    ap (λ (j : ℕ). page (first_pages f n ++ f n) j) (is ∙ at) ∙ page_behind (first_pages f n) (f n) n 0 long ∙ page_itself (f n) (sizes n (omega arith)) ∙ ap f (sym is))
    (cases_lt k n)

-- a page, so many pages, a page, so many pages and so many pages
module _ (hp hd : List ℕ) (fa fw fb : ℕ → List ℕ) (A W R : ℕ) (hp_size : length hp ≡ 4096) (hd_size : length hd ≡ 4096)
    (fa_size : (k : ℕ) → k < A → length (fa k) ≡ 4096) (fw_size : (k : ℕ) → k < W → length (fw k) ≡ 4096) (fb_size : (k : ℕ) → k < R → length (fb k) ≡ 4096) where
  abbrev two : List ℕ
  two = hp ++ first_pages fa A

  abbrev three : List ℕ
  three = two ++ hd

  abbrev four : List ℕ
  four = three ++ first_pages fw W

  abbrev pub five : List ℕ
  five = four ++ first_pages fb R

  one_size : length hp ≡ 4096 * 1
  one_size = omega (arith, hp_size)

  two_size : length two ≡ 4096 * (1 + A)
  two_size = omega (arith, hp_size, length-append hp (first_pages fa A), length-first fa A fa_size)

  three_size : length three ≡ 4096 * (A + 2)
  three_size = omega (arith, hd_size, two_size, length-append two hd)

  four_size : length four ≡ 4096 * (A + W + 2)
  four_size = omega (arith, three_size, length-append three (first_pages fw W), length-first fw W fw_size)

  pub five_size : length five ≡ 4096 * (A + W + 2 + R)
  five_size = omega (arith, four_size, length-append four (first_pages fb R), length-first fb R fb_size)

  from_four : (k : ℕ) → k < A + W + 2 → page five k ≡ page four k
  from_four k lt = page_before four (first_pages fb R) (A + W + 2) k four_size lt

  from_three : (k : ℕ) → k < A + 2 → page five k ≡ page three k
  from_three k lt = from_four k (omega arith) ∙ page_before three (first_pages fw W) (A + 2) k three_size lt

  from_two : (k : ℕ) → k < 1 + A → page five k ≡ page two k
  from_two k lt = from_three k (omega arith) ∙ page_before two hd (1 + A) k two_size lt

  pub page_zero : page five 0 ≡ hp
  page_zero = from_two 0 (omega arith) ∙ page_before hp (first_pages fa A) 1 0 one_size (omega arith) ∙ page_itself hp hp_size

  pub page_second : (i : ℕ) → i < A → page five (1 + i) ≡ fa i
  page_second i lt = from_two (1 + i) (omega arith) ∙ page_behind hp (first_pages fa A) 1 i one_size ∙ page_of_first fa A fa_size i lt

  pub page_third : (k : ℕ) → k ≡ A + 1 → page five k ≡ hd
  page_third k is =
      let e : k ≡ 1 + A + 0 = omega arith in
      from_three k (omega arith) ∙ ap (page three) e ∙ page_behind two hd (1 + A) 0 two_size ∙ page_itself hd hd_size

  pub page_fourth : (k i : ℕ) → i < W → k ≡ A + 2 + i → page five k ≡ fw i
  page_fourth k i lt is = from_four k (omega arith) ∙ ap (page four) is ∙ page_behind three (first_pages fw W) (A + 2) i three_size ∙ page_of_first fw W fw_size i lt

  pub page_fifth : (k i : ℕ) → i < R → k ≡ A + W + 2 + i → page five k ≡ fb i
  page_fifth k i lt is = ap (page five) is ∙ page_behind four (first_pages fb R) (A + W + 2) i four_size ∙ page_of_first fb R fb_size i lt
