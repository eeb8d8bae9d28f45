-- The pages of a file whose bytes change within some pages.
use Rattle.std.proofs.Common.{◌≡◌, ◌⊎◌, inl, ⊎_elim, ℕ, ◌+◌, ◌*◌, ◌<◌, ◌≤◌, true, false, List, [], ◌∷◌, ◌++◌, length, get_or, drop, refl, sym, ◌∙◌, ap, arith, length-take, length-drop}
use Rattle.std.specs.Prelude.{◌==◌}
use Rattle.std.proofs.lemmas.Bool.{cases_lt}
use Rattle.std.proofs.lemmas.Bool.Decides.{nat_tests}
use Rattle.std.proofs.lemmas.List.{ext_get_or, get_or-take, get_or-drop, get_or_at, take_at}
use Rattle.disk.specs.Contents.{Torn, overwritten}
use Rattle.disk.specs.Gated.{SameOutside, IsShut}
use Rattle.disk.proofs.Overwritten.{length-overwritten, overwritten_inside, overwritten_torn}
use Rattle.pages.specs.Spelling.{body}
use Rattle.storefile.specs.StoreFile.{page, is_open}
use Rattle.storefile.specs.Laws.{SameBut}

-- the i-th byte of page k
pub page_byte : (file : List ℕ) (k i : ℕ) → i < 4096 → get_or (page file k) i 0 ≡ get_or file (4096 * k + i) 0
page_byte file k i lt = get_or-take 4096 (drop (4096 * k) file) i 0 lt ∙ get_or-drop (4096 * k) file i 0

pub page_length : (file : List ℕ) (k : ℕ) → 4096 * k + 4096 ≤ length file → length (page file k) ≡ 4096
page_length file k fits = omega (arith, length-take 4096 (drop (4096 * k) file), length-drop (4096 * k) file)

same_page : (a b : List ℕ) (j : ℕ) → length a ≡ length b → ((i : ℕ) → i < 4096 → get_or a (4096 * j + i) 0 ≡ get_or b (4096 * j + i) 0) → page a j ≡ page b j
same_page a b j long same =
    let la = length-take 4096 (drop (4096 * j) a) in
    let lb = length-take 4096 (drop (4096 * j) b) in
    let da = length-drop (4096 * j) a in
    let db = length-drop (4096 * j) b in
    ext_get_or 0 (page a j) (page b j) (omega (arith, la, lb, da, db, long))
    (λ i lt. let within : i < 4096 = omega (arith, la) in page_byte a j i within ∙ same i within ∙ sym (page_byte b j i within))

-- a file that changes within n pages from page k on has its other pages
pub outside_pages : (k n : ℕ) (old c : List ℕ) → SameOutside (4096 * k) (4096 * n) old c → (j : ℕ) → (j < k) ⊎ (k + n ≤ j) → page c j ≡ page old j
outside_pages k n old c outside j beside = same_page c old j outside.same_length (λ i lt. ⊎_elim
    (λ below. outside.below (4096 * j + i) (omega arith))
    (λ above. outside.above (4096 * j + i) (omega arith))
    beside)

-- a file that changes in page k alone
pub same_but : (k : ℕ) (old c : List ℕ) → SameOutside (4096 * k) 4096 old c → SameBut k (page old) (page c)
same_but k old c outside = λ j other. same_page c old j outside.same_length (λ i lt. ⊎_elim
    (λ less. outside.below (4096 * j + i) (omega arith))
    (λ ge. outside.above (4096 * j + i) (omega (arith, other)))
    (cases_lt j k))

-- A write that is torn within page k changes no other page, and of page k no byte outside the range.
pub torn_outside : (k from n i : ℕ) (old c : List ℕ) → Torn (4096 * k + from) n old c → i < 4096 → (i < from) ⊎ (from + n ≤ i) → get_or (page c k) i 0 ≡ get_or (page old k) i 0
torn_outside k from n i old c torn lt outside =
    page_byte c k i lt ∙ ⊎_elim (λ below. torn.before (4096 * k + i) (omega arith)) (λ above. torn.after (4096 * k + i) (omega arith)) outside ∙ sym (page_byte old k i lt)

-- ---- gates

not_gate : (g : ℕ) → ¬ (g ≡ 165) → (g == 165) ≡ false
not_gate g not = grind (arith, nat_tests, not)

-- the gate of a page that is shut
pub shut_gate : (k at n : ℕ) (old c : List ℕ) → IsShut at n (4096 * k + 4095) old c → is_open (page c k) ≡ false
shut_gate k at n old c is = not_gate (get_or (page c k) 4095 0) (λ e. is.closed (sym (page_byte c k 4095 (omega arith)) ∙ e))

pub body_front : (b : List ℕ) (gate : ℕ) → length b ≡ 4095 → body (b ++ gate ∷ []) ≡ b
body_front b gate long = take_at b (gate ∷ []) 4095 long

pub gate_behind : (b : List ℕ) → length b ≡ 4095 → is_open (b ++ 165 ∷ []) ≡ true
gate_behind b long = rw (get_or_at b 165 [] 0 4095 long) refl

-- ---- a page that is written whole
module _ (k : ℕ) (old new : List ℕ) (fits : 4096 * k + 4096 ≤ length old) (size : length new ≡ 4096) where
  within : 4096 * k ≤ length old
  within = omega (arith, fits)

  pub written_outside : SameOutside (4096 * k) 4096 old (overwritten old (4096 * k) new)
  written_outside =
      let torn = overwritten_torn old new (4096 * k) within in
      record {
        same_length = omega (arith, length-overwritten old new (4096 * k) within, size, fits);
        below = λ i lt. torn.before i lt;
        above = λ i ge. torn.after i (omega (arith, size));
      }

  pub written_length : length (overwritten old (4096 * k) new) ≡ length old
  written_length = written_outside.same_length

  pub written_page : page (overwritten old (4096 * k) new) k ≡ new
  written_page =
      ext_get_or 0 (page (overwritten old (4096 * k) new) k) new
      (omega (arith, page_length (overwritten old (4096 * k) new) k (omega (arith, written_length, fits)), size))
      (λ i lt.
      let inside : i < 4096 = omega (arith, page_length (overwritten old (4096 * k) new) k (omega (arith, written_length, fits))) in
      page_byte (overwritten old (4096 * k) new) k i inside ∙ overwritten_inside old new (4096 * k) within i (omega (arith, size)))

-- ---- a gate that is opened
module _ (k : ℕ) (old : List ℕ) (fits : 4096 * k + 4096 ≤ length old) where
  gate_within : 4096 * k + 4095 ≤ length old
  gate_within = omega (arith, fits)

  gate_torn : Torn (4096 * k + 4095) 1 old (overwritten old (4096 * k + 4095) (165 ∷ []))
  gate_torn = overwritten_torn old (165 ∷ []) (4096 * k + 4095) gate_within

  gate_outside : SameOutside (4096 * k) 4096 old (overwritten old (4096 * k + 4095) (165 ∷ []))
  gate_outside = record {
    same_length = omega (arith, gate_torn.no_shorter, gate_torn.no_longer, fits);
    below = λ i lt. gate_torn.before i (omega arith);
    above = λ i ge. gate_torn.after i (omega arith);
  }

  pub gate_length : length (overwritten old (4096 * k + 4095) (165 ∷ [])) ≡ length old
  gate_length = gate_outside.same_length

  pub gate_pages : SameBut k (page old) (page (overwritten old (4096 * k + 4095) (165 ∷ [])))
  gate_pages = same_but k old (overwritten old (4096 * k + 4095) (165 ∷ [])) gate_outside

  pub gate_body : body (page (overwritten old (4096 * k + 4095) (165 ∷ [])) k) ≡ body (page old k)
  gate_body =
      let c : List ℕ = overwritten old (4096 * k + 4095) (165 ∷ []) in
      let la = page_length (overwritten old (4096 * k + 4095) (165 ∷ [])) k (omega (arith, gate_length, fits)) in
      let lb = page_length old k fits in
      let ta = length-take 4095 (page (overwritten old (4096 * k + 4095) (165 ∷ [])) k) in
      let tb = length-take 4095 (page old k) in
      ext_get_or 0 (body (page (overwritten old (4096 * k + 4095) (165 ∷ [])) k)) (body (page old k)) (omega (arith, la, lb, ta, tb))
      (λ i lt.
      let below : i < 4095 = omega (arith, la, ta) in
      get_or-take 4095 (page (overwritten old (4096 * k + 4095) (165 ∷ [])) k) i 0 below
      ∙ torn_outside k 4095 1 i old (overwritten old (4096 * k + 4095) (165 ∷ [])) gate_torn (omega arith) (inl below)
      ∙ sym (get_or-take 4095 (page old k) i 0 below))

  pub gate_opens : is_open (page (overwritten old (4096 * k + 4095) (165 ∷ [])) k) ≡ true
  gate_opens =
      let at : 4096 * k + 4095 ≡ 4096 * k + 4095 + 0 = omega arith in
      let byte : get_or (page (overwritten old (4096 * k + 4095) (165 ∷ [])) k) 4095 0 ≡ 165 =
      page_byte (overwritten old (4096 * k + 4095) (165 ∷ [])) k 4095 (omega arith) ∙ ap (λ (m : ℕ). get_or (overwritten old (4096 * k + 4095) (165 ∷ [])) m 0) at
      ∙ overwritten_inside old (165 ∷ []) (4096 * k + 4095) gate_within 0 (omega arith) in
      rw byte refl
