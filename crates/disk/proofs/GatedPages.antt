-- What a stop leaves of a page, a body with its gate behind it, that is written over.
use Rattle.std.proofs.Common.{◌≡◌, inl, inr, ⊎_elim, ℕ, ◌+◌, ◌-◌, ◌<◌, ◌≤◌, List, [], ◌∷◌, ◌++◌, length, get_or, sym, ◌∙◌, ap, subst, arith, length-append}
use Rattle.std.proofs.lemmas.Bool.{cases_lt}
use Rattle.std.proofs.lemmas.List.{ext_get_or, get_or_append_left, get_or_at}
use Rattle.disk.specs.Contents.{overwritten, Torn}
use Rattle.disk.specs.Gated.{SameOutside, IsShut, IsOldOrShut, IsShutOrOpened, with_page, IsWholeOrShut}
use Rattle.disk.proofs.Overwritten.{length-overwritten}
use Rattle.disk.proofs.Overwritten.{overwritten_below, overwritten_inside, overwritten_above, overwritten_torn}
use Rattle.disk.proofs.Gates.{outside_torn, outside_wider, outside_twice, shut_wider, body_torn, shut_twice}

module _ (at : ℕ) (body old : List ℕ) (fits : at + length body + 1 ≤ length old) where
  abbrev size : ℕ
  size = length body

  abbrev gate : ℕ
  gate = at + length body

  fits_page : at + (size + 1) ≤ length old
  fits_page = omega arith

  page_length : length (body ++ 165 ∷ []) ≡ size + 1
  page_length = omega (arith, length-append body (165 ∷ []))

  place : at ≤ length old
  place = omega arith

  -- the old gate is closed, or half closed
  pub while_closing : (c : List ℕ) → IsOldOrShut old gate c → IsWholeOrShut old at body c
  while_closing c way = ⊎_elim (λ shut. inl (shut_wider gate 1 at (size + 1) gate old c (omega arith) (omega arith) shut)) (λ same. inr (inl same)) way

  -- the body is torn under the closed gate
  pub while_writing : (shut c : List ℕ) → IsShut gate 1 gate old shut → Torn at size shut c → IsWholeOrShut old at body c
  while_writing shut c closed torn = inl (body_torn at (size + 1) gate at size old shut c fits_page (omega arith) (omega arith) (inr (omega arith))
      (shut_wider gate 1 at (size + 1) gate old shut (omega arith) (omega arith) closed) torn)

  module _ (shut whole : List ℕ) (closed : IsShut gate 1 gate old shut) (written : whole ≡ overwritten shut at body) where
    shut_length : length shut ≡ length old
    shut_length = closed.outside.same_length

    within : at ≤ length shut
    within = omega (arith, shut_length)

    whole_outside : SameOutside at (size + 1) old whole
    whole_outside = outside_twice at (size + 1) old shut whole (outside_wider gate 1 at (size + 1) old shut (omega arith) (omega arith) closed.outside)
        (outside_wider at size at (size + 1) shut whole (omega arith) (omega arith)
        (outside_torn at size shut whole (omega (arith, shut_length)) (subst (λ (d : List ℕ). Torn at size shut d) (sym written) (overwritten_torn shut body at within))))

    whole_body : (i : ℕ) → i < size → get_or whole (at + i) 0 ≡ get_or body i 0
    whole_body i lt = ap (λ (d : List ℕ). get_or d (at + i) 0) written ∙ overwritten_inside shut body at within i lt

    gate_place : gate ≤ length whole
    gate_place = omega (arith, whole_outside.same_length)

    abbrev opened : List ℕ
    opened = overwritten whole gate (165 ∷ [])

    opened_at : (i : ℕ) → get_or opened i 0 ≡ get_or (with_page old at body) i 0
    opened_at i = ⊎_elim
        (λ below.
        overwritten_below whole (165 ∷ []) gate gate_place i (omega arith) ∙ whole_outside.below i below
        ∙ sym (overwritten_below old (body ++ 165 ∷ []) at place i below))
        (λ from. ⊎_elim
        (λ inside.
        let k = i - at in
        let is_k : at + (i - at) ≡ i = omega arith in
        let new_at : get_or (with_page old at body) (at + k) 0 ≡ get_or (body ++ 165 ∷ []) k 0 = overwritten_inside old (body ++ 165 ∷ []) at place k (omega (arith, page_length)) in
        let here : get_or opened (at + k) 0 ≡ get_or (body ++ 165 ∷ []) k 0 = ⊎_elim
        (λ in_body. overwritten_below whole (165 ∷ []) gate gate_place (at + k) (omega arith) ∙ whole_body k in_body ∙ sym (get_or_append_left body (165 ∷ []) 0 k in_body))
        (λ at_gate.
        let is_gate : at + k ≡ gate + 0 = omega arith in
        ap (λ (j : ℕ). get_or opened j 0) is_gate ∙ overwritten_inside whole (165 ∷ []) gate gate_place 0 (omega arith) ∙ sym (get_or_at body 165 [] 0 k (omega arith)))
        (cases_lt k size) in
        subst (λ (j : ℕ). get_or opened j 0 ≡ get_or (with_page old at body) j 0) is_k (here ∙ sym new_at))
        (λ above.
        overwritten_above whole (165 ∷ []) gate gate_place i (omega arith) ∙ whole_outside.above i (omega arith)
        ∙ sym (overwritten_above old (body ++ 165 ∷ []) at place i (omega (arith, page_length))))
        (cases_lt i (at + size + 1)))
        (cases_lt i at)

    -- body and then gate make the page
    pub page_written : opened ≡ with_page old at body
    page_written = ext_get_or 0 opened (with_page old at body)
        (omega (arith, length-overwritten whole (165 ∷ []) gate gate_place, whole_outside.same_length, length-overwritten old (body ++ 165 ∷ []) at place, page_length))
        (λ i lt. opened_at i)

    -- the gate is torn on its way to open
    pub while_opening : (c : List ℕ) → IsShutOrOpened whole gate c → IsWholeOrShut old at body c
    while_opening c way = ⊎_elim (λ still. inl (shut_twice at (size + 1) gate old whole c (omega arith) (omega arith) whole_outside still)) (λ is. inr (inr (is ∙ page_written))) way
