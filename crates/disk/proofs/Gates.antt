-- What a stop leaves of a gate that is written, and of a body under a closed gate.
use Rattle.std.proofs.Common.{◌≡◌, ◌⊎◌, inl, inr, ⊎_elim, ℕ, ◌+◌, ◌<◌, ◌≤◌, List, [], ◌∷◌, length, get_or, refl, sym, ◌∙◌, ap, subst, arith}
use Rattle.std.proofs.lemmas.Bool.{cases_eq, cases_order}
use Rattle.std.proofs.lemmas.List.{ext_get_or}
use Rattle.disk.specs.Contents.{overwritten, Torn}
use Rattle.disk.specs.Gated.{IsGateOpen, SameOutside, IsShut, IsOldOrShut, IsShutOrOpened}
use Rattle.disk.proofs.Overwritten.{overwritten_inside, overwritten_torn}

-- a torn write changes its range alone
pub outside_torn : (at n : ℕ) (old c : List ℕ) → at + n ≤ length old → Torn at n old c → SameOutside at n old c
outside_torn at n old c fits torn = record {
  same_length = omega (arith, torn.no_shorter, torn.no_longer);
  below = torn.before;
  above = torn.after;
}

-- what is the same outside a range is so outside a wider one
pub outside_wider : (at n wide_at wide : ℕ) (old c : List ℕ) → wide_at ≤ at → at + n ≤ wide_at + wide → SameOutside at n old c → SameOutside wide_at wide old c
outside_wider at n wide_at wide old c from to outside = record {
  same_length = outside.same_length;
  below = λ i lt. outside.below i (omega arith);
  above = λ i ge. outside.above i (omega arith);
}

pub outside_twice : (at n : ℕ) (old mid c : List ℕ) → SameOutside at n old mid → SameOutside at n mid c → SameOutside at n old c
outside_twice at n old mid c first second = record {
  same_length = second.same_length ∙ first.same_length;
  below = λ i lt. second.below i lt ∙ first.below i lt;
  above = λ i ge. second.above i ge ∙ first.above i ge;
}

pub shut_wider : (at n wide_at wide gate : ℕ) (old c : List ℕ) → wide_at ≤ at → at + n ≤ wide_at + wide → IsShut at n gate old c → IsShut wide_at wide gate old c
shut_wider at n wide_at wide gate old c from to shut = record { outside = outside_wider at n wide_at wide old c from to shut.outside; closed = shut.closed }

-- contents that are the same but for the gate, and both have it open, are one
one_open : (gate : ℕ) (old c : List ℕ) → SameOutside gate 1 old c → IsGateOpen gate old → IsGateOpen gate c → c ≡ old
one_open gate old c outside was_open is_open = ext_get_or 0 c old outside.same_length (λ i lt. ⊎_elim
    (λ here. ap (λ (k : ℕ). get_or c k 0) here ∙ is_open ∙ sym was_open ∙ ap (λ (k : ℕ). get_or old k 0) (sym here))
    (λ other. ⊎_elim (λ below. outside.below i below) (λ above. outside.above i (omega arith)) other)
    (cases_order i gate))

module _ (gate : ℕ) (old : List ℕ) (within : gate < length old) where
  place : gate ≤ length old
  place = omega arith

  -- the gate alone is written
  gate_outside : (c : List ℕ) → Torn gate 1 old c → SameOutside gate 1 old c
  gate_outside c torn = outside_torn gate 1 old c (omega arith) torn

  written_outside : (byte : ℕ) → SameOutside gate 1 old (overwritten old gate (byte ∷ []))
  written_outside byte = gate_outside (overwritten old gate (byte ∷ [])) (overwritten_torn old (byte ∷ []) gate place)

  written_gate : (byte : ℕ) → get_or (overwritten old gate (byte ∷ [])) gate 0 ≡ byte
  written_gate byte =
      let same_place : gate ≡ gate + 0 = omega arith in
      ap (λ (k : ℕ). get_or (overwritten old gate (byte ∷ [])) k 0) same_place ∙ overwritten_inside old (byte ∷ []) gate place 0 (omega arith)

  -- an open gate that is torn
  pub close_torn : (c : List ℕ) → IsGateOpen gate old → Torn gate 1 old c → IsOldOrShut old gate c
  close_torn c was_open torn = elim (cases_eq (get_or c gate 0) 165) [
    | inl is_open ↦ inr (one_open gate old c (gate_outside c torn) was_open is_open)
    | inr is_shut ↦ inl (record { outside = gate_outside c torn; closed = is_shut })
  ]

  -- an open gate that is written closed
  pub close_written : (c : List ℕ) → c ≡ overwritten old gate (0 ∷ []) → IsShut gate 1 gate old c
  close_written c is = subst (λ (d : List ℕ). IsShut gate 1 gate old d) (sym is) (record {
    outside = written_outside 0;
    closed = λ is_open. absurd (omega (arith, written_gate 0, is_open));
  })

  -- a gate that reads closed stays as it is
  pub shut_already : (c : List ℕ) → c ≡ old → (IsGateOpen gate old → ⊥) → IsShut gate 1 gate old c
  shut_already c is closed = subst (λ (d : List ℕ). IsShut gate 1 gate old d) (sym is) (record {
    outside = record { same_length = refl; below = λ i lt. refl; above = λ i ge. refl };
    closed = closed;
  })

  -- a gate that is torn on its way to open
  pub open_torn : (c : List ℕ) → Torn gate 1 old c → IsShutOrOpened old gate c
  open_torn c torn = elim (cases_eq (get_or c gate 0) 165) [
    | inl is_open ↦
        let outside = gate_outside c torn in
        let opened = written_outside 165 in
        inr (one_open gate (overwritten old gate (165 ∷ [])) c (record {
          same_length = outside.same_length ∙ sym opened.same_length;
          below = λ i lt. outside.below i lt ∙ sym (opened.below i lt);
          above = λ i ge. outside.above i ge ∙ sym (opened.above i ge);
        }) (written_gate 165) is_open)
    | inr is_shut ↦ inl (record { outside = gate_outside c torn; closed = is_shut })
  ]

-- Under a closed gate any bytes of the range may be torn, but for the gate itself.
pub body_torn : (at n gate from count : ℕ) (old mid c : List ℕ) → at + n ≤ length old → at ≤ from → from + count ≤ at + n → (gate < from) ⊎ (from + count ≤ gate)
    → IsShut at n gate old mid → Torn from count mid c → IsShut at n gate old c
body_torn at n gate from count old mid c fits low high beside shut torn = record {
  outside = outside_twice at n old mid c shut.outside (outside_wider from count at n mid c low high (outside_torn from count mid c (omega (arith, shut.outside.same_length)) torn));
  closed = λ is_open. shut.closed (⊎_elim (λ below. sym (torn.before gate below) ∙ is_open) (λ above. sym (torn.after gate above) ∙ is_open) beside);
}

-- a gate that isn't open yet, over a range that has it
pub shut_twice : (at n gate : ℕ) (old mid c : List ℕ) → at ≤ gate → gate < at + n → SameOutside at n old mid → IsShut gate 1 gate mid c → IsShut at n gate old c
shut_twice at n gate old mid c low high outside shut = record {
  outside = outside_twice at n old mid c outside (outside_wider gate 1 at n mid c low (omega arith) shut.outside);
  closed = shut.closed;
}
