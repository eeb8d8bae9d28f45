-- One byte of the content before a write.
use Rattle.std.proofs.Common.{◌≡◌, inl, inr, ℕ, zero, suc, ◌+◌, ◌-◌, ◌<◌, ◌≤◌, min, Bool, true, false, ◌||◌, ◌&&◌, cond, ltb, leb, List, [], ◌∷◌, ◌++◌, Option, None, length, get_or, set, take, refl, sym, ◌∙◌, ap, arith, length-take}
use Rattle.std.proofs.lemmas.Bool.{cases_lt, cases_Bool, and_parts, ltb-true, leb-true, cond-true, cond-false, lt-ltb, le-ltb}
use Rattle.std.proofs.lemmas.List.{get_or-set_same, get_or-take, get_or_past, length-set}
use Rattle.std.proofs.lemmas.Option.{slice_get-get_or, slice_get_past}
use Rattle.std.proofs.lemmas.List.Folds.{list_any-append}
use Rattle.std.proofs.Math.Seq.{sets, length-sets}
use Rattle.std.specs.List.{slice_get}
use Rattle.std.specs.Option.{unwrap_or}
use Rattle.disk.specs.declared.mem_disk.Write.{Write}
use Rattle.disk.specs.declared.mem_disk.Recorded.{Recorded}
use Rattle.disk.specs.declared.mem_disk.Recorded.TheVariants.{Wrote, Synced}
use Rattle.disk.specs.Record.{is_in, is_written, before_write, before_writes, unsynced, replaced_at, IsNoted, IsSyncedByte}
use Rattle.disk.specs.RecordLaws.{sets_below, sets_above, outside_write}
use Rattle.disk.proofs.OnRecord.{before_writes_push, unsynced_write, unsynced_sync}

sets_inside : (vs l : List ℕ) (i k : ℕ) → k < length vs → i + k < length l → get_or (sets l i vs) (i + k) 0 ≡ get_or vs k 0
sets_inside [] l i k lt within = absurd (omega arith)
sets_inside (a ∷ vs) l i zero lt within =
    let here : i + 0 ≡ i = omega arith in
    ap (λ (j : ℕ). get_or (sets (set l i a) (suc i) vs) j 0) here ∙ sets_below vs (set l i a) (suc i) i (omega arith) ∙ get_or-set_same l i a 0 (omega arith)
sets_inside (a ∷ vs) l i (suc k) lt within =
    let next : i + suc k ≡ suc i + k = omega arith in
    ap (λ (j : ℕ). get_or (sets (set l i a) (suc i) vs) j 0) next ∙ sets_inside vs (set l i a) (suc i) k (omega arith) (omega (arith, length-set l i a))

pub length_of_before : (w : Write) (now : List ℕ) → length (before_write w now) ≡ min w.length_before (length now)
length_of_before w now = length-sets (take w.length_before now) w.at (take w.count w.replaced.items) ∙ length-take w.length_before now

module _ (w : Write) (now : List ℕ) (i : ℕ) where
  within : Type 0
  within = i < length (before_write w now)

  byte_outside : i < length (before_write w now) → is_in i w ≡ false → get_or (before_write w now) i 0 ≡ unwrap_or (replaced_at w i) (get_or now i 0)
  byte_outside lt out = sym (outside_write w now i lt out) ∙ sym (ap (λ (o : Option ℕ). unwrap_or o (get_or now i 0)) (cond-false (is_in i w) (slice_get w.replaced.items (i - w.at)) None out))

  byte_inside : i < length (before_write w now) → is_in i w ≡ true → get_or (before_write w now) i 0 ≡ unwrap_or (replaced_at w i) (get_or now i 0)
  byte_inside lt inside =
      let parts = and_parts (leb w.at i) (ltb i (w.at + w.count)) inside in
      let above : w.at ≤ i = leb-true w.at i parts.0 in
      let below : i < w.at + w.count = ltb-true i (w.at + w.count) parts.1 in
      let k = i - w.at in
      let place : w.at + (i - w.at) ≡ i = omega arith in
      let front = take w.length_before now in
      let part = take w.count w.replaced.items in
      let shorter : i < length front = omega (arith, length-sets front w.at part) in
      let chosen : replaced_at w i ≡ slice_get w.replaced.items k = cond-true (is_in i w) (slice_get w.replaced.items (i - w.at)) None inside in
      elim (cases_lt (i - w.at) (length w.replaced.items)) [
        | inl has ↦
            ap (λ (j : ℕ). get_or (before_write w now) j 0) (sym place)
            ∙ sets_inside part front w.at k (omega (arith, length-take w.count w.replaced.items)) (omega arith)
            ∙ get_or-take w.count w.replaced.items k 0 (omega arith)
            ∙ sym (ap (λ (o : Option ℕ). unwrap_or o (get_or now i 0)) (chosen ∙ slice_get-get_or w.replaced.items k 0 has))
        | inr past ↦
            sets_above part front w.at i (omega (arith, length-take w.count w.replaced.items))
            ∙ get_or-take w.length_before now i 0 (omega (arith, length-take w.length_before now))
            ∙ sym (ap (λ (o : Option ℕ). unwrap_or o (get_or now i 0)) (chosen ∙ slice_get_past w.replaced.items k past))
      ]

  pub byte_before : get_or (before_write w now) i 0 ≡ cond (ltb i (min w.length_before (length now))) (unwrap_or (replaced_at w i) (get_or now i 0)) 0
  byte_before = elim (cases_lt i (min w.length_before (length now))) [
    | inl lt ↦
        let inner : i < length (before_write w now) = omega (arith, length_of_before w now) in
        elim (cases_Bool (is_in i w)) [
          | inl inside ↦ byte_inside inner inside ∙ sym (cond-true (ltb i (min w.length_before (length now))) (unwrap_or (replaced_at w i) (get_or now i 0)) 0 (lt-ltb i (min w.length_before (length now)) lt))
          | inr out ↦ byte_outside inner out ∙ sym (cond-true (ltb i (min w.length_before (length now))) (unwrap_or (replaced_at w i) (get_or now i 0)) 0 (lt-ltb i (min w.length_before (length now)) lt))
        ]
    | inr ge ↦ get_or_past (before_write w now) i 0 (omega (arith, length_of_before w now)) ∙ sym (cond-false (ltb i (min w.length_before (length now))) (unwrap_or (replaced_at w i) (get_or now i 0)) 0 (le-ltb i (min w.length_before (length now)) ge))
  ]

-- one write more behind the earlier calls
pub synced_byte_more : (earlier calls : List Recorded) (w : Write) (place total byte total_before byte_at synced : ℕ) → calls ≡ earlier ++ Wrote w ∷ []
    → total_before ≡ min w.length_before total → byte_at ≡ cond (ltb place (min w.length_before total)) (unwrap_or (replaced_at w place) byte) 0
    → IsSyncedByte earlier total_before place byte_at synced → IsSyncedByte calls total place byte synced
synced_byte_more earlier calls w place total byte total_before byte_at synced is total_is byte_is known now long here =
    let pushed : before_writes (unsynced calls) now ≡ before_writes (unsynced earlier) (before_write w now) =
    ap (λ (cs : List Recorded). before_writes (unsynced cs) now) is ∙ ap (λ (ws : List Write). before_writes ws now) (unsynced_write [] earlier w) ∙ before_writes_push (unsynced earlier) w now in
    ap (λ (l : List ℕ). get_or l place 0) pushed
    ∙ known (before_write w now) (omega (arith, length_of_before w now))
    (byte_before w now place ∙ (λ i. cond (ltb place (min w.length_before (long i))) (unwrap_or (replaced_at w place) (here i)) 0) ∙ sym byte_is)

pub or_none : (b : Bool) → (b || false) ≡ b
or_none true = refl
or_none false = refl

written_push : (ws : List Write) (w : Write) (i : ℕ) → is_written (ws ++ w ∷ []) i ≡ (is_written ws i || is_in i w)
written_push ws w i = list_any-append (is_in i) ws (w ∷ []) ∙ ap (λ (b : Bool). is_written ws i || b) (or_none (is_in i w))

pub written_more : (earlier calls : List Recorded) (w : Write) (i : ℕ) → calls ≡ earlier ++ Wrote w ∷ [] → is_written (unsynced calls) i ≡ (is_written (unsynced earlier) i || is_in i w)
written_more earlier calls w i is =
    ap (λ (cs : List Recorded). is_written (unsynced cs) i) is ∙ ap (λ (ws : List Write). is_written ws i) (unsynced_write [] earlier w) ∙ written_push (unsynced earlier) w i

-- after a write of these bytes
pub noted_written : (old new : List ℕ) (at n : ℕ) (calls later : List Recorded) → IsNoted old new at n calls later → (i : ℕ) → is_written (unsynced later) i ≡ (is_written (unsynced calls) i || (leb at i && ltb i (at + n)))
noted_written old new at n calls later noted i =
    written_more calls later noted.write i noted.noted
    ∙ (λ j. is_written (unsynced calls) i || (leb (noted.place j) i && ltb i (noted.place j + noted.size j)))

pub none_after_sync : (earlier calls : List Recorded) → calls ≡ earlier ++ Synced ∷ [] → unsynced calls ≡ []
none_after_sync earlier calls is = ap (λ (cs : List Recorded). unsynced cs) is ∙ unsynced_sync [] earlier

pub none_left : (calls : List Recorded) → length calls ≡ 0 → calls ≡ []
none_left [] long = refl
none_left (call ∷ calls) long = absurd (omega arith)

-- whether one of two holds, as one more is counted with the first
pub or_first : (a b x y : Bool) → a ≡ true → b ≡ true → (a || x) ≡ (b || y)
or_first a b x y was now = ap (λ (c : Bool). c || x) was ∙ sym (ap (λ (c : Bool). c || y) now)

or_swap : (x y : Bool) → (x || y) ≡ (y || x)
or_swap true true = refl
or_swap true false = refl
or_swap false true = refl
or_swap false false = refl

pub or_second : (a b h x y : Bool) → a ≡ false → b ≡ h → x ≡ (y || h) → (a || x) ≡ (b || y)
or_second a b h x y was now is = (λ i. was i || is i) ∙ or_swap y h ∙ sym (ap (λ (c : Bool). c || y) now)
