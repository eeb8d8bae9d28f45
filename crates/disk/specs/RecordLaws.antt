-- What holds of each record.
use Rattle.std.proofs.Common.{◌≡◌, ◌≢◌, ⊎_elim, ℕ, suc, ◌+◌, ◌<◌, ◌≤◌, false, ltb, leb, List, [], ◌∷◌, length, get_or, set, take, drop, refl, sym, ◌∙◌, subst, arith, length-take}
use Rattle.std.proofs.lemmas.Bool.{or_parts, and_cases, ltb-false, leb-false}
use Rattle.std.proofs.lemmas.List.{get_or-set_other, get_or-take, take_all, drop_all}
use Rattle.std.proofs.Math.Seq.{sets, length-sets}
use Rattle.std.specs.List.{list_any}
use Rattle.disk.specs.declared.mem_disk.Write.{Write}
use Rattle.disk.specs.declared.mem_disk.Recorded.{Recorded}
use Rattle.disk.specs.Record.{is_in, before_write, before_writes, before_calls, unsynced, MayLeave, MayLeaveAt, MightHaveLeft}

pub sets_below : (vs l : List ℕ) (i k : ℕ) → k < i → get_or (sets l i vs) k 0 ≡ get_or l k 0
sets_below [] l i k lt = refl
sets_below (a ∷ vs) l i k lt =
    let other : k ≢ i = λ same. omega arith in
    sets_below vs (set l i a) (suc i) k (omega arith) ∙ get_or-set_other l i k a 0 other

pub sets_above : (vs l : List ℕ) (i k : ℕ) → i + length vs ≤ k → get_or (sets l i vs) k 0 ≡ get_or l k 0
sets_above [] l i k le = refl
sets_above (a ∷ vs) l i k le =
    let other : k ≢ i = λ same. omega arith in
    sets_above vs (set l i a) (suc i) k (omega arith) ∙ get_or-set_other l i k a 0 other

pub length-before_write : (w : Write) (now : List ℕ) → length (before_write w now) ≤ length now
length-before_write w now =
    omega (arith, length-sets (take w.length_before now) w.at (take w.count w.replaced.items), length-take w.length_before now)

pub length-before_writes : (ws : List Write) (now : List ℕ) → length (before_writes ws now) ≤ length now
length-before_writes [] now = omega arith
length-before_writes (w ∷ ws) now = omega (arith, length-before_write w (before_writes ws now), length-before_writes ws now)

-- outside its range a write changes nothing
pub outside_write : (w : Write) (now : List ℕ) (i : ℕ) → i < length (before_write w now) → is_in i w ≡ false → get_or now i 0 ≡ get_or (before_write w now) i 0
outside_write w now i lt out =
    let short : i < w.length_before = omega (arith, length-sets (take w.length_before now) w.at (take w.count w.replaced.items), length-take w.length_before now) in
    let kept : get_or (take w.length_before now) i 0 ≡ get_or now i 0 = get_or-take w.length_before now i 0 short in
    ⊎_elim
    (λ below. sym (sets_below (take w.count w.replaced.items) (take w.length_before now) w.at i (leb-false w.at i below) ∙ kept))
    (λ above. sym (sets_above (take w.count w.replaced.items) (take w.length_before now) w.at i (omega (arith, ltb-false i (w.at + w.count) above, length-take w.count w.replaced.items)) ∙ kept))
    (and_cases (leb w.at i) (ltb i (w.at + w.count)) out)

pub outside_writes : (ws : List Write) (now : List ℕ) (i : ℕ) → i < length (before_writes ws now) → list_any (is_in i) ws ≡ false → get_or now i 0 ≡ get_or (before_writes ws now) i 0
outside_writes [] now i lt out = refl
outside_writes (w ∷ ws) now i lt out =
    let parts = or_parts (is_in i w) (list_any (is_in i) ws) out in
    let longer : i < length (before_writes ws now) = omega (arith, length-before_write w (before_writes ws now)) in
    outside_writes ws now i longer parts.1 ∙ outside_write w (before_writes ws now) i lt parts.0

-- a stop may leave the content
pub leaves_now : (ws : List Write) (now : List ℕ) → MayLeave ws now now
leaves_now ws now = record {
  no_shorter = length-before_writes ws now;
  no_longer = omega arith;
  outside = λ i lt out. outside_writes ws now i lt out;
}

-- at the last moment it may leave what it may leave now
pub to_now : (calls : List Recorded) (now : List ℕ) (k : ℕ) (c : List ℕ) → length calls ≤ k → MayLeaveAt calls now k c → MayLeave (unsynced calls) now c
to_now calls now k c le left =
    let whole = subst (λ (cs : List Recorded). MayLeave (unsynced cs) (before_calls (drop k calls) now) c) (take_all k calls le) left in
    subst (λ (cs : List Recorded). MayLeave (unsynced calls) (before_calls cs now) c) (drop_all k calls le) whole

pub from_now : (calls : List Recorded) (now : List ℕ) (k : ℕ) (c : List ℕ) → length calls ≤ k → MayLeave (unsynced calls) now c → MayLeaveAt calls now k c
from_now calls now k c le left =
    let rest = subst (λ (cs : List Recorded). MayLeave (unsynced calls) (before_calls cs now) c) (sym (drop_all k calls le)) left in
    subst (λ (cs : List Recorded). MayLeave (unsynced cs) (before_calls (drop k calls) now) c) (sym (take_all k calls le)) rest

pub might_now : (calls : List Recorded) (now : List ℕ) (t : ℕ) (c : List ℕ) → t ≤ length calls → MayLeave (unsynced calls) now c → MightHaveLeft calls now t c
might_now calls now t c le left = record { moment = length calls; no_earlier = le; no_later = omega arith; left = from_now calls now (length calls) c (omega arith) left }

pub only_might_now : (calls : List Recorded) (now c : List ℕ) → MightHaveLeft calls now (length calls) c → MayLeave (unsynced calls) now c
only_might_now calls now c might = to_now calls now might.moment c might.no_earlier might.left
