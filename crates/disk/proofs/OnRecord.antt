-- What one call more does to what a stop may leave.
use Rattle.std.proofs.Common.{◌≡◌, inl, inr, ⊎_elim, ℕ, ◌+◌, ◌<◌, ◌≤◌, min, max, Bool, true, false, ◌&&◌, ◌||◌, not, cond, ltb, leb, List, [], ◌∷◌, ◌++◌, length, get_or, map, take, drop, refl, sym, ◌∙◌, ap, subst, arith, length-append}
use Rattle.std.proofs.lemmas.Bool.{cases_lt, cases_Bool, lt-ltb, le-ltb, lt-leb, ltb-true, not-true, and_parts, or_parts, and_from, and_left, and_right, cond-true, cond-false}
use Rattle.std.proofs.lemmas.List.{ext_get_or, take-append-le, drop-append-le, get_or_past}
use Rattle.std.proofs.lemmas.List.FromFn.{length-map-range_with_len, get_or-map-range_with_len}
use Rattle.std.specs.List.{list_any, range_with_len}
use Rattle.disk.specs.declared.mem_disk.Write.{Write}
use Rattle.disk.specs.declared.mem_disk.Recorded.{Recorded}
use Rattle.disk.specs.declared.mem_disk.Recorded.TheVariants.{Wrote, Synced}
use Rattle.disk.specs.Contents.{Torn, Only, AreAmong, Follows}
use Rattle.disk.specs.Moments.{Elapses}
use Rattle.disk.specs.Record.{is_in, is_written, before_write, before_writes, before_call, before_calls, unsynced_with, unsynced, IsNoted, MayLeave, MayLeaveAt, MightHaveLeft}
use Rattle.disk.specs.RecordLaws.{length-before_writes, outside_writes, leaves_now, to_now}
use Rattle.disk.specs.declared.stoppable.Pick.{Pick}
use Rattle.disk.specs.Stop.{TakesPicks}

before_calls_push : (calls : List Recorded) (call : Recorded) (now : List ℕ) → before_calls (calls ++ call ∷ []) now ≡ before_calls calls (before_call call now)
before_calls_push [] call now = refl
before_calls_push (x ∷ calls) call now = ap (λ (l : List ℕ). before_call x l) (before_calls_push calls call now)

pub before_writes_push : (ws : List Write) (w : Write) (now : List ℕ) → before_writes (ws ++ w ∷ []) now ≡ before_writes ws (before_write w now)
before_writes_push [] w now = refl
before_writes_push (x ∷ ws) w now = ap (λ (l : List ℕ). before_write x l) (before_writes_push ws w now)

pub unsynced_write : (ws : List Write) (calls : List Recorded) (w : Write) → unsynced_with ws (calls ++ Wrote w ∷ []) ≡ unsynced_with ws calls ++ w ∷ []
unsynced_write ws [] w = refl
unsynced_write ws (Wrote x ∷ calls) w = unsynced_write (ws ++ x ∷ []) calls w
unsynced_write ws (Synced ∷ calls) w = unsynced_write [] calls w

pub unsynced_sync : (ws : List Write) (calls : List Recorded) → unsynced_with ws (calls ++ Synced ∷ []) ≡ []
unsynced_sync ws [] = refl
unsynced_sync ws (Wrote x ∷ calls) = unsynced_sync (ws ++ x ∷ []) calls
unsynced_sync ws (Synced ∷ calls) = unsynced_sync [] calls

-- at an earlier moment a stop might have left what it might have left
same_before : (calls : List Recorded) (call : Recorded) (old new : List ℕ) → before_call call new ≡ old → (k : ℕ) (c : List ℕ) → k ≤ length calls
    → (MayLeaveAt (calls ++ call ∷ []) new k c ≡ MayLeaveAt calls old k c)
same_before calls call old new undone k c le =
    let front : take k (calls ++ call ∷ []) ≡ take k calls = take-append-le k calls (call ∷ []) le in
    let rest : before_calls (drop k (calls ++ call ∷ [])) new ≡ before_calls (drop k calls) old =
    ap (λ (cs : List Recorded). before_calls cs new) (drop-append-le k calls (call ∷ []) le)
    ∙ before_calls_push (drop k calls) call new
    ∙ ap (λ (l : List ℕ). before_calls (drop k calls) l) undone in
    λ i. MayLeave (unsynced (front i)) (rest i) c

-- time goes on by a call
pub elapses : (calls later : List Recorded) (call : Recorded) (old new : List ℕ) → later ≡ calls ++ call ∷ [] → before_call call new ≡ old
    → Elapses (length calls) (length later) (MightHaveLeft calls old) (MightHaveLeft later new) (MayLeave (unsynced later) new)
elapses calls later call old new is undone =
    subst (λ (cs : List Recorded). Elapses (length calls) (length cs) (MightHaveLeft calls old) (MightHaveLeft cs new) (MayLeave (unsynced cs) new)) (sym is)
    (record {
      later = omega (arith, length-append calls (call ∷ []));
      adds = λ t c le might. ⊎_elim
          (λ past. inl (record {
            moment = might.moment;
            no_earlier = might.no_earlier;
            no_later = omega arith;
            left = subst (λ (X : Type 0). X) (same_before calls call old new undone might.moment c (omega arith)) might.left;
          }))
          (λ last. inr (to_now (calls ++ call ∷ []) new might.moment c (omega (arith, length-append calls (call ∷ []))) might.left))
          (cases_lt might.moment (length calls + 1));
      keeps = λ t c le might. record {
        moment = might.moment;
        no_earlier = might.no_earlier;
        no_later = omega (arith, length-append calls (call ∷ []), might.no_later);
        left = subst (λ (X : Type 0). X) (sym (same_before calls call old new undone might.moment c might.no_later)) might.left;
      };
    })

-- with nothing written since the sync there is the content alone
pub none_written : (now c : List ℕ) → MayLeave [] now c → c ≡ now
none_written now c left = ext_get_or 0 c now (omega (arith, left.no_shorter, left.no_longer)) (λ i lt. left.outside i (omega (arith, left.no_longer)) refl)

pub synced_only : (calls later : List Recorded) (now : List ℕ) → later ≡ calls ++ Synced ∷ [] → Only now (MayLeave (unsynced later) now)
synced_only calls later now is c left =
    none_written now c (subst (λ (ws : List Write). MayLeave ws now c) (ap (λ (cs : List Recorded). unsynced cs) is ∙ unsynced_sync [] calls) left)

pub synced_among : (calls later : List Recorded) (now : List ℕ) → later ≡ calls ++ Synced ∷ [] → AreAmong (MayLeave (unsynced later) now) (MayLeave (unsynced calls) now)
synced_among calls later now is c left =
    subst (λ (d : List ℕ). MayLeave (unsynced calls) now d) (sym (synced_only calls later now is c left)) (leaves_now (unsynced calls) now)

in_push : (ws : List Write) (w : Write) (i : ℕ) → list_any (is_in i) ws ≡ false → is_in i w ≡ false → list_any (is_in i) (ws ++ w ∷ []) ≡ false
in_push [] w i none out = ap (λ (b : Bool). b || false) out
in_push (x ∷ ws) w i none out =
    let parts = or_parts (is_in i x) (list_any (is_in i) ws) none in
    ap (λ (b : Bool). b || list_any (is_in i) (ws ++ w ∷ [])) parts.0 ∙ in_push ws w i parts.1 out

-- One write more: what a stop leaves then is what one might have left, with any bytes in the range. Of a content c the
-- latter is made by putting the synced bytes back where no other write was.
same_synced : (ws : List Write) (w : Write) (old new : List ℕ) → before_write w new ≡ old → before_writes (ws ++ w ∷ []) new ≡ before_writes ws old
same_synced ws w old new undone = before_writes_push ws w new ∙ ap (λ (l : List ℕ). before_writes ws l) undone

module _ (ws : List Write) (w : Write) (old new : List ℕ) (undone : before_write w new ≡ old) (longer : length new ≡ max (length old) (w.at + w.count)) (within : w.at ≤ length old) where
  abbrev synced : List ℕ
  synced = before_writes ws old

  abbrev is_kept : ℕ → Bool
  is_kept i = ltb i (length synced) && not (list_any (is_in i) ws)

  module _ (c : List ℕ) (left : MayLeave (ws ++ w ∷ []) new c) where
    abbrev byte : ℕ → ℕ
    byte i = cond (is_kept i) (get_or synced i 0) (get_or c i 0)

    abbrev size : ℕ
    size = min (length c) (length old)

    abbrev restored : List ℕ
    restored = map byte (range_with_len 0 size)

    long : length restored ≡ size
    long = length-map-range_with_len byte 0 size

    at_byte : (i : ℕ) → i < size → get_or restored i 0 ≡ byte i
    at_byte i lt = get_or-map-range_with_len byte 0 size i i 0 lt (omega arith)

    no_shorter : length synced ≤ length c
    no_shorter = subst (λ (l : List ℕ). length l ≤ length c) (same_synced ws w old new undone) left.no_shorter

    -- outside both
    same_outside : (i : ℕ) → i < length synced → list_any (is_in i) ws ≡ false → is_in i w ≡ false → get_or c i 0 ≡ get_or synced i 0
    same_outside i lt none out =
        subst (λ (l : List ℕ). i < length l → get_or c i 0 ≡ get_or l i 0) (same_synced ws w old new undone) (λ h. left.outside i h (in_push ws w i none out)) lt

    restored_left : MayLeave ws old restored
    restored_left = record {
      no_shorter = omega (arith, long, no_shorter, length-before_writes ws old);
      no_longer = omega (arith, long);
      outside = λ i lt none.
          let kept : is_kept i ≡ true = and_from (ltb i (length synced)) (not (list_any (is_in i) ws)) (lt-ltb i (length synced) lt) (ap not none) in
          at_byte i (omega (arith, no_shorter, length-before_writes ws old)) ∙ cond-true (is_kept i) (get_or synced i 0) (get_or c i 0) kept;
    }

    same_out : (i : ℕ) → is_in i w ≡ false → i < size → get_or c i 0 ≡ get_or restored i 0
    same_out i out lt = elim (cases_Bool (is_kept i)) [
      | inl kept ↦
          let parts = and_parts (ltb i (length synced)) (not (list_any (is_in i) ws)) kept in
          same_outside i (ltb-true i (length synced) parts.0) (not-true (list_any (is_in i) ws) parts.1) out
          ∙ sym (at_byte i lt ∙ cond-true (is_kept i) (get_or synced i 0) (get_or c i 0) kept)
      | inr not_kept ↦ sym (at_byte i lt ∙ cond-false (is_kept i) (get_or synced i 0) (get_or c i 0) not_kept)
    ]

    restored_torn : Torn w.at w.count restored c
    restored_torn = record {
      before = λ i lt. elim (cases_lt i size) [
        | inl inside ↦ same_out i (and_left (leb w.at i) (ltb i (w.at + w.count)) (lt-leb w.at i lt)) inside
        | inr past ↦ get_or_past c i 0 (omega arith) ∙ sym (get_or_past restored i 0 (omega (arith, long)))
      ];
      after = λ i le. elim (cases_lt i size) [
        | inl inside ↦ same_out i (and_right (leb w.at i) (ltb i (w.at + w.count)) (le-ltb i (w.at + w.count) le)) inside
        | inr past ↦ get_or_past c i 0 (omega (arith, left.no_longer)) ∙ sym (get_or_past restored i 0 (omega (arith, long)))
      ];
      no_shorter = omega (arith, long);
      no_longer = omega (arith, long, left.no_longer);
    }

pub follows : (calls later : List Recorded) (w : Write) (old new : List ℕ) (at n : ℕ) → later ≡ calls ++ Wrote w ∷ [] → w.at ≡ at → w.count ≡ n → before_write w new ≡ old
    → length new ≡ max (length old) (at + n) → at ≤ length old → Follows (Torn at n) (MayLeave (unsynced calls) old) (MayLeave (unsynced later) new)
follows calls later w old new at n is is_at is_count undone longer within c left =
    let size : length new ≡ max (length old) (w.at + w.count) = omega arith in
    let place : w.at ≤ length old = omega arith in
    let pushed = subst (λ (ws : List Write). MayLeave ws new c) (ap (λ (cs : List Recorded). unsynced cs) is ∙ unsynced_write [] calls w) left in
    let torn = restored_torn (unsynced calls) w old new undone size place c pushed in (
      restored (unsynced calls) w old new undone size place c pushed,
      restored_left (unsynced calls) w old new undone size place c pushed,
      subst (λ (k : ℕ). Torn at k (restored (unsynced calls) w old new undone size place c pushed) c) is_count (subst (λ (a : ℕ). Torn a w.count (restored (unsynced calls) w old new undone size place c pushed) c) is_at torn),
    )

-- the content at the last sync, after a write
pub noted_synced : (old new : List ℕ) (at n : ℕ) (calls later : List Recorded) → IsNoted old new at n calls later → before_writes (unsynced later) new ≡ before_writes (unsynced calls) old
noted_synced old new at n calls later noted =
    ap (λ (cs : List Recorded). before_writes (unsynced cs) new) noted.noted
    ∙ ap (λ (ws : List Write). before_writes ws new) (unsynced_write [] calls noted.write)
    ∙ same_synced (unsynced calls) noted.write old new noted.undone

pub noted_follows : (old new : List ℕ) (at n : ℕ) (calls later : List Recorded) → IsNoted old new at n calls later → at ≤ length old
    → Follows (Torn at n) (MayLeave (unsynced calls) old) (MayLeave (unsynced later) new)
noted_follows old new at n calls later noted within = follows calls later noted.write old new at n noted.noted noted.place noted.size noted.undone noted.longer within

-- what the picks make is among what a stop may leave
pub picks_left : (picks : List Pick) (ws : List Write) (old new : List ℕ) → TakesPicks picks (before_writes ws old) (is_written ws) old new → MayLeave ws old new
picks_left picks ws old new taken = record {
  no_shorter = omega (arith, taken.same_length, length-before_writes ws old);
  no_longer = omega (arith, taken.same_length);
  outside = λ i lt out. taken.others i out ∙ outside_writes ws old i lt out;
}
