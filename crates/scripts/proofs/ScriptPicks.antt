-- The picks of a line `stop`, read one after the other.
use Rattle.std.proofs.Common.{◌≡◌, ◌∙◌, ◌<◌, ◌≤◌, ◌+◌, ℕ, Bool, true, false, not, ◌||◌, ◌&&◌, ltb, leb, List, [], ◌∷◌, ◌++◌, length, take, drop, map, Option, None, Some, Result, Ok, Err, refl, sym, ap, subst, inl, inr, arith, append_assoc, length-append}
use Rattle.std.specs.List.{prefix_len}
use Rattle.std.specs.Option.{option_map_or}
use Rattle.std.specs.Str.{bytes_eq}
use Rattle.std.proofs.Math.Seq.{take-append_seam, drop-append_seam}
use Rattle.std.proofs.lemmas.Bool.{cases_Bool, or_parts, eq-eqb, lt-leb}
use Rattle.std.proofs.lemmas.Bool.Decides.{nat_tests}
use Rattle.std.proofs.lemmas.List.{map-append}
use Rattle.std.proofs.lemmas.List.Folds.{prefix_len-append, list_any-append}
use Rattle.std.proofs.lemmas.Slice.Eq.{bytes_eq-Decides}
use lib.Chars.{codes}
use Rattle.dimacs.specs.declared.fault.Code.{Code}
use Rattle.dimacs.specs.declared.fault.Code.TheVariants.{NumberRange}
use Rattle.dimacs.specs.declared.numerals.numeral.Numeral.{Numeral}
use Rattle.dimacs.specs.Commands.{is_refused}
use Rattle.dimacs.specs.Faults.{Row, has_first, some_numeral}
use Rattle.dimacs.specs.Lines.{fields}
use Rattle.dimacs.specs.Numerals.{numeral, kept}
use Rattle.dimacs.proofs.Items.{known, or-false}
use Rattle.disk.specs.declared.stoppable.Pick.{Pick}
use Rattle.disk.specs.declared.stoppable.Pick.TheVariants.{Old, New, Byte}
use Rattle.scripts.specs.declared.script_stops.PicksRead.{PicksRead}
use Rattle.scripts.specs.ScriptTexts.{pick_from, is_pick, picks_in, behind_picks, most_picks, is_some_of_most, is_no_byte}
use Rattle.scripts.specs.ScriptReading.{byte_of_numeral, pick_read, pick_kept, picks_read, is_in_range, HasPicks, ReadsPicks}
use Rattle.dimacs.proofs.CommandRows.{kept_refused, kept_number}

-- ---- one pick
large_kept : (n : Numeral) → ltb 255 (kept n).size ≡ ltb 255 n.size
large_kept n = grind (arith, nat_tests)

no_byte_kept : (n : Numeral) → is_no_byte (kept n) ≡ is_no_byte n
no_byte_kept n = ap (λ (b : Bool). b || ltb 255 (kept n).size) (kept_refused n) ∙ ap (λ (b : Bool). is_refused n || b) (large_kept n)

data PickCase (field : List ℕ) : Type 0 where
  NoPick : pick_read field ≡ None → is_pick field ≡ false → PickCase field
  IsPick : (pick : Pick) → pick_read field ≡ Some (Ok pick) → is_pick field ≡ true → option_map_or is_no_byte (numeral field) false ≡ false → pick_from field ≡ pick → PickCase field
  NoByte : pick_read field ≡ Some (Err NumberRange) → is_pick field ≡ true → option_map_or is_no_byte (numeral field) false ≡ true → PickCase field

old_case : PickCase (codes "old")
old_case = IsPick Old refl refl refl refl

new_case : PickCase (codes "new")
new_case = IsPick New refl refl refl refl

byte_case : (field : List ℕ) → bytes_eq field (codes "old") ≡ false → bytes_eq field (codes "new") ≡ false → PickCase field
byte_case field no_old no_new =
    elim (known (numeral field)) [
      | inl e ↦ NoPick (rw (no_old, no_new, e) refl) (rw (no_old, no_new, e) refl)
      | inr (a, e) ↦
          let read : pick_read field ≡ Some (byte_of_numeral (kept a)) = rw (no_old, no_new, e) refl in
          let some : is_pick field ≡ true = rw (no_old, no_new, e) refl in
          elim (cases_Bool (is_no_byte a)) [
            | inl out ↦ NoByte (read ∙ rw (no_byte_kept a, out) refl) some (rw e out)
            | inr inside ↦ IsPick (Byte (kept a).size) (read ∙ rw (no_byte_kept a, inside) refl) some (rw e inside)
                (rw (no_old, no_new, e) (ap Byte (sym (ap (λ (n : Numeral). n.size) (kept_number a (or_parts _ _ inside).0)))))
          ]
    ]

pick_cases : (field : List ℕ) → PickCase field
pick_cases field =
    elim (cases_Bool (bytes_eq field (codes "old"))) [
      | inl old ↦ subst PickCase (sym ((bytes_eq-Decides field (codes "old")).0 old)) old_case
      | inr no_old ↦ elim (cases_Bool (bytes_eq field (codes "new"))) [
        | inl new ↦ subst PickCase (sym ((bytes_eq-Decides field (codes "new")).0 new)) new_case
        | inr no_new ↦ byte_case field no_old no_new
      ]
    ]

pub no_pick : (field : List ℕ) → None ≡ pick_read field → is_pick field ≡ false
no_pick field none = go (pick_cases field)
  where
    go : PickCase field → is_pick field ≡ false
    go (NoPick e f) = f
    go (IsPick p e f g h) = absurd (let never : ◌≡◌ {A = Option (Result Pick Code)} None (Some (Ok p)) = none ∙ e in let absurdity : ⊥ = cc in absurdity)
    go (NoByte e f g) = absurd (let never : ◌≡◌ {A = Option (Result Pick Code)} None (Some (Err NumberRange)) = none ∙ e in let absurdity : ⊥ = cc in absurdity)

-- what a field that is a pick says
record SaysPick (field : List ℕ) (pick : Result Pick Code) : Type 0 where
  is : is_pick field ≡ true
  in_range : option_map_or is_no_byte (numeral field) false ≡ not (is_in_range pick)
  from : is_in_range pick ≡ true → pick_kept pick ≡ pick_from field

says_pick : (field : List ℕ) (pick : Result Pick Code) → Some pick ≡ pick_read field → SaysPick field pick
says_pick field pick some = go (pick_cases field)
  where
    same_as : (r : Result Pick Code) → pick_read field ≡ Some r → r ≡ pick
    same_as r e = let same : Some pick ≡ Some r = some ∙ e in cc

    go : PickCase field → SaysPick field pick
    go (NoPick e f) = absurd (let never : ◌≡◌ {A = Option (Result Pick Code)} (Some pick) None = some ∙ e in let absurdity : ⊥ = cc in absurdity)
    go (IsPick p e f g h) = subst (SaysPick field) (same_as (Ok p) e) (record { is = f; in_range = g; from = λ _. sym h })
    go (NoByte e f g) = subst (SaysPick field) (same_as (Err NumberRange) e) (record { is = f; in_range = g; from = λ never. absurd (let absurdity : ⊥ = cc in absurdity) })

-- ---- picks, one after the other
pub no_picks_yet : (row : Row) (read : PicksRead) → picks_read read ≡ [] → read.in_range ≡ true → fields read.rest.now ≡ row → HasPicks row [] read
no_picks_yet row read none right rest = record {
  row_is = sym rest;
  are_picks = refl;
  count = ap length none;
  in_range = rw right refl;
  picks_are = λ _. none;
}

not_and : (a b : Bool) → (not a || not b) ≡ not (a && b)
not_and true b = refl
not_and false b = refl

both_true : (a b : Bool) → (a && b) ≡ true → (a ≡ true) × (b ≡ true)
both_true true b e = (refl, e)
both_true false b e = absurd (let absurdity : ⊥ = cc in absurdity)

pub one_pick_more : (row taken : Row) (old new : PicksRead) (field : List ℕ) (pick : Result Pick Code) → HasPicks row taken old → fields old.rest.now ≡ field ∷ fields new.rest.now → Some pick ≡ pick_read field
    → picks_read new ≡ picks_read old ++ pick_kept pick ∷ [] → new.in_range ≡ (old.in_range && is_in_range pick) → HasPicks row (taken ++ field ∷ []) new
one_pick_more row taken old new field pick has behind some pushed range =
    let says = says_pick field pick some in
    let one : prefix_len is_pick (field ∷ []) ≡ 1 = rw says.is refl in
    let more : length (taken ++ field ∷ []) ≡ length taken + 1 = length-append taken (field ∷ []) in
    record {
      row_is = has.row_is ∙ (ap (λ (r : Row). taken ++ r) behind ∙ sym (append_assoc taken (field ∷ []) (fields new.rest.now)));
      are_picks =
          prefix_len-append is_pick taken (field ∷ [])
          ∙ (rw (has.are_picks, eq-eqb (length taken) (length taken) refl) (ap (λ (n : ℕ). length taken + n) one)
          ∙ sym more);
      count = ap length pushed ∙ (length-append (picks_read old) (pick_kept pick ∷ []) ∙ (ap (λ (n : ℕ). n + 1) has.count ∙ sym more));
      in_range =
          list_any-append (λ (f : List ℕ). option_map_or is_no_byte (numeral f) false) taken (field ∷ [])
          ∙ (ap (λ (b : Bool). b || (option_map_or is_no_byte (numeral field) false || false)) has.in_range
          ∙ (ap (λ (b : Bool). not old.in_range || (b || false)) says.in_range
          ∙ (ap (λ (b : Bool). not old.in_range || b) (or-false (not (is_in_range pick)))
          ∙ (not_and old.in_range (is_in_range pick)
          ∙ ap not (sym range)))));
      picks_are = λ right.
          let both = both_true old.in_range (is_in_range pick) (sym range ∙ right) in
          pushed ∙ (ap (λ (ps : List Pick). ps ++ pick_kept pick ∷ []) (has.picks_are both.0)
          ∙ (ap (λ (p : Pick). map pick_from taken ++ p ∷ []) (says.from both.1)
          ∙ sym (map-append pick_from taken (field ∷ []))));
    }

pub ends_without_field : (row taken : Row) (read : PicksRead) → HasPicks row taken read → fields read.rest.now ≡ [] → ReadsPicks row read
ends_without_field row taken read has none = record { taken = taken; has = has; ends = inr (rw none refl) }

pub ends_without_pick : (row taken others : Row) (read : PicksRead) (field : List ℕ) → HasPicks row taken read → fields read.rest.now ≡ field ∷ others → None ≡ pick_read field → ReadsPicks row read
ends_without_pick row taken others read field has some none = record { taken = taken; has = has; ends = inr (rw some (no_pick field none)) }

pub ends_with_many : (row taken : Row) (read : PicksRead) → HasPicks row taken read → 9 ≤ length taken → ReadsPicks row read
ends_with_many row taken read has many = record { taken = taken; has = has; ends = inl many }

-- ---- all of them
no_first : (others : Row) → has_first is_pick others ≡ false → prefix_len is_pick others ≡ 0
no_first [] none = refl
no_first (field ∷ others) none = rw none refl

pub count_is : (taken others : Row) → prefix_len is_pick taken ≡ length taken → has_first is_pick others ≡ false → prefix_len is_pick (taken ++ others) ≡ length taken
count_is taken others picks none =
    prefix_len-append is_pick taken others
    ∙ (rw (picks, eq-eqb (length taken) (length taken) refl) (let more = no_first others none in omega (arith, more)))

pub count_least : (taken others : Row) → prefix_len is_pick taken ≡ length taken → length taken ≤ prefix_len is_pick (taken ++ others)
count_least taken others picks =
    let all : prefix_len is_pick (taken ++ others) ≡ length taken + prefix_len is_pick others = prefix_len-append is_pick taken others ∙ rw (picks, eq-eqb (length taken) (length taken) refl) refl in
    omega (arith, all)

-- the row's own count of picks, which these are
pub record AllPicks (row : Row) (read : PicksRead) : Type 0 where
  pub count : prefix_len is_pick row ≡ length (picks_read read)
  pub in_range : some_numeral is_no_byte (picks_in row) ≡ not read.in_range
  pub picks_are : read.in_range ≡ true → picks_read read ≡ map pick_from (picks_in row)
  pub behind : behind_picks row ≡ fields read.rest.now

pub all_picks : (row taken : Row) (read : PicksRead) → HasPicks row taken read → has_first is_pick (fields read.rest.now) ≡ false → AllPicks row read
all_picks row taken read has none =
    let others = fields read.rest.now in
    let count : prefix_len is_pick (taken ++ others) ≡ length taken = count_is taken others has.are_picks none in
    let picks : picks_in (taken ++ others) ≡ taken = ap (λ (n : ℕ). take n (taken ++ others)) count ∙ take-append_seam taken others in
    let behind : behind_picks (taken ++ others) ≡ others = ap (λ (n : ℕ). drop n (taken ++ others)) count ∙ drop-append_seam taken others in
    subst (λ (r : Row). AllPicks r read) (sym has.row_is) (record {
      count = count ∙ sym has.count;
      in_range = ap (some_numeral is_no_byte) picks ∙ has.in_range;
      picks_are = λ right. has.picks_are right ∙ ap (map pick_from) (sym picks);
      behind = behind;
    })

-- too many
pub many_picks : (row taken : Row) (read : PicksRead) → HasPicks row taken read → most_picks < length taken → (is_some_of_most (prefix_len is_pick row) ≡ false) × (is_some_of_most (length (picks_read read)) ≡ false)
many_picks row taken read has many =
    let least = count_least taken (fields read.rest.now) has.are_picks in
    let there : prefix_len is_pick row ≡ prefix_len is_pick (taken ++ fields read.rest.now) = ap (prefix_len is_pick) has.row_is in
    let far : 9 ≤ length taken = many in
    (above (prefix_len is_pick row) (omega (arith, least, there, far)), above (length (picks_read read)) (omega (arith, far, has.count)))
  where
    right_false : (a b : Bool) → b ≡ false → (a && b) ≡ false
    right_false true b e = e
    right_false false b e = refl

    above : (n : ℕ) → 9 ≤ n → is_some_of_most n ≡ false
    above n large = right_false (leb 1 n) (leb n 8) (lt-leb n 8 (omega (arith, large)))
