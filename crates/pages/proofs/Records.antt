-- The records of commands, one after the other.
use Rattle.std.proofs.Common.{◌≡◌, ℕ, zero, suc, ◌+◌, ◌-◌, ◌*◌, ◌^◌, ◌≤◌, ◌<◌, List, [], ◌∷◌, ◌++◌, length, take, drop, Option, Some, None, Bool, true, false, true≢false, cond, get_or, refl, sym, ap, subst, ◌∙◌, append_assoc, arith, inl, inr}
use Rattle.std.specs.Prelude.{option_and_then, slice_index, not, ◌&&◌, ◌==◌}
use Rattle.std.specs.Option.{option_map}
use Rattle.std.specs.List.{flat_map, list_all, AllByRecursion}
use Rattle.std.proofs.lemmas.List.{append-nil, length-append, length-take, get_or-drop, get_or-take, get_or_past}
use Rattle.std.proofs.lemmas.Bool.{cases_lt}
use Rattle.byteorder.specs.Endian.{big_bytes, big_number}
use Rattle.byteorder.specs.Numbers.{big_number-reads_back, big_from-lt}
use Rattle.roadnet.specs.declared.commands.Command.{Command}
use Rattle.roadnet.specs.declared.commands.Command.TheVariants.{Set, Close, Reopen, Mark, Unmark, Lay}
use Rattle.pages.specs.declared.content.Format.{Format}
use Rattle.pages.specs.declared.content.Format.TheVariants.{One, Two}
use Rattle.pages.specs.declared.content.Record.{Record}
use Rattle.pages.specs.Grouping.{is_lay, is_of_format}
use Rattle.pages.specs.Spelling.{record_with, command_bytes, more_byte, record_bytes, FitsRecord, MayGoOn, IsRecord, SpelledRecord}
use Rattle.pages.specs.Reading.{command_of_kind, read_command, read_record, read_records}

pub length-command : (more : ℕ) (c : Command) → length (command_bytes more c) ≡ 16
length-command more (Set k w) = refl
length-command more (Close k) = refl
length-command more (Reopen k) = refl
length-command more (Mark x) = refl
length-command more (Unmark x) = refl
length-command more (Lay t h w) = refl

pub length-record : (r : Record) → length (record_bytes r) ≡ 16
length-record r = length-command (more_byte r.goes_on) r.command

pub length-records : (rs : List Record) → length (flat_map record_bytes rs) ≡ 16 * length rs
length-records [] = refl
length-records (r ∷ rs) = omega (arith, length-append (record_bytes r) (flat_map record_bytes rs), length-record r, length-records rs)

-- what was read before, and what is still read
abbrev pub with_front : List Record → Option (List Record) → Option (List Record)
with_front front read = option_map (λ records. front ++ records) read

regroup : (front : List Record) (c : Record) (read : Option (List Record)) → with_front front (option_map (λ records. c ∷ records) read) ≡ with_front (front ++ c ∷ []) read
regroup front c None = refl
regroup front c (Some cs) = ap (λ (xs : List Record). Some xs) (sym (append_assoc front (c ∷ []) cs))

pub goes_on : (front : List Record) (count i : ℕ) (rest : List ℕ) (c : Record) (total : Option (List Record)) → i < count → read_record (take 16 rest) ≡ Some c
    → with_front front (read_records (count - i) rest) ≡ total → with_front (front ++ c ∷ []) (read_records (count - (i + 1)) (drop 16 rest)) ≡ total
unfolding read_records
goes_on front count i rest c total lt h so_far =
    let k : count - i ≡ suc (count - (i + 1)) = omega arith in
    let one : with_front front (read_records (count - i) rest) ≡ with_front (front ++ c ∷ []) (read_records (count - (i + 1)) (drop 16 rest)) =
    ap (λ (n : ℕ). with_front front (read_records n rest)) k
    ∙ ap (λ (r : Option Record). with_front front (option_and_then (λ r. option_map (λ records. r ∷ records) (read_records (count - (i + 1)) (drop 16 rest))) r)) h
    ∙ regroup front c (read_records (count - (i + 1)) (drop 16 rest)) in
    sym one ∙ so_far

pub ends : (front : List Record) (count i : ℕ) (rest : List ℕ) (total : Option (List Record)) → i < count → read_record (take 16 rest) ≡ None
    → with_front front (read_records (count - i) rest) ≡ total → None ≡ total
unfolding read_records
ends front count i rest total lt h so_far =
    let k : count - i ≡ suc (count - (i + 1)) = omega arith in
    let one : with_front front (read_records (count - i) rest) ≡ None =
    ap (λ (n : ℕ). with_front front (read_records n rest)) k
    ∙ ap (λ (r : Option Record). with_front front (option_and_then (λ r. option_map (λ records. r ∷ records) (read_records (count - (i + 1)) (drop 16 rest))) r)) h in
    sym one ∙ so_far

pub is_done : (front : List Record) (count i : ℕ) (rest : List ℕ) (total : Option (List Record)) → count ≤ i
    → with_front front (read_records (count - i) rest) ≡ total → Some front ≡ total
unfolding read_records
is_done front count i rest total le so_far =
    let k : count - i ≡ 0 = omega arith in
    let one : with_front front (read_records (count - i) rest) ≡ Some front =
    ap (λ (n : ℕ). with_front front (read_records n rest)) k ∙ ap (λ (xs : List Record). Some xs) (append-nil front) in
    sym one ∙ so_far

pub is_start : (read : Option (List Record)) → with_front [] read ≡ read
is_start None = refl
is_start (Some cs) = refl

-- ---- what was written is read

same_command : (kind a b c x y z : ℕ) → x ≡ a → y ≡ b → z ≡ c → command_of_kind kind x y z ≡ command_of_kind kind a b c
same_command kind a b c x y z p q r = rw (p, q, r) refl

numbers_read : (kind more a b c : ℕ) (rest : List ℕ) → a < 2 ^ 32 → b < 2 ^ 32 → c < 2 ^ 32 → read_command (record_with kind more a b c ++ rest) ≡ command_of_kind kind a b c
numbers_read kind more a b c rest p q r =
    same_command kind a b c _ _ _ (big_number-reads_back 4 a (big_bytes 4 b ++ big_bytes 4 c ++ rest) p) (big_number-reads_back 4 b (big_bytes 4 c ++ rest) q) (big_number-reads_back 4 c rest r)

pub command_read : (f : Format) (more : ℕ) (c : Command) (rest : List ℕ) → FitsRecord f c → read_command (command_bytes more c ++ rest) ≡ Some c
command_read f more (Set k w) rest fits = numbers_read 1 more k w 0 rest fits.0 fits.1 (omega arith)
command_read f more (Close k) rest fits = numbers_read 2 more k 0 0 rest fits (omega arith) (omega arith)
command_read f more (Reopen k) rest fits = numbers_read 3 more k 0 0 rest fits (omega arith) (omega arith)
command_read f more (Mark x) rest fits = numbers_read 4 more x 0 0 rest fits (omega arith) (omega arith)
command_read f more (Unmark x) rest fits = numbers_read 5 more x 0 0 rest fits (omega arith) (omega arith)
command_read f more (Lay t h w) rest fits = numbers_read 6 more t h w rest fits.1 fits.2 fits.3

second_byte : (more : ℕ) (c : Command) (rest : List ℕ) → slice_index (command_bytes more c ++ rest) 1 ≡ more
second_byte more (Set k w) rest = refl
second_byte more (Close k) rest = refl
second_byte more (Reopen k) rest = refl
second_byte more (Mark x) rest = refl
second_byte more (Unmark x) rest = refl
second_byte more (Lay t h w) rest = refl

more_back : (b : Bool) → not (more_byte b == 0) ≡ b
more_back true = refl
more_back false = refl

abbrev with_more : ℕ → Command → Record
with_more byte c = record { command = c; goes_on = not (byte == 0) }

record_from : (c : Command) (b : Bool) (o : Option Command) (byte : ℕ) → o ≡ Some c → byte ≡ more_byte b → option_map (with_more byte) o ≡ Some (record { command = c; goes_on = b })
record_from c b o byte p q = rw (p, q) (ap (λ (x : Bool). let r : Record = record { command = c; goes_on = x } in Some r) (more_back b))

pub record_read : (f : Format) (r : Record) (rest : List ℕ) → IsRecord f r → read_record (record_bytes r ++ rest) ≡ Some r
record_read f r rest fits = record_from r.command r.goes_on _ _ (command_read f (more_byte r.goes_on) r.command rest fits.command) (second_byte (more_byte r.goes_on) r.command rest)

split_command : (more : ℕ) (c : Command) (rest : List ℕ) → (take 16 (command_bytes more c ++ rest) ≡ command_bytes more c ++ []) × (drop 16 (command_bytes more c ++ rest) ≡ rest)
split_command more (Set k w) rest = (refl, refl)
split_command more (Close k) rest = (refl, refl)
split_command more (Reopen k) rest = (refl, refl)
split_command more (Mark x) rest = (refl, refl)
split_command more (Unmark x) rest = (refl, refl)
split_command more (Lay t h w) rest = (refl, refl)

split : (r : Record) (rest : List ℕ) → (take 16 (record_bytes r ++ rest) ≡ record_bytes r ++ []) × (drop 16 (record_bytes r ++ rest) ≡ rest)
split r rest = split_command (more_byte r.goes_on) r.command rest

pub records_read : (f : Format) (rs : List Record) (rest : List ℕ) → AllByRecursion (IsRecord f) rs → read_records (length rs) (flat_map record_bytes rs ++ rest) ≡ Some rs
unfolding read_records
records_read f [] rest fits = refl
records_read f (r ∷ rs) rest fits =
    let first = ap read_record (split r (flat_map record_bytes rs ++ rest)).0 ∙ record_read f r [] fits.0 in
    ap (read_records (suc (length rs))) (append_assoc (record_bytes r) (flat_map record_bytes rs) rest)
    ∙ ap (λ (o : Option Record). option_and_then (λ q. option_map (λ records. q ∷ records) (read_records (length rs) (drop 16 (record_bytes r ++ (flat_map record_bytes rs ++ rest))))) o) first
    ∙ ap (λ (xs : List ℕ). option_map (λ records. r ∷ records) (read_records (length rs) xs)) (split r (flat_map record_bytes rs ++ rest)).1
    ∙ ap (option_map (λ records. r ∷ records)) (records_read f rs rest fits.1)

-- ---- what is read has a record

chosen : (b1 b2 b3 b4 b5 b6 : Bool) (x y z : ℕ) (c : Command) → x < 2 ^ 32 → y < 2 ^ 32 → z < 2 ^ 32
    → cond b1 (Some (Set x y)) (cond b2 (Some (Close x)) (cond b3 (Some (Reopen x)) (cond b4 (Some (Mark x)) (cond b5 (Some (Unmark x)) (cond b6 (Some (Lay x y z)) None))))) ≡ Some c → FitsRecord Two c
chosen true b2 b3 b4 b5 b6 x y z c p q r e = let is : Set x y ≡ c = cc in subst (FitsRecord Two) is (p, q)
chosen false true b3 b4 b5 b6 x y z c p q r e = let is : Close x ≡ c = cc in subst (FitsRecord Two) is p
chosen false false true b4 b5 b6 x y z c p q r e = let is : Reopen x ≡ c = cc in subst (FitsRecord Two) is p
chosen false false false true b5 b6 x y z c p q r e = let is : Mark x ≡ c = cc in subst (FitsRecord Two) is p
chosen false false false false true b6 x y z c p q r e = let is : Unmark x ≡ c = cc in subst (FitsRecord Two) is p
chosen false false false false false true x y z c p q r e = let is : Lay x y z ≡ c = cc in subst (FitsRecord Two) is (tt, p, q, r)
chosen false false false false false false x y z c p q r e = absurd cc

abbrev pub IsBytes : List ℕ → Type 0
IsBytes bytes = (i : ℕ) → get_or bytes i 0 < 256

pub IsBytes-drop : (n : ℕ) (bytes : List ℕ) → IsBytes bytes → IsBytes (drop n bytes)
IsBytes-drop n bytes h i = rw get_or-drop (h (n + i))

pub IsBytes-take : (n : ℕ) (bytes : List ℕ) → IsBytes bytes → IsBytes (take n bytes)
IsBytes-take n bytes h i =
    elim (cases_lt i n) [
      | inl lt ↦ rw (get_or-take n bytes i 0 lt) (h i)
      | inr le ↦ rw (get_or_past (take n bytes) i 0 (omega (arith, length-take n bytes))) (omega arith)
    ]

command_fits : (bytes : List ℕ) (c : Command) → IsBytes bytes → read_command bytes ≡ Some c → FitsRecord Two c
command_fits bytes c is e = chosen _ _ _ _ _ _ (big_number 4 (drop 4 bytes)) (big_number 4 (drop 8 bytes)) (big_number 4 (drop 12 bytes)) c (big_from-lt 0 4 (drop 4 bytes) (IsBytes-drop 4 bytes is)) (big_from-lt 0 4 (drop 8 bytes) (IsBytes-drop 8 bytes is)) (big_from-lt 0 4 (drop 12 bytes) (IsBytes-drop 12 bytes is)) e

two_goes_on : (b : Bool) → MayGoOn Two b
two_goes_on true = tt
two_goes_on false = tt

from_command : (byte : ℕ) (o : Option Command) (r : Record) → option_map (with_more byte) o ≡ Some r → o ≡ Some r.command
from_command byte None r e = absurd cc
from_command byte (Some c) r e = let same : with_more byte c ≡ r = cc in ap (λ (q : Record). Some q.command) same

record_fits : (bytes : List ℕ) (r : Record) → IsBytes bytes → read_record bytes ≡ Some r → IsRecord Two r
record_fits bytes r is e = record { command = command_fits bytes r.command is (from_command (slice_index bytes 1) (read_command bytes) r e); more = two_goes_on r.goes_on }

parts : (o : Option Record) (read : Option (List Record)) (rs : List Record) → option_and_then (λ r. option_map (λ xs. r ∷ xs) read) o ≡ Some rs
    → (r : Record) × (xs : List Record) × (o ≡ Some r) × (read ≡ Some xs) × (r ∷ xs ≡ rs)
parts None read rs e = absurd cc
parts (Some r) None rs e = absurd cc
parts (Some r) (Some xs) rs e = (r, xs, refl, refl, cc)

pub records_fit : (n : ℕ) (bytes : List ℕ) (rs : List Record) → IsBytes bytes → read_records n bytes ≡ Some rs → (length rs ≡ n) × AllByRecursion (IsRecord Two) rs
unfolding read_records
records_fit zero bytes rs is e = let empty : [] ≡ rs = cc in subst (λ (xs : List Record). (length xs ≡ 0) × AllByRecursion (IsRecord Two) xs) empty (refl, tt)
records_fit (suc n) bytes rs is e =
    let p = parts (read_record (take 16 bytes)) (read_records n (drop 16 bytes)) rs e in
    let others = records_fit n (drop 16 bytes) p.1 (IsBytes-drop 16 bytes is) p.3 in
    subst (λ (xs : List Record). (length xs ≡ suc n) × AllByRecursion (IsRecord Two) xs) p.4 (ap (λ (k : ℕ). suc k) others.0, (record_fits (take 16 bytes) p.0 (IsBytes-take 16 bytes is) p.2, others.1))

pub record_once : (f : Format) (bytes : List ℕ) (q r : Record) → SpelledRecord f bytes q → SpelledRecord f bytes r → q ≡ r
record_once f bytes q r hq hr =
    let same : Some q ≡ Some r = sym (record_read f q [] hq.fits) ∙ ap (λ (xs : List ℕ). read_record (xs ++ [])) (sym hq.spelled ∙ hr.spelled) ∙ record_read f r [] hr.fits in cc

-- ---- the records of a format

fits_old : (c : Command) → FitsRecord One c → FitsRecord Two c × (is_lay c ≡ false)
fits_old (Set k w) fits = (fits, refl)
fits_old (Close k) fits = (fits, refl)
fits_old (Reopen k) fits = (fits, refl)
fits_old (Mark x) fits = (fits, refl)
fits_old (Unmark x) fits = (fits, refl)
fits_old (Lay t h w) fits = absurd fits.0

fits_again : (c : Command) → FitsRecord Two c → is_lay c ≡ false → FitsRecord One c
fits_again (Set k w) fits old = fits
fits_again (Close k) fits old = fits
fits_again (Reopen k) fits old = fits
fits_again (Mark x) fits old = fits
fits_again (Unmark x) fits old = fits
fits_again (Lay t h w) fits old = absurd (true≢false old)

never_goes_on : (b : Bool) → MayGoOn One b → b ≡ false
never_goes_on true may = absurd may
never_goes_on false may = refl

may_go_on : (b : Bool) → b ≡ false → MayGoOn One b
may_go_on true e = absurd (true≢false e)
may_go_on false e = tt

neither_of : (a b : Bool) → (not a && not b) ≡ true → (a ≡ false) × (b ≡ false)
neither_of true b e = absurd cc
neither_of false true e = absurd cc
neither_of false false e = (refl, refl)

pub record_is_of : (f : Format) (r : Record) → IsRecord f r → is_of_format f r ≡ true
record_is_of One r fits = rw (never_goes_on r.goes_on fits.more, (fits_old r.command fits.command).1) refl
record_is_of Two r fits = refl

pub record_of_format : (f : Format) (r : Record) → IsRecord Two r → is_of_format f r ≡ true → IsRecord f r
record_of_format One r fits e =
    let n = neither_of r.goes_on (is_lay r.command) e in
    record { command = fits_again r.command fits.command n.1; more = may_go_on r.goes_on n.0 }
record_of_format Two r fits e = fits

pub record_in_two : (f : Format) (r : Record) → IsRecord f r → IsRecord Two r
record_in_two One r fits = record { command = (fits_old r.command fits.command).0; more = two_goes_on r.goes_on }
record_in_two Two r fits = fits

pub all_in_two : (f : Format) (rs : List Record) → AllByRecursion (IsRecord f) rs → AllByRecursion (IsRecord Two) rs
all_in_two f [] fits = tt
all_in_two f (r ∷ rs) fits = (record_in_two f r fits.0, all_in_two f rs fits.1)

pub all_are_of : (f : Format) (rs : List Record) → AllByRecursion (IsRecord f) rs → list_all (is_of_format f) rs ≡ true
all_are_of f [] fits = refl
all_are_of f (r ∷ rs) fits = rw (record_is_of f r fits.0) (all_are_of f rs fits.1)

both_true : (a b : Bool) → (a && b) ≡ true → (a ≡ true) × (b ≡ true)
both_true true b e = (refl, e)
both_true false b e = absurd cc

pub all_of_format : (f : Format) (rs : List Record) → AllByRecursion (IsRecord Two) rs → list_all (is_of_format f) rs ≡ true → AllByRecursion (IsRecord f) rs
all_of_format f [] fits e = tt
all_of_format f (r ∷ rs) fits e =
    let b = both_true (is_of_format f r) (list_all (is_of_format f) rs) e in
    (record_of_format f r fits.0 b.0, all_of_format f rs fits.1 b.1)
