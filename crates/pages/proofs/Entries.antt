-- The fields of a journal page.
use Rattle.std.proofs.Common.{◌≡◌, ℕ, ◌+◌, ◌*◌, ◌^◌, ◌≤◌, ◌<◌, Bool, true, ltb, get_or, List, [], ◌∷◌, ◌++◌, length, take, drop, Option, Some, None, refl, sym, ap, subst, ◌∙◌, append_assoc, arith}
use Rattle.std.specs.List.{flat_map, list_all, AllByRecursion}
use Rattle.std.proofs.lemmas.List.{length-append, length-take, drop_at, take_all}
use Rattle.byteorder.specs.Endian.{big_bytes, big_number}
use Rattle.byteorder.specs.Numbers.{big_number-reads_back, big_from-lt}
use Rattle.roadnet.specs.declared.commands.Command.{Command}
use Rattle.pages.specs.declared.content.Format.{Format}
use Rattle.pages.specs.declared.content.Format.TheVariants.{One, Two}
use Rattle.pages.specs.declared.content.Record.{Record}
use Rattle.pages.specs.Grouping.{records_of, records_in, grouped, are_whole, is_of_format}
use Rattle.pages.specs.Spelling.{zeros, body, entry_page, front_bytes, more_byte, command_bytes, record_bytes, records_page, IsRecord, AreRecords, IsEntry, SpelledEntry}
use Rattle.pages.specs.Contents.{Entry}
use Rattle.pages.specs.Reading.{read_records}
use Rattle.pages.proofs.Padding.{length-zeros, begins}
use Rattle.roadnet.specs.Groups.{commands_of}
use Rattle.pages.proofs.Grouped.{length-records_of, length-records_in, grouped_again, records_again, groups_some, record_at, flat_more, count_more, count_to}
use Rattle.pages.proofs.Records.{length-records, records_read, records_fit, all_of_format, all_in_two, IsBytes, IsBytes-drop}

pub length-front : (s f n : ℕ) → length (front_bytes s f n) ≡ 32
length-front s f n = omega (arith, length-zeros 14)

abbrev pub fields_of : ℕ → ℕ → List Record → List ℕ
fields_of s f records = front_bytes s f (length records) ++ flat_map record_bytes records

pub length-fields : (s f : ℕ) (records : List Record) → length records ≤ 253 → length (fields_of s f records) ≤ 4095
length-fields s f records few = omega (arith, length-append (front_bytes s f (length records)) (flat_map record_bytes records), length-front s f (length records), length-records records)

-- there is room for one more record
pub room : (front page : List ℕ) (records : List Record) (i : ℕ) → length front + 16 * length records ≤ 4096 → i < length records → page ≡ front ++ flat_map record_bytes (take i records) → length page + 16 ≤ 4096
room front page records i fit lt is = omega (arith, ap length is, length-append front (flat_map record_bytes (take i records)), length-records (take i records), length-take i records)

-- what is read at the places of the fields
pub record ReadsAs (page : List ℕ) (s f : ℕ) (rs : List Record) : Type 0 where
  pub sequence : big_number 8 page ≡ s
  pub first_number : big_number 8 (drop 8 page) ≡ f
  pub count : big_number 2 (drop 16 page) ≡ length rs
  pub records : read_records (length rs) (drop 32 page) ≡ Some rs

fields_read : (g : Format) (s f : ℕ) (records : List Record) (rest : List ℕ) → s < 2 ^ 64 → f < 2 ^ 64 → AreRecords g records → ReadsAs (fields_of s f records ++ rest) s f records
fields_read g s f records rest hs hf fits = record {
  sequence = big_number-reads_back 8 s (big_bytes 8 f ++ big_bytes 2 (length records) ++ zeros 14 ++ flat_map record_bytes records ++ rest) hs;
  first_number = big_number-reads_back 8 f (big_bytes 2 (length records) ++ zeros 14 ++ flat_map record_bytes records ++ rest) hf;
  count = big_number-reads_back 2 (length records) (zeros 14 ++ flat_map record_bytes records ++ rest) (omega (arith, fits.few));
  records = ap (read_records (length records)) (ap (drop 14) (append_assoc (zeros 14) (flat_map record_bytes records) rest) ∙ drop_at (zeros 14) (flat_map record_bytes records ++ rest) 14 (length-zeros 14)) ∙ records_read g records rest fits.each;
}

-- A page that spells an entry is read as that.
pub entry_read : (g : Format) (page : List ℕ) (e : Entry) → SpelledEntry g page e → ReadsAs page e.sequence e.first_number (records_in e.groups)
entry_read g page e spells =
    let b = begins page (fields_of e.sequence e.first_number (records_in e.groups)) (length-fields e.sequence e.first_number (records_in e.groups) spells.fits.records.few) spells.spelled in
    rw b.1 (fields_read g e.sequence e.first_number (records_in e.groups) b.0 spells.fits.sequence_fits spells.fits.number_fits spells.fits.records)

pub same_entry : (e : Entry) (s f : ℕ) (gs : List (List Command)) → s ≡ e.sequence → f ≡ e.first_number → gs ≡ e.groups → record { sequence = s; first_number = f; groups = gs } ≡ e
same_entry e s f gs p q r = rw (p, q, r) refl

-- a page of these parts is the entry's
pub same_page : (e : Entry) (s f : ℕ) (rs : List Record) → s ≡ e.sequence → f ≡ e.first_number → rs ≡ records_in e.groups → body (records_page s f rs) ≡ body (entry_page e)
same_page e s f rs p q r = rw (p, q, r) refl

-- what was found at the places of the fields
pub record Found (page : List ℕ) (s f n : ℕ) (read : Option (List Record)) : Type 0 where
  pub sequence : s ≡ big_number 8 page
  pub first_number : f ≡ big_number 8 (drop 8 page)
  pub count : n ≡ big_number 2 (drop 16 page)
  pub records : read ≡ read_records n (drop 32 page)

pub found_fit : (page : List ℕ) (s f n : ℕ) (rs : List Record) → IsBytes page → Found page s f n (Some rs) → 1 ≤ n → n ≤ 253 → AreRecords Two rs
found_fit page s f n rs is found some most =
    let fit = records_fit n (drop 32 page) rs (IsBytes-drop 32 page is) (sym found.records) in
    record { some = omega (arith, fit.0); few = omega (arith, fit.0); each = fit.1 }

pub found_fits : (g : Format) (page : List ℕ) (s f n : ℕ) (rs : List Record) → IsBytes page → Found page s f n (Some rs) → 1 ≤ n → n ≤ 253 → list_all (is_of_format g) rs ≡ true → are_whole rs ≡ true
    → IsEntry g (record { sequence = s; first_number = f; groups = grouped rs })
found_fits g page s f n rs is found some most of whole =
    let fit = found_fit page s f n rs is found some most in
    record {
      sequence_fits = omega (arith, found.sequence, big_from-lt 0 8 page is);
      number_fits = omega (arith, found.first_number, big_from-lt 0 8 (drop 8 page) (IsBytes-drop 8 page is));
      groups = groups_some rs;
      records = subst (AreRecords g) (sym (records_again rs whole)) (record { some = fit.some; few = fit.few; each = all_of_format g rs fit.each of });
    }

read_is : (g : Format) (page : List ℕ) (e : Entry) (s f n : ℕ) (read : Option (List Record)) → SpelledEntry g page e → Found page s f n read → read ≡ Some (records_in e.groups)
read_is g page e s f n read spells found =
    let r = entry_read g page e spells in
    found.records ∙ ap (λ (k : ℕ). read_records k (drop 32 page)) (found.count ∙ r.count) ∙ r.records

pub found_records : (g : Format) (page : List ℕ) (e : Entry) (s f n : ℕ) (rs : List Record) → SpelledEntry g page e → Found page s f n (Some rs) → rs ≡ records_in e.groups
found_records g page e s f n rs spells found = let same : Some rs ≡ Some (records_in e.groups) = read_is g page e s f n (Some rs) spells found in cc

pub found_numbers : (g : Format) (page : List ℕ) (e : Entry) (s f n : ℕ) (rs : List Record) → SpelledEntry g page e → Found page s f n (Some rs) → (s ≡ e.sequence) × (f ≡ e.first_number)
found_numbers g page e s f n rs spells found =
    let r = entry_read g page e spells in
    (found.sequence ∙ r.sequence, found.first_number ∙ r.first_number)

pub found_none : (g : Format) (page : List ℕ) (e : Entry) (s f n : ℕ) → SpelledEntry g page e → Found page s f n None → ⊥
found_none g page e s f n spells found =
    let same : None ≡ Some (records_in e.groups) = read_is g page e s f n None spells found in cc

pub entry_once : (g : Format) (page : List ℕ) (d e : Entry) → SpelledEntry g page d → SpelledEntry g page e → d ≡ e
entry_once g page d e hd he =
    let p = entry_read g page d hd in
    let q = entry_read g page e he in
    let same : Some (records_in d.groups) ≡ Some (records_in e.groups) = sym p.records ∙ ap (λ (k : ℕ). read_records k (drop 32 page)) (sym p.count ∙ q.count) ∙ q.records in
    let one : records_in d.groups ≡ records_in e.groups = cc in
    same_entry e d.sequence d.first_number d.groups (sym p.sequence ∙ q.sequence) (sym p.first_number ∙ q.first_number) (sym (grouped_again d.groups hd.fits.groups) ∙ ap grouped one ∙ grouped_again e.groups he.fits.groups)

-- ---- the records of a group, one by one

pub group_room : (front page : List ℕ) (cs : List Command) (i : ℕ) → length front + 16 * length cs ≤ 4096 → i < length cs → page ≡ front ++ flat_map record_bytes (take i (records_of cs)) → length page + 16 ≤ 4096
group_room front page cs i fit lt is = room front page (records_of cs) i (omega (arith, length-records_of cs)) (omega (arith, length-records_of cs)) is

pub group_more : (front page new : List ℕ) (cs : List Command) (i : ℕ) (d : Command) (b : Bool) → i < length cs → b ≡ ltb (i + 1) (length cs) → page ≡ front ++ flat_map record_bytes (take i (records_of cs)) → new ≡ page ++ command_bytes (more_byte b) (get_or cs i d)
    → new ≡ front ++ flat_map record_bytes (take (i + 1) (records_of cs))
group_more front page new cs i d b lt e is put =
    let r : Record = record { command = get_or cs i d; goes_on = b } in
    let there : get_or (records_of cs) i r ≡ r = record_at cs i d r lt ∙ ap (λ (x : Bool). let q : Record = record { command = get_or cs i d; goes_on = x } in q) (sym e) in
    put ∙ ap (λ (xs : List ℕ). xs ++ command_bytes (more_byte b) (get_or cs i d)) is
    ∙ append_assoc front (flat_map record_bytes (take i (records_of cs))) (command_bytes (more_byte b) (get_or cs i d))
    ∙ ap (λ (q : Record). front ++ (flat_map record_bytes (take i (records_of cs)) ++ record_bytes q)) (sym there)
    ∙ ap (λ (xs : List ℕ). front ++ xs) (sym (flat_more record_bytes (records_of cs) i r (omega (arith, length-records_of cs))))

pub group_done : (front page : List ℕ) (cs : List Command) (i : ℕ) → length cs ≤ i → page ≡ front ++ flat_map record_bytes (take i (records_of cs)) → page ≡ front ++ flat_map record_bytes (records_of cs)
group_done front page cs i le is = is ∙ ap (λ (rs : List Record). front ++ flat_map record_bytes rs) (take_all i (records_of cs) (omega (arith, length-records_of cs)))

-- there is room for one more group
pub groups_room : (front page : List ℕ) (groups : List (List Command)) (i : ℕ) (d : List Command) → length front + 16 * length (commands_of groups) ≤ 4096 → i < length groups → page ≡ front ++ flat_map record_bytes (records_in (take i groups))
    → length page + 16 * length (get_or groups i d) ≤ 4096
groups_room front page groups i d fit lt is =
    omega (arith, ap length is, length-append front (flat_map record_bytes (records_in (take i groups))), length-records (records_in (take i groups)), length-records_in (take i groups), count_more groups i d lt, count_to groups (i + 1))

-- ---- an entry of format 1 is one of format 2

one_old : (group : List Command) → 1 ≤ length group → AllByRecursion (IsRecord One) (records_of group) → length group ≡ 1
one_old [] some fits = absurd (omega arith)
one_old (c ∷ []) some fits = refl
one_old (c ∷ d ∷ cs) some fits = absurd fits.0.more

front_records : (P : Record → Type 0) (xs ys : List Record) → AllByRecursion P (xs ++ ys) → AllByRecursion P xs × AllByRecursion P ys
front_records P [] ys all = (tt, all)
front_records P (x ∷ xs) ys all = let rest = front_records P xs ys all.1 in ((all.0, rest.0), rest.1)

all_old : (groups : List (List Command)) → AllByRecursion (λ group. 1 ≤ length group) groups → AllByRecursion (IsRecord One) (records_in groups) → AllByRecursion (λ group. length group ≡ 1) groups
all_old [] some fits = tt
all_old (g ∷ gs) some fits = let f = front_records (IsRecord One) (records_of g) (records_in gs) fits in (one_old g some.0 f.0, all_old gs some.1 f.1)

pub old_entry : (page : List ℕ) (e : Entry) → SpelledEntry One page e → SpelledEntry Two page e × AllByRecursion (λ group. length group ≡ 1) e.groups
old_entry page e spells = (
  record {
    fits = record {
      sequence_fits = spells.fits.sequence_fits;
      number_fits = spells.fits.number_fits;
      groups = spells.fits.groups;
      records = record { some = spells.fits.records.some; few = spells.fits.records.few; each = all_in_two One (records_in e.groups) spells.fits.records.each };
    };
    spelled = spells.spelled;
  },
  all_old e.groups spells.fits.groups spells.fits.records.each,
)
