-- What a file stands for, before and after a page of its journal is written.
use Rattle.std.proofs.Common.{◌≡◌, inl, inr, ⊎_elim, ℕ, ◌+◌, ◌-◌, ◌*◌, ◌%◌, ◌^◌, ◌<◌, ◌≤◌, true, List, [], ◌∷◌, ◌++◌, length, Some, refl, sym, ◌∙◌, ap, subst, arith, length-append, length-take}
use Rattle.std.specs.Prelude.{◌&&◌, ◌==◌}
use Rattle.std.specs.List.{AllByRecursion}
use Rattle.std.proofs.Math.Nat.{mod-lt}
use Rattle.disk.specs.Contents.{Only}
use Rattle.disk.specs.Gated.{SameOutside, IsShut, with_page, IsWholeOrShut}
use Rattle.roadnet.specs.declared.commands.Command.{Command}
use Rattle.roadnet.specs.Net.{Net}
use Rattle.roadnet.specs.Step.{after}
use Rattle.pages.specs.declared.header.Header.{Header}
use Rattle.pages.specs.declared.content.Slot.{Slot}
use Rattle.pages.specs.Contents.{Entry}
use Rattle.pages.specs.Spelling.{body, zeros, page_of, entry_page, AreRecords, IsEntry, SpelledEntry, IsHeader}
use Rattle.pages.specs.declared.content.Format.{Format}
use Rattle.pages.specs.declared.content.Format.TheVariants.{Two}
use Rattle.pages.specs.Grouping.{records_in}
use Rattle.pages.specs.Layout.{slot_pages, page_count}
use Rattle.pages.proofs.Padding.{length-zeros}
use Rattle.pages.proofs.Entries.{fields_of, length-fields, entry_read}
use Rattle.storefile.specs.StoreFile.{page, is_open, first_field, is_standing, journal_page_at, HoldsNetworkTidily}
use Rattle.storefile.specs.Standing.{IsStoredAs, IsTidyAt, IsBeforeOrAfter, with_groups}
use Rattle.storefile.proofs.PageBytes.{shut_gate, body_front, gate_behind, written_outside, written_page}
use Rattle.storefile.proofs.JournalWrite.{closed_page, open_page, this_one}

-- a page of few fields
pub length-page_of : (fields : List ℕ) → length fields ≤ 4096 → length (page_of fields) ≡ 4096
unfolding page_of
length-page_of fields few = omega (arith, length-append fields (zeros (4096 - length fields)), length-zeros (4096 - length fields))

pub length-body : (p : List ℕ) → length p ≡ 4096 → length (body p) ≡ 4095
length-body p size = omega (arith, length-take 4095 p, size)

-- the page of each sequence lies within the file
pub page_within : (h : Header) (q size : ℕ) → IsHeader h → size ≡ 4096 * page_count h → 4096 * journal_page_at h q + 4096 ≤ size
page_within h q size fits is =
    let lt : q % h.journal_pages < h.journal_pages = mod-lt q (omega (arith, fits.some_page)) in
    omega (arith, lt, is)

stands_at : (p : List ℕ) (q : ℕ) → is_open p ≡ true → first_field p ≡ q → (is_open p && (first_field p == q)) ≡ true
stands_at p q opened first = rw opened (this_one (first_field p) q first)

-- a journal page that is written at the place of this sequence, by its body
pub record IsPage (version next : ℕ) (groups : List (List Command)) (b : List ℕ) : Type 0 where
  pub fits : IsEntry Two (record { sequence = next; first_number = version + 1; groups = groups })
  pub is : b ≡ body (entry_page (record { sequence = next; first_number = version + 1; groups = groups }))
  pub versions : version + length groups ≤ 2 ^ 48

pub page_size : (version next : ℕ) (groups : List (List Command)) (b : List ℕ) → IsPage version next groups b → length b ≡ 4095
page_size version next groups b wrote =
    let e : Entry = record { sequence = next; first_number = version + 1; groups = groups } in
    let few : length (fields_of next (version + 1) (records_in groups)) ≤ 4095 = length-fields next (version + 1) (records_in groups) wrote.fits.records.few in
    ap length wrote.is ∙ length-body (entry_page e) (length-page_of (fields_of next (version + 1) (records_in groups)) (omega (arith, few)))

pub is_page : (version next : ℕ) (groups : List (List Command)) → version + length groups ≤ 2 ^ 48 → next ≤ version → AllByRecursion (λ group. 1 ≤ length group) groups → AreRecords Two (records_in groups)
    → IsPage version next groups (body (entry_page (record { sequence = next; first_number = version + 1; groups = groups })))
is_page version next groups versions le some records =
    record { fits = record { sequence_fits = omega arith; number_fits = omega arith; groups = some; records = records }; is = refl; versions = versions }

-- the page that is written, whatever stands beside it
module _ (old : List ℕ) (h : Header) (version next : ℕ) (commands : List (List Command)) (b : List ℕ) (header : IsHeader h) (today : h.format ≡ Two) (size : length old ≡ 4096 * page_count h) (wrote : IsPage version next commands b) where
  fits_in : 4096 * journal_page_at h next + 4096 ≤ length old
  fits_in = page_within h next (length old) header size

  fills : length (b ++ 165 ∷ []) ≡ 4096
  fills = omega (arith, length-append b (165 ∷ []), page_size version next commands b wrote)

  pub page_outside : SameOutside (4096 * journal_page_at h next) 4096 old (with_page old (4096 * journal_page_at h next) b)
  page_outside = written_outside (journal_page_at h next) old (b ++ 165 ∷ []) fits_in fills

  the_page : page (with_page old (4096 * journal_page_at h next) b) (journal_page_at h next) ≡ b ++ 165 ∷ []
  the_page = written_page (journal_page_at h next) old (b ++ 165 ∷ []) fits_in fills

  pub page_spells : SpelledEntry h.format (page (with_page old (4096 * journal_page_at h next) b) (journal_page_at h next)) (record { sequence = next; first_number = version + 1; groups = commands })
  page_spells = subst (λ (f : Format). SpelledEntry f (page (with_page old (4096 * journal_page_at h next) b) (journal_page_at h next)) (record { sequence = next; first_number = version + 1; groups = commands })) (sym today)
      (record { fits = wrote.fits; spelled = ap body the_page ∙ body_front b 165 (page_size version next commands b wrote) ∙ wrote.is })

  pub page_stands : is_standing (page (with_page old (4096 * journal_page_at h next) b)) h next ≡ true
  page_stands = stands_at (page (with_page old (4096 * journal_page_at h next) b) (journal_page_at h next)) next (ap is_open the_page ∙ gate_behind b (page_size version next commands b wrote))
      (entry_read h.format (page (with_page old (4096 * journal_page_at h next) b) (journal_page_at h next)) (record { sequence = next; first_number = version + 1; groups = commands }) page_spells).sequence

module _ (old : List ℕ) (h : Header) (slot : Slot) (epoch : ℕ) (net net' : Net) (version next unchecked : ℕ) (commands : List (List Command)) (b : List ℕ)
    (held : IsStoredAs old h slot epoch net version next unchecked) (tidy : IsTidyAt old h next) (room : unchecked < h.journal_pages) (wrote : IsPage version next commands b) (goes : after net commands ≡ Some net') where
  at : ℕ
  at = journal_page_at held.stored.header next

  place : journal_page_at held.stored.header next ≡ journal_page_at h next
  place = ap (λ (x : Header). journal_page_at x next) held.header_is

  long : length b ≡ 4095
  long = page_size version next commands b wrote

  has_room : length held.stored.unchecked < held.stored.header.journal_pages
  has_room = omega (arith, room, held.unchecked_is, ap (λ (x : Header). x.journal_pages) held.header_is)

  tidy_by : HoldsNetworkTidily old held.stored net version next
  tidy_by = record { stands = held.stands; tidy = subst (λ (x : Header). IsTidyAt old x next) (sym held.header_is) tidy }

  same_pages : held.stored.header.journal_pages ≡ h.journal_pages
  same_pages = ap (λ (x : Header). x.journal_pages) held.header_is

  same_slots : slot_pages held.stored.header ≡ slot_pages h
  same_slots = ap slot_pages held.header_is

  within : 4096 * journal_page_at held.stored.header next + 4096 ≤ length old
  within = page_within held.stored.header next (length old) held.stands.is.header.fits held.stands.is.size_is

  whole : length (b ++ 165 ∷ []) ≡ 4096
  whole = omega (arith, length-append b (165 ∷ []), long)

  -- a closed gate at the place of the next sequence
  pub stays : (c : List ℕ) → IsShut (4096 * journal_page_at h next) (length b + 1) (4096 * journal_page_at h next + length b) old c → HoldsNetworkTidily c held.stored net version next
  stays c shut =
      let there : IsShut (4096 * journal_page_at held.stored.header next) 4096 (4096 * journal_page_at held.stored.header next + 4095) old c =
      subst (λ (k : ℕ). IsShut (4096 * k) 4096 (4096 * k + 4095) old c) (sym place) (subst (λ (n : ℕ). IsShut (4096 * journal_page_at h next) (n + 1) (4096 * journal_page_at h next + n) old c) long shut) in
      closed_page old c held.stored net version next tidy_by has_room there.outside (shut_gate (journal_page_at held.stored.header next) (4096 * journal_page_at held.stored.header next) 4096 old c there)

  -- written whole: the file stands for the network after the commands
  pub stands_more : HoldsNetworkTidily (with_page old (4096 * journal_page_at h next) b) (with_groups held.stored commands) net' (version + length commands) (next + 1)
  stands_more =
      let k : ℕ = journal_page_at held.stored.header next in
      let new : page (with_page old (4096 * journal_page_at held.stored.header next) b) (journal_page_at held.stored.header next) ≡ b ++ 165 ∷ [] = written_page (journal_page_at held.stored.header next) old (b ++ 165 ∷ []) within whole in
      let outside : SameOutside (4096 * journal_page_at held.stored.header next) 4096 old (with_page old (4096 * journal_page_at held.stored.header next) b) = written_outside (journal_page_at held.stored.header next) old (b ++ 165 ∷ []) within whole in
      let spells : SpelledEntry held.stored.header.format (page (with_page old (4096 * journal_page_at held.stored.header next) b) (journal_page_at held.stored.header next)) (record { sequence = next; first_number = version + 1; groups = commands }) =
      subst (λ (f : Format). SpelledEntry f (page (with_page old (4096 * journal_page_at held.stored.header next) b) (journal_page_at held.stored.header next)) (record { sequence = next; first_number = version + 1; groups = commands })) (sym held.format_is)
      (record { fits = wrote.fits; spelled = ap body new ∙ body_front b 165 long ∙ wrote.is }) in
      subst (λ (j : ℕ). HoldsNetworkTidily (with_page old (4096 * j) b) (with_groups held.stored commands) net' (version + length commands) (next + 1)) place
      (open_page old (with_page old (4096 * journal_page_at held.stored.header next) b) held.stored net net' version next commands tidy_by has_room outside (ap is_open new ∙ gate_behind b long) spells wrote.versions goes)

  pub stored_more : IsStoredAs (with_page old (4096 * journal_page_at h next) b) h slot epoch net' (version + length commands) (next + 1) (unchecked + 1)
  stored_more = record {
    stored = with_groups held.stored commands;
    stands = stands_more.stands;
    header_is = held.header_is;
    format_is = held.format_is;
    slot_is = held.slot_is;
    epoch_is = held.epoch_is;
    unchecked_is = omega (arith, held.unchecked_is, length-append held.stored.unchecked (commands ∷ []));
  }

  pub tidy_more : IsTidyAt (with_page old (4096 * journal_page_at h next) b) h (next + 1)
  tidy_more = subst (λ (x : Header). IsTidyAt (with_page old (4096 * journal_page_at h next) b) x (next + 1)) held.header_is stands_more.tidy

  -- what a stop leaves
  pub before_or_after : (c : List ℕ) → IsWholeOrShut old (4096 * journal_page_at h next) b c → IsBeforeOrAfter h.journal_pages (slot_pages h) net version commands c
  before_or_after c way = ⊎_elim
      (λ shut. inl (held.stored, next, stays c shut, same_pages, same_slots, held.format_is))
      (λ whole_way. ⊎_elim
      (λ same. inl (held.stored, next, subst (λ (d : List ℕ). HoldsNetworkTidily d held.stored net version next) (sym same) tidy_by, same_pages, same_slots, held.format_is))
      (λ new. inr (net', goes, (with_groups held.stored commands, next + 1, subst (λ (d : List ℕ). HoldsNetworkTidily d (with_groups held.stored commands) net' (version + length commands) (next + 1)) (sym new) stands_more, same_pages, same_slots, held.format_is)))
      whole_way)
      way

-- a store at rest, before a commit's first call
pub rests : (content : List ℕ) (left : List ℕ → Type 0) (h : Header) (slot : Slot) (epoch : ℕ) (net : Net) (version next unchecked : ℕ) (commands : List (List Command)) → Only content left → IsStoredAs content h slot epoch net version next unchecked
    → IsTidyAt content h next → (c : List ℕ) → left c → IsBeforeOrAfter h.journal_pages (slot_pages h) net version commands c
rests content left h slot epoch net version next unchecked commands only held tidy c was =
    inl (
      held.stored,
      next,
      subst (λ (d : List ℕ). HoldsNetworkTidily d held.stored net version next) (sym (only c was))
          (record { stands = held.stands; tidy = subst (λ (x : Header). IsTidyAt content x next) (sym held.header_is) tidy }),
      ap (λ (x : Header). x.journal_pages) held.header_is,
      ap slot_pages held.header_is,
      held.format_is,
    )
