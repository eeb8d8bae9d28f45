-- What a commit leaves, and why it is refused.
use Rattle.std.proofs.Common.{◌≡◌, ◌⊎◌, inl, inr, ⊎_elim, ℕ, ◌+◌, ◌*◌, ◌^◌, ◌<◌, ◌≤◌, Bool, true, false, cond, List, [], ◌∷◌, ◌++◌, length, take, get_or, Option, Some, None, sym, ◌∙◌, ap, subst, arith, lit≤, length-append, refl}
use Rattle.std.specs.Prelude.{is_none}
use Rattle.std.specs.List.{All, AllByRecursion}
use Rattle.std.proofs.lemmas.List.Elements.{All-weaker, recursion_from_All}
use Rattle.std.proofs.lemmas.List.{take_more, take_all}
use Rattle.disk.specs.Contents.{Only}
use Rattle.disk.specs.Gated.{SameOutside, IsWholeOrShut, with_page}
use Rattle.disk.specs.Moments.{LeavesOnly}
use Rattle.disk.proofs.Steps.{started}
use Rattle.roadnet.specs.declared.commands.Command.{Command}
use Rattle.roadnet.specs.declared.commands.Command.TheVariants.{Set, Close, Reopen, Mark, Unmark, Lay}
use Rattle.roadnet.specs.declared.refusals.Refusal.{Refusal}
use Rattle.roadnet.specs.declared.refusals.Refusal.TheVariants.{NumberRange, TooLarge, Read, OutOfMemory, Write, NoSuchArc, LengthRange, AlreadyClosed, AlreadyOpen, NoSuchNode, AlreadyLandmark, NotALandmark, TooManyLandmarks, VersionsExhausted, NotAStore, WrongFormat, Damaged, Device, JournalFull, Broken, NotEmpty, QueueFull, NoTask, OtherNetwork, NothingPending, NotYet, NoReaderPlace, Closed, HistoryFull, NoThread, NoRoom, GroupSize}
use Rattle.roadnet.specs.Batches.{HasFitNumbers as Fits, MayRefuseGroups}
use Rattle.roadnet.proofs.InTurn.{refused_as_their_commands}
use Rattle.roadnet.specs.Causes.{first_applying}
use Rattle.roadnet.specs.Net.{Net}
use Rattle.roadnet.specs.Numbers.{number_of}
use Rattle.roadnet.specs.Step.{after, causes, changed, refusal_of, first_refusal}
use Rattle.pages.specs.declared.header.Header.{Header}
use Rattle.pages.specs.Layout.{slot_pages, page_count}
use Rattle.pages.specs.declared.content.Format.TheVariants.{Two}
use Rattle.roadnet.specs.Groups.{commands_of, count_of}
use Rattle.pages.specs.Grouping.{has_more, records_of, records_in}
use Rattle.pages.proofs.Grouped.{length-records_in}
use Rattle.pages.specs.Spelling.{body, entry_page, FitsRecord, MayGoOn, IsRecord, AreRecords}
use Rattle.storefile.specs.StoreFile.{page, journal_page_at, HasNoLaterPage, HoldsNetworkTidily, StandsTidyFor}
use Rattle.storefile.specs.Standing.{Standing, HasFitStoreNumbers, IsBeforeOrAfter}
use Rattle.storefile.proofs.PageBytes.{written_outside}
use Rattle.storefile.proofs.Meaning.{IsPage, is_page, page_size, page_within, stored_more, tidy_more, before_or_after, rests}
use Rattle.storefile.proofs.Rests.{stored_as, standing_is}
use Rattle.pagereader.specs.Outcomes.{failures_with}
use Rattle.store.specs.Committing.{HasTidyStanding}

-- ---- the commands

record_fits : (command : Command) → Fits command → FitsRecord Two command
record_fits (Set k w) fits = (fits.0, omega (arith, fits.1))
record_fits (Close k) fits = fits
record_fits (Reopen k) fits = fits
record_fits (Mark x) fits = fits
record_fits (Unmark x) fits = fits
record_fits (Lay t h w) fits = (tt, fits.0, fits.1, omega (arith, fits.2))

pub records_fit : (groups : List (List Command)) → All Fits (commands_of groups) → All (FitsRecord Two) (commands_of groups)
records_fit groups fit = All-weaker Fits (FitsRecord Two) record_fits (commands_of groups) fit

group_records : (group : List Command) (rest : List (List Command)) → AllByRecursion (FitsRecord Two) (group ++ commands_of rest) → (AllByRecursion (FitsRecord Two) (commands_of rest) → AllByRecursion (IsRecord Two) (records_in rest))
    → AllByRecursion (IsRecord Two) (records_of group ++ records_in rest)
group_records [] rest fit others = others fit
group_records (c ∷ cs) rest fit others = (record { command = fit.0; more = may (has_more cs) }, group_records cs rest fit.1 others)
  where
    may : (b : Bool) → MayGoOn Two b
    may true = tt
    may false = tt

all_records : (groups : List (List Command)) → AllByRecursion (FitsRecord Two) (commands_of groups) → AllByRecursion (IsRecord Two) (records_in groups)
all_records [] fit = tt
all_records (g ∷ gs) fit = group_records g gs fit (all_records gs)

some_commands : (groups : List (List Command)) → AllByRecursion (λ group. 1 ≤ length group) groups → 1 ≤ length groups → 1 ≤ length (commands_of groups)
some_commands [] each some = absurd (omega (arith, some))
some_commands (g ∷ gs) each some = omega (arith, each.0, length-append g (commands_of gs))

both_some : (xs ys : List (List Command)) → AllByRecursion (λ group. 1 ≤ length group) xs → AllByRecursion (λ group. 1 ≤ length group) ys → AllByRecursion (λ group. 1 ≤ length group) (xs ++ ys)
both_some [] ys front behind = behind
both_some (x ∷ xs) ys front behind = (front.0, both_some xs ys front.1 behind)

pub some_more : (groups : List (List Command)) (i : ℕ) (d : List Command) → i < length groups → AllByRecursion (λ group. 1 ≤ length group) (take i groups) → 1 ≤ length (get_or groups i d) → AllByRecursion (λ group. 1 ≤ length group) (take (i + 1) groups)
some_more groups i d lt so_far here = subst (AllByRecursion (λ group. 1 ≤ length group)) (sym (take_more groups i d lt)) (both_some (take i groups) (get_or groups i d ∷ []) so_far (here, tt))

pub some_all : (groups : List (List Command)) (i : ℕ) → length groups ≤ i → AllByRecursion (λ group. 1 ≤ length group) (take i groups) → AllByRecursion (λ group. 1 ≤ length group) groups
some_all groups i all so_far = subst (AllByRecursion (λ group. 1 ≤ length group)) (take_all i groups all) so_far

pub are_records : (groups : List (List Command)) → AllByRecursion (λ group. 1 ≤ length group) groups → count_of groups ≤ 253 → 1 ≤ length groups → All Fits (commands_of groups) → AreRecords Two (records_in groups)
are_records groups each few some fit = record {
  some = omega (arith, length-records_in groups, some_commands groups each some);
  few = omega (arith, length-records_in groups, few);
  each = all_records groups (recursion_from_All (FitsRecord Two) (commands_of groups) (records_fit groups fit));
}

-- ---- no command is refused as a disk is

-- the refusals of a table have numbers below that of a disk that failed
abbrev AreBelow : List (Refusal × Bool) → Type 0
AreBelow [] = Unit {0}
AreBelow (row ∷ rows) = (number_of row.0 < 43) × AreBelow rows

below_answer : (table : List (Refusal × Bool)) (refusal : Refusal) → AreBelow table → first_applying table ≡ Some refusal → number_of refusal < 43
below_answer [] refusal below e = absurd cc
below_answer (row ∷ rows) refusal below e =
    elim (row.1) as (λ b. cond b (Some row.0) (first_applying rows) ≡ Some refusal → number_of refusal < 43) [
      | true ↦ λ is. let same : row.0 ≡ refusal = cc in subst (λ (r : Refusal). number_of r < 43) same below.0
      | false ↦ λ is. below_answer rows refusal below.1 is
    ] e

below_refusal : (net : Net) (command : Command) (refusal : Refusal) → refusal_of net command ≡ Some refusal → number_of refusal < 43
below_refusal net (Set k w) refusal e = below_answer (causes net (Set k w)) refusal (lit≤ tt, (lit≤ tt, tt)) e
below_refusal net (Close k) refusal e = below_answer (causes net (Close k)) refusal (lit≤ tt, (lit≤ tt, tt)) e
below_refusal net (Reopen k) refusal e = below_answer (causes net (Reopen k)) refusal (lit≤ tt, (lit≤ tt, tt)) e
below_refusal net (Mark x) refusal e = below_answer (causes net (Mark x)) refusal (lit≤ tt, (lit≤ tt, (lit≤ tt, tt))) e
below_refusal net (Unmark x) refusal e = below_answer (causes net (Unmark x)) refusal (lit≤ tt, (lit≤ tt, tt)) e
below_refusal net (Lay t h w) refusal e = below_answer (causes net (Lay t h w)) refusal (lit≤ tt, (lit≤ tt, (lit≤ tt, tt))) e

here_or_later : (here later : Option Refusal) (refusal : Refusal) → cond (is_none here) later here ≡ Some refusal → (later ≡ Some refusal) ⊎ (here ≡ Some refusal)
here_or_later None later refusal e = inl e
here_or_later (Some found) later refusal e = inr e

below_first : (net : Net) (commands : List Command) (refusal : Refusal) → first_refusal net commands ≡ Some refusal → number_of refusal < 43
below_first net [] refusal e = absurd cc
below_first net (command ∷ commands) refusal e =
    ⊎_elim (λ later. below_first (changed net command) commands refusal later) (λ here. below_refusal net command refusal here) (here_or_later (refusal_of net command) (first_refusal (changed net command) commands) refusal e)

pub not_device : (net : Net) (groups : List (List Command)) (refusal : Refusal) → MayRefuseGroups net groups refusal → refusal ≡ Device → ⊥
not_device net groups refusal may is =
    ⊎_elim (λ told. let below : number_of refusal < 43 = below_first net (commands_of groups) refusal (sym (refused_as_their_commands net groups) ∙ told) in let never : 43 < 43 = subst (λ (r : Refusal). number_of r < 43) is below in absurd (omega (arith, never)))
    (λ memory. let never : OutOfMemory ≡ Device = sym memory.0 ∙ is in absurd cc) may

-- the count of failures stays where another refusal is told
pub not_told : (refusal : Refusal) (n : ℕ) → (refusal ≡ Device → ⊥) → n ≡ failures_with refusal n
not_told NumberRange n other = refl
not_told TooLarge n other = refl
not_told Read n other = refl
not_told OutOfMemory n other = refl
not_told Write n other = refl
not_told NoSuchArc n other = refl
not_told LengthRange n other = refl
not_told AlreadyClosed n other = refl
not_told AlreadyOpen n other = refl
not_told NoSuchNode n other = refl
not_told AlreadyLandmark n other = refl
not_told NotALandmark n other = refl
not_told TooManyLandmarks n other = refl
not_told VersionsExhausted n other = refl
not_told NotAStore n other = refl
not_told WrongFormat n other = refl
not_told (Damaged page) n other = refl
not_told Device n other = absurd (other refl)
not_told JournalFull n other = refl
not_told Broken n other = refl
not_told NotEmpty n other = refl
not_told QueueFull n other = refl
not_told NoTask n other = refl
not_told OtherNetwork n other = refl
not_told NothingPending n other = refl
not_told NotYet n other = refl
not_told NoReaderPlace n other = refl
not_told Closed n other = refl
not_told HistoryFull n other = refl
not_told NoThread n other = refl
not_told NoRoom n other = refl
not_told GroupSize n other = refl

-- ---- what a stop leaves

-- before the first call of the disk
pub before : (content : List ℕ) (left : List ℕ → Type 0) (x : Standing) (commands : List (List Command)) → Only content left → HasTidyStanding content x → (c : List ℕ) → left c → IsBeforeOrAfter x.header.journal_pages (slot_pages x.header) x.network x.version commands c
before content left x commands only stands =
    rests content left x.header x.slot x.epoch x.network x.version x.next x.unchecked commands only (stored_as content x stands.0) stands.1

-- where no call of the disk is made
pub no_call : {D : Type 0} (content : D → List ℕ) (left : D → List ℕ → Type 0) (moment : D → ℕ) (left_since : D → ℕ → List ℕ → Type 0) (disk : D) (x : Standing) (commands : List (List Command)) → Only (content disk) (left disk)
    → ((c : List ℕ) → left_since disk (moment disk) c → left disk c) → HasTidyStanding (content disk) x → LeavesOnly moment left_since disk disk (IsBeforeOrAfter x.header.journal_pages (slot_pages x.header) x.network x.version commands)
no_call content left moment left_since disk x commands only now stands =
    started moment left_since disk (IsBeforeOrAfter x.header.journal_pages (slot_pages x.header) x.network x.version commands) (λ c since. before (content disk) (left disk) x commands only stands c (now c since))

-- the body of the page that is written
abbrev pub page_body : Standing → List (List Command) → List ℕ
page_body x commands = body (entry_page (record { sequence = x.next; first_number = x.version + 1; groups = commands }))

-- what stands once it is written
abbrev pub more : Standing → Net → List (List Command) → Standing
more x net commands = record { header = x.header; slot = x.slot; epoch = x.epoch; network = net; version = x.version + length commands; next = x.next + 1; unchecked = x.unchecked + 1 }

-- these commands may be written behind what stands, and lead to this network
pub record Follow (x : Standing) (net : Net) (commands : List (List Command)) : Type 0 where
  pub today : x.header.format ≡ Two
  pub numbers : HasFitStoreNumbers x.header x.epoch x.version x.next x.unchecked
  pub room : x.unchecked < x.header.journal_pages
  pub versions : x.version + length commands ≤ 2 ^ 48
  pub some : 1 ≤ length commands
  pub each : AllByRecursion (λ group. 1 ≤ length group) commands
  pub few : count_of commands ≤ 253
  pub fit : All Fits (commands_of commands)
  pub goes : after x.network commands ≡ Some net

module _ (old : List ℕ) (x : Standing) (net : Net) (commands : List (List Command)) (follow : Follow x net commands) where
  wrote : IsPage x.version x.next commands (page_body x commands)
  wrote = is_page x.version x.next commands follow.versions follow.numbers.next_to follow.each (are_records commands follow.each follow.few follow.some follow.fit)

  pub numbers_more : HasFitStoreNumbers x.header x.epoch (x.version + length commands) (x.next + 1) (x.unchecked + 1)
  numbers_more = record {
    header = follow.numbers.header;
    version_to = follow.versions;
    next_to = omega (arith, follow.numbers.next_to, follow.some);
    epoch_to = omega (arith, follow.numbers.epoch_to);
    unchecked_to = omega (arith, follow.room);
    unchecked_from = omega (arith, follow.numbers.unchecked_from);
  }

  -- the size stays, whatever stands
  pub size_kept : (new : List ℕ) → length old ≡ 4096 * page_count x.header → new ≡ with_page old (4096 * journal_page_at x.header x.next) (page_body x commands) → length new ≡ 4096 * page_count x.header
  size_kept new size is =
      let whole : length (page_body x commands ++ 165 ∷ []) ≡ 4096 = omega (arith, length-append (page_body x commands) (165 ∷ []), page_size x.version x.next commands (page_body x commands) wrote) in
      let outside : SameOutside (4096 * journal_page_at x.header x.next) 4096 old (with_page old (4096 * journal_page_at x.header x.next) (page_body x commands)) =
      written_outside (journal_page_at x.header x.next) old (page_body x commands ++ 165 ∷ []) (page_within x.header x.next (length old) follow.numbers.header size) whole in
      ap length is ∙ outside.same_length ∙ size

  module _ (stands : HasTidyStanding old x) where
    -- at each moment while the page is written
    pub meanwhile : (c : List ℕ) → IsWholeOrShut old (4096 * journal_page_at x.header x.next) (page_body x commands) c → IsBeforeOrAfter x.header.journal_pages (slot_pages x.header) x.network x.version commands c
    meanwhile = before_or_after old x.header x.slot x.epoch x.network net x.version x.next x.unchecked commands (page_body x commands) (stored_as old x stands.0) stands.1 follow.room wrote follow.goes

    pub stands_more_tidily : (new : List ℕ) → new ≡ with_page old (4096 * journal_page_at x.header x.next) (page_body x commands) → HasTidyStanding new (more x net commands)
    stands_more_tidily new is = subst (λ (d : List ℕ). HasTidyStanding d (more x net commands)) (sym is) (
      standing_is (with_page old (4096 * journal_page_at x.header x.next) (page_body x commands)) x.header x.slot x.epoch net (x.version + length commands) (x.next + 1) (x.unchecked + 1)
          (stored_more old x.header x.slot x.epoch x.network net x.version x.next x.unchecked commands (page_body x commands) (stored_as old x stands.0) stands.1 follow.room wrote follow.goes),
      tidy_more old x.header x.slot x.epoch x.network net x.version x.next x.unchecked commands (page_body x commands) (stored_as old x stands.0) stands.1 follow.room wrote follow.goes,
    )

-- what a stop leaves of a content that stands and is tidy
pub left_stands : (content : List ℕ) (left : List ℕ → Type 0) (x : Standing) → Only content left → HasTidyStanding content x → (c : List ℕ) → left c → StandsTidyFor x.header.journal_pages (slot_pages x.header) c x.network x.version
left_stands content left x only stands c was =
    let held = stored_as content x stands.0 in (
      held.stored,
      x.next,
      subst (λ (d : List ℕ). HoldsNetworkTidily d held.stored x.network x.version x.next) (sym (only c was))
          (record { stands = held.stands; tidy = subst (λ (h : Header). HasNoLaterPage (page content) h x.next) (sym held.header_is) stands.1 }),
      ap (λ (h : Header). h.journal_pages) held.header_is,
      ap slot_pages held.header_is,
      held.format_is,
    )
