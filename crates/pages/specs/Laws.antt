-- What the spelling and the layout are for.
use Rattle.std.specs.Prelude.{◌≡◌, ℕ, ◌+◌, ◌*◌, ◌^◌, ◌<◌, ◌≤◌, true, List, length}
use Rattle.std.specs.List.{AllByRecursion}
use Rattle.pages.specs.declared.content.Format.{Format}
use Rattle.pages.specs.declared.content.Format.TheVariants.{One, Two}
use Rattle.pages.specs.declared.content.Record.{Record}
use Rattle.roadnet.specs.declared.commands.Command.{Command}
use Rattle.pages.specs.Grouping.{records_in, grouped, are_whole}
use Rattle.pages.specs.declared.content.Ends.{Ends}
use Rattle.pages.specs.declared.content.Word.{Word}
use Rattle.pages.specs.declared.header.Header.{Header}
use Rattle.pages.specs.Contents.{Head, Entry}
use Rattle.pages.specs.Spelling.{body, IsHeader, SpelledHeader, SpelledArcs, SpelledWords, SpelledHead, SpelledRecord, SpelledEntry}
use Rattle.pages.specs.Layout.{Part, IsPart, page_number, page_count, pages_for, end_pages, word_pages}

-- Pages that spell one content have equal bytes, the gate apart: a content has one spelling.
pub record OneSpelling : Type 0 where
  pub header : (p q : List ℕ) (h : Header) → SpelledHeader p h → SpelledHeader q h → body p ≡ body q
  pub arcs : (nodes count : ℕ) (p q : List ℕ) (arcs : List Ends) → SpelledArcs nodes count p arcs → SpelledArcs nodes count q arcs → p ≡ q
  pub words : (count : ℕ) (p q : List ℕ) (words : List Word) → SpelledWords count p words → SpelledWords count q words → p ≡ q
  pub head : (h : Header) (p q : List ℕ) (s : Head) → SpelledHead h p s → SpelledHead h q s → body p ≡ body q
  pub entry : (f : Format) (p q : List ℕ) (e : Entry) → SpelledEntry f p e → SpelledEntry f q e → body p ≡ body q
  pub one : (f : Format) (p q : List ℕ) (r : Record) → SpelledRecord f p r → SpelledRecord f q r → p ≡ q

-- A page spells one content at most.
pub record OneContent : Type 0 where
  pub header : (page : List ℕ) (h k : Header) → SpelledHeader page h → SpelledHeader page k → h ≡ k
  pub arcs : (nodes count : ℕ) (page : List ℕ) (xs ys : List Ends) → nodes < 2 ^ 32 → SpelledArcs nodes count page xs → SpelledArcs nodes count page ys → xs ≡ ys
  pub words : (count : ℕ) (page : List ℕ) (xs ys : List Word) → SpelledWords count page xs → SpelledWords count page ys → xs ≡ ys
  pub head : (h : Header) (page : List ℕ) (s t : Head) → IsHeader h → SpelledHead h page s → SpelledHead h page t → s ≡ t
  pub entry : (f : Format) (page : List ℕ) (d e : Entry) → SpelledEntry f page d → SpelledEntry f page e → d ≡ e
  pub one : (f : Format) (bytes : List ℕ) (q r : Record) → SpelledRecord f bytes q → SpelledRecord f bytes r → q ≡ r

-- Groups, none of them empty, are told by their records, and records of which the last ends its group are told by their groups.
pub record GroupsAreRecords : Type 0 where
  pub groups : (groups : List (List Command)) → AllByRecursion (λ group. 1 ≤ length group) groups → grouped (records_in groups) ≡ groups
  pub whole : (groups : List (List Command)) → are_whole (records_in groups) ≡ true
  pub records : (records : List Record) → are_whole records ≡ true → records_in (grouped records) ≡ records

-- What format 1 spells of a journal, format 2 spells: a file of format 2 that was made before there were groups has groups of one.
abbrev pub OldEntriesStay : Type 0
OldEntriesStay = (page : List ℕ) (e : Entry) → SpelledEntry One page e → SpelledEntry Two page e × AllByRecursion (λ group. length group ≡ 1) e.groups

-- The parts of a file are disjoint and fill it: each part stands within the file, no two parts stand on one page, and each page of the
-- file is a part's.
pub record PartsFill : Type 0 where
  pub within : (h : Header) (part : Part) → IsPart h part → page_number h part < page_count h
  pub disjoint : (h : Header) (part part' : Part) → IsPart h part → IsPart h part' → page_number h part ≡ page_number h part' → part ≡ part'
  pub fills : (h : Header) (k : ℕ) → k < page_count h → (part : Part) × IsPart h part × (page_number h part ≡ k)

-- The arc pages hold all arcs, and one page less would not; the word pages and the end pages likewise.
pub record PagesHold : Type 0 where
  pub arcs : (items : ℕ) → (items ≤ 511 * pages_for 511 items) × (511 * pages_for 511 items < items + 511)
  pub words : (items : ℕ) → (items ≤ 1023 * pages_for 1023 items) × (1023 * pages_for 1023 items < items + 1023)

-- In format 1 there is no end page, and the word pages are those of the arcs.
abbrev pub FormatOneHasNoEnds : Type 0
FormatOneHasNoEnds = (h : Header) → IsHeader h → h.format ≡ One → (end_pages h ≡ 0) × (word_pages h ≡ pages_for 1023 h.arcs)
