-- A journal page that changes.
use Rattle.std.proofs.Common.{◌≡◌, ◌≢◌, ℕ, suc, ◌+◌, ◌-◌, ◌*◌, ◌/◌, ◌%◌, ◌^◌, ◌≤◌, ◌<◌, true, false, List, [], ◌∷◌, ◌++◌, length, take, drop, refl, sym, subst, arith, inl, inr}
use Rattle.std.specs.Prelude.{◌&&◌, ◌==◌, map}
use Rattle.std.specs.List.{flat_map}
use Rattle.std.proofs.lemmas.List.{length-append}
use Rattle.std.proofs.Math.Nat.{div-add-mod, mul-le-mul_left}
use Rattle.std.proofs.lemmas.Bool.{cases_lt}
use Rattle.roadnet.specs.declared.commands.Command.{Command}
use Rattle.pages.specs.declared.header.Header.{Header}
use Rattle.pages.specs.declared.content.Slot.{Slot}
use Rattle.pages.specs.declared.content.Slot.TheVariants.{A, B}
use Rattle.pages.specs.Spelling.{SpelledHeader, SpelledArcs, SpelledWords, SpelledHead, SpelledEntry, ends_of, word_of}
use Rattle.pages.specs.Layout.{places_in_use, slot_pages, other, head_page_at, journal_start}
use Rattle.storefile.proofs.Names.{arc_page_at, word_page_at, end_page_at}
use Rattle.storefile.specs.StoreFile.{part, is_open, journal_page_at, head_of, Stored, Stores, first_field, is_standing, HoldsJournal, HasNoLaterPage, groups_of, next_sequence}
use Rattle.storefile.specs.Laws.{SameBut}

-- two numbers less than n apart have other remainders
pub apart : (a b n : ℕ) → a < b → b < a + n → a % n ≡ b % n → ⊥
apart a b n lt near e =
    let da = div-add-mod a n in
    let db = div-add-mod b n in
    elim (cases_lt (a / n) (b / n)) [
      | inl up ↦
          let more : n * suc (a / n) ≤ n * (b / n) = mul-le-mul_left n up in
          let one : n * suc (a / n) ≡ n * (a / n) + n = omega arith in
          absurd (omega (arith, da, db, e, more, one))
      | inr le ↦ let less : n * (b / n) ≤ n * (a / n) = mul-le-mul_left n le in absurd (omega (arith, da, db, e, less))
    ]

pub other_place : (h : Header) (q r : ℕ) → q < r → r < q + h.journal_pages → journal_page_at h q ≢ journal_page_at h r
other_place h q r lt near e = apart q r h.journal_pages lt near (let f : q % h.journal_pages ≡ r % h.journal_pages = omega (arith, e) in f)

pub journal_same : (pages pages' : ℕ → List ℕ) (h : Header) (q v next : ℕ) (css : List (List (List Command))) → SameBut (journal_page_at h next) pages pages' → q + length css ≤ next → next < q + h.journal_pages
    → HoldsJournal pages h q v css → HoldsJournal pages' h q v css
journal_same pages pages' h q v next [] same le near holds = tt
journal_same pages pages' h q v next (cs ∷ css) same le near holds =
    let e : pages' (journal_page_at h q) ≡ pages (journal_page_at h q) = same (journal_page_at h q) (other_place h q next (omega arith) near) in (
      subst (λ (p : List ℕ). (is_open p && (first_field p == q)) ≡ true) (sym e) holds.0,
      subst (λ (p : List ℕ). SpelledEntry h.format p (record { sequence = q; first_number = v + 1; groups = cs })) (sym e) holds.1,
      journal_same pages pages' h (q + 1) (v + length cs) next css same (omega arith) (omega arith) holds.2,
    )

pub head_below : (h : Header) (slot : Slot) → head_page_at h slot + slot_pages h < journal_start h
head_below h A = omega arith
head_below h B = omega arith

-- a file whose other pages are the same stores these journal pages
stores_with : (size : ℕ) (pages pages' : ℕ → List ℕ) (s : Stored) (css : List (List (List Command))) → Stores size pages s → SameBut (journal_page_at s.header (next_sequence s)) pages pages'
    → HoldsJournal pages' s.header s.sequence s.version css → length css ≤ s.header.journal_pages → (length css < s.header.journal_pages → is_standing pages' s.header (s.sequence + length css) ≡ false)
    → s.version + length (flat_map (λ cs. cs) css) ≤ 2 ^ 48 → Stores size pages' (record s { unchecked = css })
stores_with size pages pages' s css is same journal few longest versions =
    let h = s.header in
    let below : (k : ℕ) → k < journal_start s.header → pages' k ≡ pages k = λ k lt. same k (λ e. omega (arith, e)) in
    let zero = below 0 (omega arith) in
    let here = below (head_page_at s.header s.slot) (omega (arith, head_below s.header s.slot)) in
    let there = below (head_page_at s.header (other s.slot)) (omega (arith, head_below s.header (other s.slot))) in
    record {
      header = subst (λ (p : List ℕ). SpelledHeader p s.header) (sym zero) is.header;
      opened = subst (λ (p : List ℕ). is_open p ≡ true) (sym zero) is.opened;
      size_is = is.size_is;
      arcs = record {
        nodes_are = is.arcs.nodes_are;
        room_is = is.arcs.room_is;
        count_from = is.arcs.count_from;
        each = λ i lt. subst (λ (p : List ℕ). SpelledArcs s.header.nodes (places_in_use 511 i s.header.arcs) p (map ends_of (part 511 i (take s.header.arcs s.network.arcs)))) (sym (below (arc_page_at i) (omega arith))) (is.arcs.each i lt);
      };
      current = record {
        opened = subst (λ (p : List ℕ). is_open p ≡ true) (sym here) is.current.opened;
        above = λ o. rw (here, there) (is.current.above (subst (λ (p : List ℕ). is_open p ≡ true) there o));
      };
      held = record {
        head_is = subst (λ (p : List ℕ). SpelledHead s.header p (head_of s)) (sym here) is.held.head_is;
        words = λ i lt. subst (λ (p : List ℕ). SpelledWords (places_in_use 1023 i (length s.network.arcs)) p (map word_of (part 1023 i s.network.arcs))) (sym (below (word_page_at s.header s.slot i) (omega (arith, lt, head_below s.header s.slot)))) (is.held.words i lt);
        ends = λ i lt. subst (λ (p : List ℕ). SpelledArcs s.header.nodes (places_in_use 511 i (length s.network.arcs - s.header.arcs)) p (map ends_of (part 511 i (drop s.header.arcs s.network.arcs)))) (sym (below (end_page_at s.header s.slot i) (omega (arith, lt, head_below s.header s.slot)))) (is.held.ends i lt);
      };
      journal = journal;
      few = few;
      longest = longest;
      versions_to = versions;
    }

pub stores_same : (size : ℕ) (pages pages' : ℕ → List ℕ) (s : Stored) → Stores size pages s → length s.unchecked < s.header.journal_pages
    → SameBut (journal_page_at s.header (next_sequence s)) pages pages' → is_standing pages' s.header (next_sequence s) ≡ false → Stores size pages' s
stores_same size pages pages' s is room same closed =
    stores_with size pages pages' s s.unchecked is same (journal_same pages pages' s.header s.sequence s.version (next_sequence s) s.unchecked same (omega arith) (omega arith) is.journal) is.few (λ lt. closed) is.versions_to

-- one page more
pub journal_more : (pages : ℕ → List ℕ) (h : Header) (q v r n : ℕ) (css : List (List (List Command))) (cs : List (List Command)) → HoldsJournal pages h q v css → q + length css ≡ r → v + length (flat_map (λ xs. xs) css) + 1 ≡ n
    → is_standing pages h r ≡ true → SpelledEntry h.format (pages (journal_page_at h r)) (record { sequence = r; first_number = n; groups = cs }) → HoldsJournal pages h q v (css ++ cs ∷ [])
journal_more pages h q v r n [] cs holds e f stands spells =
    let d : r ≡ q = omega arith in
    let g : n ≡ v + 1 = omega arith in (
      subst (λ (k : ℕ). is_standing pages h k ≡ true) d stands,
      subst (λ (k : ℕ). SpelledEntry h.format (pages (journal_page_at h q)) (record { sequence = q; first_number = k; groups = cs })) g
          (subst (λ (k : ℕ). SpelledEntry h.format (pages (journal_page_at h k)) (record { sequence = k; first_number = n; groups = cs })) d spells),
      tt,
    )
journal_more pages h q v r n (ds ∷ css) cs holds e f stands spells =
    (holds.0, holds.1, journal_more pages h (q + 1) (v + length ds) r n css cs holds.2 (omega arith) (omega (arith, f, length-append ds (flat_map (λ xs. xs) css))) stands spells)

flat-more : (css : List (List (List Command))) (cs : List (List Command)) → length (flat_map (λ xs. xs) (css ++ cs ∷ [])) ≡ length (flat_map (λ xs. xs) css) + length cs
flat-more [] cs = omega (arith, length-append cs [])
flat-more (ds ∷ css) cs = omega (arith, length-append ds (flat_map (λ xs. xs) (css ++ cs ∷ [])), length-append ds (flat_map (λ xs. xs) css), flat-more css cs)

pub stores_more : (size : ℕ) (pages pages' : ℕ → List ℕ) (s : Stored) (commands : List (List Command)) → Stores size pages s → length s.unchecked < s.header.journal_pages
    → SameBut (journal_page_at s.header (next_sequence s)) pages pages' → is_standing pages' s.header (next_sequence s) ≡ true
    → SpelledEntry s.header.format (pages' (journal_page_at s.header (next_sequence s))) (record { sequence = next_sequence s; first_number = s.version + length (groups_of s) + 1; groups = commands })
    → s.version + length (groups_of s) + length commands ≤ 2 ^ 48 → HasNoLaterPage pages s.header (next_sequence s)
    → Stores size pages' (record s { unchecked = s.unchecked ++ commands ∷ [] })
stores_more size pages pages' s commands is room same stands spells fits later =
    let more : length (s.unchecked ++ commands ∷ []) ≡ length s.unchecked + 1 = length-append s.unchecked (commands ∷ []) in
    let before = journal_same pages pages' s.header s.sequence s.version (next_sequence s) s.unchecked same (omega arith) (omega arith) is.journal in
    stores_with size pages pages' s (s.unchecked ++ commands ∷ []) is same
    (journal_more pages' s.header s.sequence s.version (next_sequence s) (s.version + length (groups_of s) + 1) s.unchecked commands before refl refl stands spells)
    (omega (arith, more, room))
    (λ lt.
    let next : next_sequence s + 1 ≡ s.sequence + length (s.unchecked ++ commands ∷ []) = omega (arith, more) in
    let e : pages' (journal_page_at s.header (next_sequence s + 1)) ≡ pages (journal_page_at s.header (next_sequence s + 1)) =
    same (journal_page_at s.header (next_sequence s + 1)) (λ d. other_place s.header (next_sequence s) (next_sequence s + 1) (omega arith) (omega (arith, more, lt)) (sym d)) in
    subst (λ (k : ℕ). is_standing pages' s.header k ≡ false) next
    (subst (λ (p : List ℕ). (is_open p && (first_field p == next_sequence s + 1)) ≡ false) (sym e) (later (next_sequence s + 1) (omega arith))))
    (omega (arith, flat-more s.unchecked commands, fits))
