-- What was read of the arc pages, and of the word pages of a slot, up to one of them.
use Rattle.std.proofs.Common.{◌≡◌, inl, inr, ⊎_elim, ℕ, ◌+◌, ◌*◌, ◌-◌, ◌^◌, ◌<◌, ◌≤◌, List, [], length, take, drop, Option, Some, Ok, sym, ap, subst, ◌∙◌, arith}
use Rattle.std.specs.Prelude.{map, min}
use Rattle.std.proofs.lemmas.List.{take_all, length-drop}
use Rattle.roadnet.specs.declared.arcs.RoadArc.{RoadArc}
use Rattle.roadnet.specs.declared.refusals.Refusal.{Refusal}
use Rattle.pages.specs.declared.header.Header.{Header}
use Rattle.pages.specs.declared.content.Ends.{Ends}
use Rattle.pages.specs.declared.content.Word.{Word}
use Rattle.pages.specs.declared.content.Slot.{Slot}
use Rattle.pages.specs.Spelling.{ends_of, word_of, Decodes, SpelledArcs, SpelledWords}
use Rattle.pages.specs.Layout.{Arcs, Words, EndsOf, page_number, places_in_use, arc_pages, word_pages, end_pages}
use Rattle.pages.proofs.Records.{IsBytes}
use Rattle.storefile.specs.StoreFile.{page}
use Rattle.storefile.specs.Judging.{spelled_at, all_spelled, arcs_in, words_in, ends_from, words_from, laid_from}
use Rattle.storefile.proofs.Decoded.{decoded_arcs, decoded_words}
use Rattle.pagereader.specs.Outcomes.{MayLack, MayRefuse}
use Rattle.checkpoint.specs.Loading.{EndsArePut, WordsArePut, ends_told, words_of_page, laid_of_page}
use Rattle.checkpoint.proofs.Joined.{joined, starts, goes_on, stops, ends}

-- ---- one page

pub arcs_told : (nodes count places k : ℕ) (page : List ℕ) (found : Option (List Ends)) → nodes < 2 ^ 32 → count ≡ places → Decodes (SpelledArcs nodes count page) found
    → spelled_at k (arcs_in nodes places page) ≡ spelled_at k found
arcs_told nodes count places k page found lt same tells =
    ap (λ (n : ℕ). spelled_at k (arcs_in nodes n page)) (sym same) ∙ ap (spelled_at k) (decoded_arcs nodes count page found lt tells)

pub words_told : (count places k : ℕ) (page : List ℕ) (found : Option (List Word)) → IsBytes page → count ≡ places → Decodes (SpelledWords count page) found
    → spelled_at k (words_in places page) ≡ spelled_at k found
words_told count places k page found bytes same tells =
    ap (λ (n : ℕ). spelled_at k (words_in n page)) (sym same) ∙ ap (spelled_at k) (decoded_words count page found bytes tells)

pub words_count : (count : ℕ) (page : List ℕ) (found : Option (List Word)) (words : List Word) → Decodes (SpelledWords count page) found → found ≡ Some words → length words ≡ count
words_count count page found words tells is =
    let spelled : SpelledWords count page words = subst (λ (f : Option (List Word)). Decodes (SpelledWords count page) f) is tells in
    spelled.count_is

-- ---- the arc pages

abbrev ends_at : List ℕ → Header → ℕ → Option (List Ends)
ends_at file h i = arcs_in h.nodes (places_in_use 511 i h.arcs) (page file (page_number h (Arcs i)))

-- these arcs are those of the pages before the i-th
pub record EndsSoFar (file : List ℕ) (h : Header) (arcs : List RoadArc) (i : ℕ) : Type 0 where
  pub is : ends_from (page file) h ≡ joined (map ends_of arcs) (all_spelled (ends_at file h) (λ j. page_number h (Arcs j)) i (arc_pages h - i))

pub ends_start : (file : List ℕ) (h : Header) → EndsSoFar file h [] 0
ends_start file h = record { is = starts (ends_at file h) (λ j. page_number h (Arcs j)) (arc_pages h) }

pub ends_more : (file : List ℕ) (h : Header) (old new : List RoadArc) (i : ℕ) (bytes : List ℕ) → EndsSoFar file h old i → i < arc_pages h → bytes ≡ page file (page_number h (Arcs i)) → EndsArePut (ends_told h i bytes) old new
    → EndsSoFar file h new (i + 1)
ends_more file h old new i bytes so_far lt at put = record {
  is = goes_on (ends_at file h) (λ j. page_number h (Arcs j)) (arc_pages h) (ends_from (page file) h) (map ends_of old) put.ends (map ends_of new) i lt so_far.is
      (ap (ends_told h i) (sym at) ∙ put.said_is) put.put;
}

pub ends_stop : (file : List ℕ) (h : Header) (arcs : List RoadArc) (i : ℕ) (bytes : List ℕ) (refusal : Refusal) → EndsSoFar file h arcs i → i < arc_pages h → bytes ≡ page file (page_number h (Arcs i))
    → MayLack (ends_told h i bytes) refusal → MayRefuse (ends_from (page file) h) refusal
ends_stop file h arcs i bytes refusal so_far lt at lacks =
    ⊎_elim (λ memory. inl memory)
    (λ told. inr (inr (stops (ends_at file h) (λ j. page_number h (Arcs j)) (arc_pages h) (ends_from (page file) h) (map ends_of arcs) i refusal lt so_far.is (ap (ends_told h i) (sym at) ∙ told))))
    lacks

pub ends_done : (file : List ℕ) (h : Header) (arcs : List RoadArc) (i : ℕ) → arc_pages h ≤ i → EndsSoFar file h arcs i → ends_from (page file) h ≡ Ok (map ends_of arcs)
ends_done file h arcs i past so_far = ends (ends_at file h) (λ j. page_number h (Arcs j)) (arc_pages h) (ends_from (page file) h) (map ends_of arcs) i past so_far.is

-- ---- the word pages of a slot

abbrev words_at : List ℕ → Header → Slot → ℕ → ℕ → Option (List Word)
words_at file h slot m i = words_in (places_in_use 1023 i m) (page file (page_number h (Words slot i)))

-- the words of these arcs are those of the pages before the i-th
pub record WordsSoFar (file : List ℕ) (h : Header) (slot : Slot) (m : ℕ) (arcs : List RoadArc) (i : ℕ) : Type 0 where
  pub is : words_from (page file) h slot m ≡ joined (map word_of (take (min (1023 * i) m) arcs)) (all_spelled (words_at file h slot m) (λ j. page_number h (Words slot j)) i (word_pages h - i))

pub words_start : (file : List ℕ) (h : Header) (slot : Slot) (m : ℕ) (arcs : List RoadArc) → WordsSoFar file h slot m arcs 0
words_start file h slot m arcs =
    let none : min (1023 * 0) m ≡ 0 = omega arith in
    record {
      is = starts (words_at file h slot m) (λ j. page_number h (Words slot j)) (word_pages h)
          ∙ ap (λ (n : ℕ). joined (map word_of (take n arcs)) (all_spelled (words_at file h slot m) (λ j. page_number h (Words slot j)) 0 (word_pages h - 0))) (sym none);
    }

pub words_more : (file : List ℕ) (h : Header) (slot : Slot) (m : ℕ) (old new : List RoadArc) (i : ℕ) (bytes : List ℕ) → WordsSoFar file h slot m old i → i < word_pages h → bytes ≡ page file (page_number h (Words slot i))
    → WordsArePut (words_of_page h slot m i bytes) (take (min (1023 * i) m) old) (take (min (1023 * (i + 1)) m) new) → WordsSoFar file h slot m new (i + 1)
words_more file h slot m old new i bytes so_far lt at put = record {
  is = goes_on (words_at file h slot m) (λ j. page_number h (Words slot j)) (word_pages h) (words_from (page file) h slot m) (map word_of (take (min (1023 * i) m) old)) put.words (map word_of (take (min (1023 * (i + 1)) m) new)) i lt so_far.is
      (ap (words_of_page h slot m i) (sym at) ∙ put.said_is) put.put;
}

pub words_stop : (file : List ℕ) (h : Header) (slot : Slot) (m : ℕ) (arcs : List RoadArc) (i : ℕ) (bytes : List ℕ) (refusal : Refusal) → WordsSoFar file h slot m arcs i → i < word_pages h → bytes ≡ page file (page_number h (Words slot i))
    → MayLack (words_of_page h slot m i bytes) refusal → MayRefuse (words_from (page file) h slot m) refusal
words_stop file h slot m arcs i bytes refusal so_far lt at lacks =
    ⊎_elim (λ memory. inl memory)
    (λ told. inr (inr (stops (words_at file h slot m) (λ j. page_number h (Words slot j)) (word_pages h) (words_from (page file) h slot m) (map word_of (take (min (1023 * i) m) arcs)) i refusal lt so_far.is (ap (words_of_page h slot m i) (sym at) ∙ told))))
    lacks

-- the same, where the number of arcs is told by an equation
pub words_stop_as : (file : List ℕ) (h : Header) (slot : Slot) (m n : ℕ) (arcs : List RoadArc) (i : ℕ) (bytes : List ℕ) (refusal : Refusal) → n ≡ m → WordsSoFar file h slot m arcs i → i < word_pages h → bytes ≡ page file (page_number h (Words slot i))
    → MayLack (words_of_page h slot n i bytes) refusal → MayRefuse (words_from (page file) h slot m) refusal
words_stop_as file h slot m n arcs i bytes refusal e so_far lt at lacks = words_stop file h slot m arcs i bytes refusal so_far lt at (subst (λ (k : ℕ). MayLack (words_of_page h slot k i bytes) refusal) e lacks)

pub words_done : (file : List ℕ) (h : Header) (slot : Slot) (m : ℕ) (arcs : List RoadArc) (i : ℕ) → word_pages h ≤ i → length arcs ≡ m → m ≤ h.room → WordsSoFar file h slot m arcs i → words_from (page file) h slot m ≡ Ok (map word_of arcs)
words_done file h slot m arcs i past count fits so_far =
    let whole : length arcs ≤ min (1023 * i) m = omega arith in
    ends (words_at file h slot m) (λ j. page_number h (Words slot j)) (word_pages h) (words_from (page file) h slot m) (map word_of (take (min (1023 * i) m) arcs)) i past so_far.is
    ∙ ap (λ xs. Ok (map word_of xs)) (take_all (min (1023 * i) m) arcs whole)

-- ---- the end pages of a slot

abbrev laid_at : List ℕ → Header → Slot → ℕ → ℕ → Option (List Ends)
laid_at file h slot m i = arcs_in h.nodes (places_in_use 511 i (m - h.arcs)) (page file (page_number h (EndsOf slot i)))

-- the ends of these arcs, those behind the first ones, are those of the pages before the i-th
pub record LaidSoFar (file : List ℕ) (h : Header) (slot : Slot) (m : ℕ) (arcs : List RoadArc) (i : ℕ) : Type 0 where
  pub is : laid_from (page file) h slot m ≡ joined (map ends_of (take (min (511 * i) (m - h.arcs)) (drop h.arcs arcs))) (all_spelled (laid_at file h slot m) (λ j. page_number h (EndsOf slot j)) i (end_pages h - i))

pub laid_start : (file : List ℕ) (h : Header) (slot : Slot) (m : ℕ) (arcs : List RoadArc) → LaidSoFar file h slot m arcs 0
laid_start file h slot m arcs =
    let none : min (511 * 0) (m - h.arcs) ≡ 0 = omega arith in
    record {
      is = starts (laid_at file h slot m) (λ j. page_number h (EndsOf slot j)) (end_pages h)
          ∙ ap (λ (n : ℕ). joined (map ends_of (take n (drop h.arcs arcs))) (all_spelled (laid_at file h slot m) (λ j. page_number h (EndsOf slot j)) 0 (end_pages h - 0))) (sym none);
    }

pub laid_more : (file : List ℕ) (h : Header) (slot : Slot) (m : ℕ) (old new : List RoadArc) (i : ℕ) (bytes : List ℕ) → LaidSoFar file h slot m old i → i < end_pages h → bytes ≡ page file (page_number h (EndsOf slot i))
    → EndsArePut (laid_of_page h slot m i bytes) (take (min (511 * i) (m - h.arcs)) (drop h.arcs old)) (take (min (511 * (i + 1)) (m - h.arcs)) (drop h.arcs new)) → LaidSoFar file h slot m new (i + 1)
laid_more file h slot m old new i bytes so_far lt at put = record {
  is = goes_on (laid_at file h slot m) (λ j. page_number h (EndsOf slot j)) (end_pages h) (laid_from (page file) h slot m) (map ends_of (take (min (511 * i) (m - h.arcs)) (drop h.arcs old))) put.ends (map ends_of (take (min (511 * (i + 1)) (m - h.arcs)) (drop h.arcs new))) i lt so_far.is
      (ap (laid_of_page h slot m i) (sym at) ∙ put.said_is) put.put;
}

pub laid_stop : (file : List ℕ) (h : Header) (slot : Slot) (m : ℕ) (arcs : List RoadArc) (i : ℕ) (bytes : List ℕ) (refusal : Refusal) → LaidSoFar file h slot m arcs i → i < end_pages h → bytes ≡ page file (page_number h (EndsOf slot i))
    → MayLack (laid_of_page h slot m i bytes) refusal → MayRefuse (laid_from (page file) h slot m) refusal
laid_stop file h slot m arcs i bytes refusal so_far lt at lacks =
    ⊎_elim (λ memory. inl memory)
    (λ told. inr (inr (stops (laid_at file h slot m) (λ j. page_number h (EndsOf slot j)) (end_pages h) (laid_from (page file) h slot m) (map ends_of (take (min (511 * i) (m - h.arcs)) (drop h.arcs arcs))) i refusal lt so_far.is (ap (laid_of_page h slot m i) (sym at) ∙ told))))
    lacks

pub laid_stop_as : (file : List ℕ) (h : Header) (slot : Slot) (m n : ℕ) (arcs : List RoadArc) (i : ℕ) (bytes : List ℕ) (refusal : Refusal) → n ≡ m → LaidSoFar file h slot m arcs i → i < end_pages h → bytes ≡ page file (page_number h (EndsOf slot i))
    → MayLack (laid_of_page h slot n i bytes) refusal → MayRefuse (laid_from (page file) h slot m) refusal
laid_stop_as file h slot m n arcs i bytes refusal e so_far lt at lacks = laid_stop file h slot m arcs i bytes refusal so_far lt at (subst (λ (k : ℕ). MayLack (laid_of_page h slot k i bytes) refusal) e lacks)

pub laid_done : (file : List ℕ) (h : Header) (slot : Slot) (m : ℕ) (arcs : List RoadArc) (i : ℕ) → end_pages h ≤ i → length arcs ≡ m → m ≤ h.room → LaidSoFar file h slot m arcs i → laid_from (page file) h slot m ≡ Ok (map ends_of (drop h.arcs arcs))
laid_done file h slot m arcs i past count fits so_far =
    let whole : length (drop h.arcs arcs) ≤ min (511 * i) (m - h.arcs) = omega (arith, length-drop h.arcs arcs) in
    ends (laid_at file h slot m) (λ j. page_number h (EndsOf slot j)) (end_pages h) (laid_from (page file) h slot m) (map ends_of (take (min (511 * i) (m - h.arcs)) (drop h.arcs arcs))) i past so_far.is
    ∙ ap (λ xs. Ok (map ends_of xs)) (take_all (min (511 * i) (m - h.arcs)) (drop h.arcs arcs) whole)

pub ends_count : (nodes count : ℕ) (page : List ℕ) (found : Option (List Ends)) (xs : List Ends) → Decodes (SpelledArcs nodes count page) found → found ≡ Some xs → length xs ≡ count
ends_count nodes count page found xs tells is =
    let spelled : SpelledArcs nodes count page xs = subst (λ (f : Option (List Ends)). Decodes (SpelledArcs nodes count page) f) is tells in
    spelled.count_is
