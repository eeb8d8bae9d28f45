-- A file that opening doesn't refuse stores what opening answers.
use Rattle.std.proofs.Common.{◌≡◌, ℕ, ◌*◌, ◌-◌, true, List, ◌++◌, length, take, drop, Some, None, Result, Ok, Err, refl, sym, ap, subst, ◌∙◌, arith}
use Rattle.std.specs.Prelude.{nat_le, ◌&&◌, ◌==◌, map, codes}
use Rattle.std.specs.List.{zip}
use Rattle.std.specs.Str.{bytes_eq}
use Rattle.std.proofs.lemmas.Bool.{eqb-true}
use Rattle.std.proofs.lemmas.List.{length-map, length-append, take-map, drop-map, take_at, drop_at}
use Rattle.byteorder.specs.Endian.{big_number}
use Rattle.roadnet.specs.declared.refusals.Refusal.{Refusal}
use Rattle.roadnet.specs.declared.refusals.Refusal.TheVariants.{NotAStore, WrongFormat, Damaged}
use Rattle.roadnet.specs.Net.{Net}
use Rattle.roadnet.specs.Step.{after}
use Rattle.roadnet.specs.declared.commands.Command.{Command}
use Rattle.pages.specs.declared.header.Header.{Header}
use Rattle.pages.specs.declared.content.Slot.{Slot}
use Rattle.pages.specs.declared.content.Ends.{Ends}
use Rattle.pages.specs.declared.content.Word.{Word}
use Rattle.pages.specs.Contents.{Head}
use Rattle.pages.specs.Spelling.{SpelledHeader, SpelledArcs, SpelledWords, SpelledHead, ends_of, word_of}
use Rattle.roadnet.specs.declared.arcs.RoadArc.{RoadArc}
use Rattle.pages.specs.declared.content.Format.{Format}
use Rattle.pages.specs.declared.content.Format.TheVariants.{One, Two}
use Rattle.pages.specs.Formats.{format_number_of}
use Rattle.pages.specs.Layout.{places_in_use, arc_pages, word_pages, end_pages, head_page_at, page_count}
use Rattle.storefile.proofs.Names.{arc_page_at, word_page_at, end_page_at}
use Rattle.storefile.specs.StoreFile.{part, is_open, Stored, groups_of, IsCurrent, Stores}
use Rattle.storefile.specs.Judging.{◌>>=◌, unless_so, spelled_at, all_spelled, header_in, arcs_in, words_in, head_in, current_slot, arc_from, network_from, journal_from, opened_from, refusal_in}
use Rattle.pages.proofs.Padding.{both}
use Rattle.storefile.proofs.Opening.{part-map, format_found}
use Rattle.storefile.proofs.Sound.{bind_ok, unless_ok, spelled_ok, header_spelled, arcs_spelled, words_spelled, head_spelled, current_is, every_part, ends_again, words_again}
use Rattle.storefile.proofs.Kept.{journal_is}

-- what was opened, and after it
abbrev pub IsOpened : ℕ → (ℕ → List ℕ) → Stored × Net → Type 0
IsOpened size pages x = Stores size pages x.0 × (after x.0.network (groups_of x.0) ≡ Some x.1)

answer_same : (a b : Stored × Net) → ◌≡◌ {A = Result (Stored × Net) Refusal} (Ok a) (Ok b) → a ≡ b
answer_same a b e = cc

-- a step that was not refused, and what follows
after_step : {X Y : Type 0} {G : Type 0} (r : Result X Refusal) (f : X → Result Y Refusal) (y : Y) → (r >>= f) ≡ Ok y → ((x : X) → r ≡ Ok x → f x ≡ Ok y → G) → G
after_step r f y e goes_on = let b = bind_ok r f y e in goes_on b.0 b.1 b.2

slice : {X Y : Type 0} (f : X → Y) (places i : ℕ) (xs : List X) (ys : List Y) → map f xs ≡ ys → take places (drop (places * (i - 0)) ys) ≡ map f (part places i xs)
slice f places i xs ys e =
    let same : i - 0 ≡ i = omega arith in
    ap (λ (k : ℕ). take places (drop (places * k) ys)) same ∙ ap (λ zs. take places (drop (places * i) zs)) (sym e) ∙ sym (part-map f (places * i) places xs)

-- of ends one behind the other, those of the first arcs and those of the others
first_ends : (arcs : List RoadArc) (n : ℕ) (front back : List Ends) → map ends_of arcs ≡ front ++ back → length front ≡ n → map ends_of (take n arcs) ≡ front
first_ends arcs n front back e len = sym (take-map ends_of n arcs) ∙ ap (take n) e ∙ take_at front back n len

other_ends : (arcs : List RoadArc) (n : ℕ) (front back : List Ends) → map ends_of arcs ≡ front ++ back → length front ≡ n → map ends_of (drop n arcs) ≡ back
other_ends arcs n front back e len = sym (drop-map ends_of n arcs) ∙ ap (drop n) e ∙ drop_at front back n len

head_as : (h : Header) (head : Head) (n : ℕ) (page : List ℕ) → n ≡ head.arcs → SpelledHead h page head → SpelledHead h page (record { epoch = head.epoch; version = head.version; next_sequence = head.next_sequence; arcs = n; landmarks = head.landmarks })
head_as h head n page e spells = rw e spells

assemble : (size : ℕ) (pages : ℕ → List ℕ) (h : Header) (ends laid : List Ends) (slot : Slot) (head : Head) (words : List Word) (j : List (List (List Command)) × Net)
    → is_open (pages 0) ≡ true → SpelledHeader (pages 0) h → size ≡ 4096 * page_count h
    → all_spelled (λ i. arcs_in h.nodes (places_in_use 511 i h.arcs) (pages (arc_page_at i))) arc_page_at 0 (arc_pages h) ≡ Ok ends
    → IsCurrent pages h slot → SpelledHead h (pages (head_page_at h slot)) head
    → all_spelled (λ i. words_in (places_in_use 1023 i head.arcs) (pages (word_page_at h slot i))) (word_page_at h slot) 0 (word_pages h) ≡ Ok words
    → all_spelled (λ i. arcs_in h.nodes (places_in_use 511 i (head.arcs - h.arcs)) (pages (end_page_at h slot i))) (end_page_at h slot) 0 (end_pages h) ≡ Ok laid
    → journal_from pages h h.journal_pages head.next_sequence head.version (network_from h (ends ++ laid) words head) ≡ Ok j
    → IsOpened size pages (record { header = h; slot = slot; epoch = head.epoch; version = head.version; sequence = head.next_sequence; network = network_from h (ends ++ laid) words head; unchecked = j.0 }, j.1)
assemble size pages h ends laid slot head words j opened header sized ends_are current headed words_are laid_are journal =
    let from = headed.fits.arcs.0 in
    let to = headed.fits.arcs.1 in
    let pe = every_part (λ i. arcs_in h.nodes (places_in_use 511 i h.arcs) (pages (arc_page_at i))) arc_page_at 511 h.arcs
    (λ k ys e. (arcs_spelled h.nodes (places_in_use 511 k h.arcs) (pages (arc_page_at k)) ys e).count_is) (arc_pages h) 0 ends ends_are (omega arith) (omega arith) in
    let pw = every_part (λ i. words_in (places_in_use 1023 i head.arcs) (pages (word_page_at h slot i))) (word_page_at h slot) 1023 head.arcs
    (λ k ys e. (words_spelled (places_in_use 1023 k head.arcs) (pages (word_page_at h slot k)) ys e).count_is) (word_pages h) 0 words words_are (omega (arith, to)) (omega arith) in
    let pl = every_part (λ i. arcs_in h.nodes (places_in_use 511 i (head.arcs - h.arcs)) (pages (end_page_at h slot i))) (end_page_at h slot) 511 (head.arcs - h.arcs)
    (λ k ys e. (arcs_spelled h.nodes (places_in_use 511 k (head.arcs - h.arcs)) (pages (end_page_at h slot k)) ys e).count_is) (end_pages h) 0 laid laid_are (omega (arith, to)) (omega arith) in
    let arcs : List RoadArc = map arc_from (zip (ends ++ laid) words) in
    let size_ends : length ends ≡ h.arcs = omega (arith, pe.0) in
    let lens : length (ends ++ laid) ≡ length words = omega (arith, size_ends, pl.0, pw.0, from, length-append ends laid) in
    let from_ends : map ends_of (map arc_from (zip (ends ++ laid) words)) ≡ ends ++ laid = ends_again (ends ++ laid) words lens in
    let from_words : map word_of (map arc_from (zip (ends ++ laid) words)) ≡ words = words_again (ends ++ laid) words lens in
    let first = first_ends (map arc_from (zip (ends ++ laid) words)) h.arcs ends laid from_ends size_ends in
    let others = other_ends (map arc_from (zip (ends ++ laid) words)) h.arcs ends laid from_ends size_ends in
    let count : length (map arc_from (zip (ends ++ laid) words)) ≡ head.arcs =
    omega (arith, length-map (map arc_from (zip (ends ++ laid) words)) word_of, ap length from_words, pw.0) in
    let js = journal_is pages h h.journal_pages head.next_sequence head.version (network_from h (ends ++ laid) words head) j headed.fits.numbers.version_to journal in (
      record {
        header = header;
        opened = opened;
        size_is = sized;
        arcs = record {
          nodes_are = refl;
          room_is = refl;
          count_from = omega (arith, count, from);
          each = λ i lt. subst (SpelledArcs h.nodes (places_in_use 511 i h.arcs) (pages (arc_page_at i))) (slice ends_of 511 i (take h.arcs (map arc_from (zip (ends ++ laid) words))) ends first)
              (arcs_spelled h.nodes (places_in_use 511 i h.arcs) (pages (arc_page_at i)) _ (pe.1 i (omega arith) (omega arith)));
        };
        current = current;
        held = record {
          head_is = head_as h head (length (map arc_from (zip (ends ++ laid) words))) (pages (head_page_at h slot)) count headed;
          words = λ i lt. subst (λ (n : ℕ). SpelledWords (places_in_use 1023 i n) (pages (word_page_at h slot i)) (map word_of (part 1023 i (map arc_from (zip (ends ++ laid) words))))) (sym count)
              (subst (SpelledWords (places_in_use 1023 i head.arcs) (pages (word_page_at h slot i))) (slice word_of 1023 i (map arc_from (zip (ends ++ laid) words)) words from_words)
              (words_spelled (places_in_use 1023 i head.arcs) (pages (word_page_at h slot i)) _ (pw.1 i (omega arith) (omega arith))));
          ends = λ i lt. subst (λ (n : ℕ). SpelledArcs h.nodes (places_in_use 511 i (n - h.arcs)) (pages (end_page_at h slot i)) (map ends_of (part 511 i (drop h.arcs (map arc_from (zip (ends ++ laid) words)))))) (sym count)
              (subst (SpelledArcs h.nodes (places_in_use 511 i (head.arcs - h.arcs)) (pages (end_page_at h slot i))) (slice ends_of 511 i (drop h.arcs (map arc_from (zip (ends ++ laid) words))) laid others)
              (arcs_spelled h.nodes (places_in_use 511 i (head.arcs - h.arcs)) (pages (end_page_at h slot i)) _ (pl.1 i (omega arith) (omega arith))));
        };
        journal = js.held;
        few = js.few;
        longest = js.longest;
        versions_to = js.versions_to;
      },
      js.done,
    )

-- the format of a header is that of the number which it is read by
format_by : (f g : Format) → format_number_of f ≡ format_number_of g → f ≡ g
format_by One One e = refl
format_by One Two e = absurd (omega arith)
format_by Two One e = absurd (omega arith)
format_by Two Two e = refl

pub opened_is : (format : Format) (size : ℕ) (pages : ℕ → List ℕ) (x : Stored × Net) → opened_from format size pages ≡ Ok x → Stores size pages x.0 × (after x.0.network (groups_of x.0) ≡ Some x.1) × (x.0.header.format ≡ format)
opened_is format size pages x e =
    after_step (unless_so (nat_le 4096 size && bytes_eq (take 8 (pages 0)) (codes "ROADMRK1") && is_open (pages 0)) NotAStore) _ x e (λ u0 p0 e0.
    after_step (unless_so (big_number 4 (drop 8 (pages 0)) == format_number_of format) WrongFormat) _ x e0 (λ u1 p1 e1.
    after_step (spelled_at 0 (header_in (pages 0))) _ x e1 (λ h p2 e2.
    after_step (unless_so (size == 4096 * page_count h) (Damaged 0)) _ x e2 (λ u3 p3 e3.
    after_step (all_spelled (λ i. arcs_in h.nodes (places_in_use 511 i h.arcs) (pages (arc_page_at i))) arc_page_at 0 (arc_pages h)) _ x e3 (λ ends p4 e4.
    after_step (current_slot pages h) _ x e4 (λ slot p5 e5.
    after_step (spelled_at (head_page_at h slot) (head_in h (pages (head_page_at h slot)))) _ x e5 (λ head p6 e6.
    after_step (all_spelled (λ i. words_in (places_in_use 1023 i head.arcs) (pages (word_page_at h slot i))) (word_page_at h slot) 0 (word_pages h)) _ x e6 (λ words p7 e7.
    after_step (all_spelled (λ i. arcs_in h.nodes (places_in_use 511 i (head.arcs - h.arcs)) (pages (end_page_at h slot i))) (end_page_at h slot) 0 (end_pages h)) _ x e7 (λ laid p8 e8.
    after_step (journal_from pages h h.journal_pages head.next_sequence head.version (network_from h (ends ++ laid) words head)) _ x e8 (λ j p9 e9.
    let tests = both (nat_le 4096 size && bytes_eq (take 8 (pages 0)) (codes "ROADMRK1")) (is_open (pages 0)) (unless_ok _ _ u0 p0) in
    let spelled = header_spelled (pages 0) h (spelled_ok 0 (header_in (pages 0)) h p2) in
    let in_format : h.format ≡ format = format_by h.format format (sym (format_found (pages 0) h spelled) ∙ eqb-true _ _ (unless_ok _ _ u1 p1)) in
    let made = assemble size pages h ends laid slot head words j tests.1 spelled (eqb-true _ _ (unless_ok _ _ u3 p3)) p4
    (current_is pages h slot p5) (head_spelled h (pages (head_page_at h slot)) head (spelled_ok (head_page_at h slot) (head_in h (pages (head_page_at h slot))) head p6)) p7 p8 p9 in
    subst (λ (y : Stored × Net). Stores size pages y.0 × (after y.0.network (groups_of y.0) ≡ Some y.1) × (y.0.header.format ≡ format)) (answer_same _ x e9)
    (made.0, made.1, in_format)))))))))))

pub not_refused : (r : Result (Stored × Net) Refusal) → refusal_in r ≡ None → (x : Stored × Net) × (r ≡ Ok x)
not_refused (Ok x) e = (x, refl)
not_refused (Err d) e = absurd cc
