-- What was read of a slot.
use Rattle.std.proofs.Common.{◌≡◌, ◌∙◌, ℕ, List, ◌++◌, take, drop, Result, Ok, Err, sym, ap}
use Rattle.std.specs.Prelude.{map}
use Rattle.std.specs.List.{zip}
use Rattle.std.proofs.lemmas.List.{take-map}
use Rattle.roadnet.specs.declared.arcs.RoadArc.{RoadArc}
use Rattle.roadnet.specs.declared.refusals.Refusal.{Refusal}
use Rattle.roadnet.specs.Net.{Net}
use Rattle.pages.specs.declared.header.Header.{Header}
use Rattle.pages.specs.declared.content.Ends.{Ends}
use Rattle.pages.specs.declared.content.Word.{Word}
use Rattle.pages.specs.declared.content.Slot.{Slot}
use Rattle.pages.specs.Contents.{Head}
use Rattle.pages.specs.Spelling.{ends_of, word_of}
use Rattle.storefile.specs.Judging.{◌>>=◌, words_from, laid_from, network_from, arc_from}
use Rattle.storefile.proofs.Opening.{arcs_joined, both_ends}
use Rattle.checkpoint.specs.Loading.{head_from, loaded_from, parts_from}

pub loaded_is : (pages : ℕ → List ℕ) (h : Header) (slot : Slot) (ends : List Ends) (head : Head) (arcs : List RoadArc) (net : Net) → head_from pages h slot ≡ Ok head → words_from pages h slot head.arcs ≡ Ok (map word_of arcs)
    → laid_from pages h slot head.arcs ≡ Ok (map ends_of (drop h.arcs arcs)) → map ends_of (take h.arcs arcs) ≡ ends → net ≡ record { nodes = h.nodes; arcs = arcs; landmarks = head.landmarks; room = h.room }
    → loaded_from pages h slot ends ≡ Ok (head, net)
loaded_is pages h slot ends head arcs net head_is words_are laid_are ends_are net_is =
    let joined : map arc_from (zip (ends ++ map ends_of (drop h.arcs arcs)) (map word_of arcs)) ≡ arcs =
    ap (λ (es : List Ends). map arc_from (zip (es ++ map ends_of (drop h.arcs arcs)) (map word_of arcs))) (sym ends_are)
    ∙ ap (λ (es : List Ends). map arc_from (zip es (map word_of arcs))) (both_ends h.arcs arcs) ∙ arcs_joined arcs in
    ap (λ (r : Result Head Refusal). r >>= λ d. words_from pages h slot d.arcs >>= λ w. laid_from pages h slot d.arcs >>= λ l. Ok (d, network_from h (ends ++ l) w d)) head_is
    ∙ ap (λ (r : Result (List Word) Refusal). r >>= λ w. laid_from pages h slot head.arcs >>= λ l. Ok (head, network_from h (ends ++ l) w head)) words_are
    ∙ ap (λ (r : Result (List Ends) Refusal). r >>= λ l. Ok (head, network_from h (ends ++ l) (map word_of arcs) head)) laid_are
    ∙ ap (λ (xs : List RoadArc). Ok (head, record { nodes = h.nodes; arcs = xs; landmarks = head.landmarks; room = h.room })) joined
    ∙ ap (λ (n : Net). Ok (head, n)) (sym net_is)

-- Arcs of the same ends have the same first ones.
pub same_first : (n : ℕ) (xs ys : List RoadArc) → map ends_of xs ≡ map ends_of ys → map ends_of (take n xs) ≡ map ends_of (take n ys)
same_first n xs ys same = sym (take-map ends_of n xs) ∙ ap (take n) same ∙ take-map ends_of n ys

-- What ends the end pages ends both parts, and what ends a part ends the whole slot.
pub parts_stop : (pages : ℕ → List ℕ) (h : Header) (slot : Slot) (arcs : ℕ) (words : List Word) (refusal : Refusal) → words_from pages h slot arcs ≡ Ok words → laid_from pages h slot arcs ≡ Err refusal → parts_from pages h slot arcs ≡ Err refusal
parts_stop pages h slot arcs words refusal words_are stopped =
    ap (λ (r : Result (List Word) Refusal). r >>= λ w. laid_from pages h slot arcs >>= λ l. Ok (w, l)) words_are
    ∙ ap (λ (r : Result (List Ends) Refusal). r >>= λ l. Ok (words, l)) stopped

over : {X Y : Type 0} → Result Y Refusal → Result X Refusal → Result Y Refusal
over y (Ok x) = y
over y (Err e) = Err e

abbrev both : Result (List Word) Refusal → Result (List Ends) Refusal → Result (List Word × List Ends) Refusal
both words laid = do
  w ← words
  l ← laid
  Ok (w, l)

abbrev whole : Header → List Ends → Head → Result (List Word) Refusal → Result (List Ends) Refusal → Result (Head × Net) Refusal
whole h ends head words laid = do
  w ← words
  l ← laid
  Ok (head, network_from h (ends ++ l) w head)

parts_then : (h : Header) (ends : List Ends) (head : Head) (refusal : Refusal) (words : Result (List Word) Refusal) (laid : Result (List Ends) Refusal)
    → both words laid ≡ Err refusal → whole h ends head words laid ≡ Err refusal
unfolding over
parts_then h ends head refusal (Ok w) (Ok l) stopped = ap (over (Ok (head, network_from h (ends ++ l) w head))) stopped
parts_then h ends head refusal (Ok w) (Err e) stopped = ap (over (Err e)) stopped
parts_then h ends head refusal (Err e) laid stopped = ap (over (Err e)) stopped

pub loaded_stop : (pages : ℕ → List ℕ) (h : Header) (slot : Slot) (ends : List Ends) (head : Head) (refusal : Refusal) → head_from pages h slot ≡ Ok head → parts_from pages h slot head.arcs ≡ Err refusal → loaded_from pages h slot ends ≡ Err refusal
loaded_stop pages h slot ends head refusal head_is stopped =
    ap (λ (r : Result Head Refusal). r >>= λ d. words_from pages h slot d.arcs >>= λ w. laid_from pages h slot d.arcs >>= λ l. Ok (d, network_from h (ends ++ l) w d)) head_is
    ∙ parts_then h ends head refusal (words_from pages h slot head.arcs) (laid_from pages h slot head.arcs) stopped
