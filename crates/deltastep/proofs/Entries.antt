-- The entries of a row that is kept as words.
use Rattle.std.proofs.Common.{◌≡◌, ◌≢◌, ◌∙◌, ℕ, zero, suc, ◌+◌, ◌-◌, ◌*◌, ◌<◌, ◌≤◌, ◌==◌, if◌then◌else◌, List, ◌++◌, Option, Some, None, length, get_or, map, min, take, drop, refl, sym, ap, ap₂, arith}
use Rattle.std.proofs.Math.Seq.{take-add}
use Rattle.std.proofs.lemmas.List.{length-drop, length-map, length-take-le, map-append, take_min}
use Rattle.std.proofs.lemmas.Option.{slice_get-get_or, slice_get-map}
use Rattle.roadnet.specs.Walks.{distance_at}
use Rattle.deltastep.specs.Words.{no_walk, distance_of_short, distance_of_word}
use Rattle.deltastep.specs.Tentative.{word_at}
use Rattle.deltastep.proofs.Reached.{test_eq, test_ne}

pub distance_of_none : (word : ℕ) → word ≡ no_walk → distance_of_word word ≡ None
distance_of_none word e = rw (test_eq word 18446744073709551615 e) refl

pub distance_of_some : (word : ℕ) → word ≢ no_walk → distance_of_word word ≡ Some word
distance_of_some word e = rw (test_ne word 18446744073709551615 e) refl

distance_at_suc : (words : List ℕ) (i : ℕ) → i < length words → distance_at (map distance_of_word words) (suc i) ≡ distance_of_word (get_or words i 0)
distance_at_suc words i lt = rw (slice_get-map distance_of_word words i, slice_get-get_or words i 0 lt) refl

pub distance_at_words : (words : List ℕ) (t : ℕ) → 1 ≤ t → t ≤ length words → distance_at (map distance_of_word words) t ≡ distance_of_word (word_at words t)
distance_at_words words zero from to = absurd (omega arith)
distance_at_words words (suc i) from to =
    let e : suc i - 1 ≡ i = omega arith in
    rw e (distance_at_suc words i to)

-- what the words of a row say of a node, whichever word stands for "no walk leads there"
module _ (none : ℕ) where
  abbrev said : ℕ → Option ℕ
  said word = if word == none then None else Some word

  said_at_suc : (words : List ℕ) (i : ℕ) → i < length words → distance_at (map said words) (suc i) ≡ said (get_or words i 0)
  said_at_suc words i lt = rw (slice_get-map said words i, slice_get-get_or words i 0 lt) refl

  said_at : (words : List ℕ) (t : ℕ) → 1 ≤ t → t ≤ length words → distance_at (map said words) t ≡ said (get_or words (t - 1) 0)
  said_at words zero from to = absurd (omega arith)
  said_at words (suc i) from to =
      let e : suc i - 1 ≡ i = omega arith in
      rw e (said_at_suc words i to)

  said_none : (word : ℕ) → word ≡ none → said word ≡ None
  said_none word e = rw (test_eq word none e) refl

  said_some : (word : ℕ) → word ≢ none → said word ≡ Some word
  said_some word e = rw (test_ne word none e) refl

  pub entry_none : (words : List ℕ) (t : ℕ) → 1 ≤ t → t ≤ length words → get_or words (t - 1) 0 ≡ none → None ≡ distance_at (map said words) t
  entry_none words t from to e = sym (said_at words t from to ∙ said_none (get_or words (t - 1) 0) e)

  pub entry_some : (words : List ℕ) (t : ℕ) → 1 ≤ t → t ≤ length words → get_or words (t - 1) 0 ≢ none → Some (get_or words (t - 1) 0) ≡ distance_at (map said words) t
  entry_some words t from to ne = sym (said_at words t from to ∙ said_some (get_or words (t - 1) 0) ne)

-- ---- words of 4 bytes that say the same as words of 8

pub length_same : (words short : List ℕ) (n : ℕ) → n ≤ length words → map distance_of_short short ≡ map distance_of_word (take n words) → length short ≡ n
length_same words short n h same = sym (length-map short distance_of_short) ∙ (ap length same ∙ (length-map (take n words) distance_of_word ∙ length-take-le n words h))

-- the words of the next chunk
pub same_more : (words chunks short : List ℕ) (k m : ℕ) → m ≡ min 1024 (length words - k * 1024) → map distance_of_short chunks ≡ map distance_of_word (take (k * 1024) words) → map distance_of_short short ≡ map distance_of_word (take m (drop (k * 1024) words)) → map distance_of_short (chunks ++ short) ≡ map distance_of_word (take ((k + 1) * 1024) words)
same_more words chunks short k m is before next =
    let rest : List ℕ = drop (k * 1024) words in
    let long : length rest ≡ length words - k * 1024 = length-drop (k * 1024) words in
    let part : take m rest ≡ take 1024 rest = ap (λ n. take n rest) is ∙ (ap (λ n. take (min 1024 n) rest) (sym long) ∙ take_min 1024 rest) in
    let e : k * 1024 + 1024 ≡ (k + 1) * 1024 = omega arith in
    map-append distance_of_short chunks short
    ∙ (ap₂ (λ (xs ys : List (Option ℕ)). xs ++ ys) before (next ∙ ap (map distance_of_word) part)
    ∙ (sym (map-append distance_of_word (take (k * 1024) words) (take 1024 rest))
    ∙ ap (map distance_of_word) (sym (take-add (k * 1024) 1024 words) ∙ ap (λ n. take n words) e)))
