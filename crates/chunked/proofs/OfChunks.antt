-- The items of chunks of 1,024, up to a length for which there are as many chunks as it takes.
use Rattle.std.proofs.Common.{◌≡◌, ◌∙◌, ℕ, ◌+◌, ◌-◌, ◌*◌, ◌/◌, ◌%◌, ◌<◌, ◌≤◌, List, [], ◌∷◌, ◌++◌, length, get_or, set, take, drop, min, sym, ap, arith}
use Rattle.std.specs.List.{flat_map}
use Rattle.std.proofs.Math.Seq.{take-set-lt}
use Rattle.std.proofs.lemmas.List.{length-drop, length-take, take_min, take_more_set}
use Rattle.chunked.specs.declared.chunks.Chunk.{Chunk}
use Rattle.chunked.specs.declared.words.WordChunk.{WordChunk}
use Rattle.chunked.proofs.Items.{length-items, item_at, append_items, chunk_is}
use Rattle.chunked.proofs.Joined.{length-joined}

-- the items of a chunk
abbrev pub items_of : {T : Type 0} → Chunk T → List T
items_of chunk = chunk.items.items

pub full : {T : Type 0} (chunk : Chunk T) → length (items_of chunk) ≡ 1024
full chunk = chunk.full

abbrev pub words_of : WordChunk → List ℕ
words_of chunk = chunk.words

pub full_words : (chunk : WordChunk) → length (words_of chunk) ≡ 1024
full_words chunk = chunk.full

module _ {T C : Type 0} (part : C → List T) (size : (chunk : C) → length (part chunk) ≡ 1024) (chunks : List C) (len : ℕ) (fits : length chunks ≡ (len + 1023) / 1024) where
  pub long : length (take len (flat_map part chunks)) ≡ len
  long = length-items part 1024 size chunks len (omega (arith, fits))

  pub get_item : (place : ℕ) (chunk : C) (item : T) → place < len → ((d : C) → get_or chunks (place / 1024) d ≡ chunk) → item ≡ get_or (part chunk) (place % 1024) item → (d : T) → get_or (take len (flat_map part chunks)) place d ≡ item
  get_item place chunk item h is is' d = item_at part 1024 size chunks len place (place / 1024) (place % 1024) chunk item h (omega arith) (omega (arith, h, fits)) (omega arith) (sym (is chunk)) is' d

  pub chunk_items : (k : ℕ) (chunk : C) → k * 1024 < len → ((d : C) → get_or chunks k d ≡ chunk) → take (min 1024 (len - k * 1024)) (part chunk) ≡ take 1024 (drop (k * 1024) (take len (flat_map part chunks)))
  chunk_items k chunk h is = chunk_is part 1024 size chunks len k chunk (omega (arith, fits)) (omega (arith, h, fits)) h (sym (is chunk))

  module _ (more : List C) (place : ℕ) (v : T) (put : flat_map part more ≡ set (flat_map part chunks) place v) where
    pub set_item : place < len → take len (flat_map part more) ≡ set (take len (flat_map part chunks)) place v
    set_item h = ap (take len) put ∙ take-set-lt len (flat_map part chunks) place v h

    pub push_item : place ≡ len → 0 < len % 1024 → take (place + 1) (flat_map part more) ≡ take len (flat_map part chunks) ++ v ∷ []
    push_item at h =
        ap (take (place + 1)) put
        ∙ (take_more_set (flat_map part chunks) place v (omega (arith, at, h, fits, length-joined part 1024 size chunks)) ∙ ap (λ n. take n (flat_map part chunks) ++ v ∷ []) at)

  pub lay_items : (more : List C) (chunk : C) (items : List T) → len % 1024 ≡ 0 → length items ≤ 1024 → more ≡ chunks ++ chunk ∷ [] → take (length items) (part chunk) ≡ items → take (len + length items) (flat_map part more) ≡ take len (flat_map part chunks) ++ items
  lay_items more chunk items whole few laid begins = ap (λ cs. take (len + length items) (flat_map part cs)) laid ∙ append_items part 1024 size chunks len chunk items (omega (arith, whole, fits)) few begins

-- the part of a list that its k-th chunk has
pub part_next : {T : Type 0} (items : List T) (k m : ℕ) → k * 1024 < length items → m ≡ min 1024 (length items - k * 1024) → take (k * 1024 + m - k * 1024) (drop (k * 1024) items) ≡ take 1024 (drop (k * 1024) items)
part_next items k m h is =
    let rest : length (drop (k * 1024) items) ≡ length items - k * 1024 = length-drop (k * 1024) items in
    ap (λ j. take j (drop (k * 1024) items)) (omega (arith, is, rest)) ∙ take_min 1024 (drop (k * 1024) items)

pub part_size : {T : Type 0} (items : List T) (k m : ℕ) → k * 1024 < length items → m ≡ min 1024 (length items - k * 1024) → length (take (k * 1024 + m - k * 1024) (drop (k * 1024) items)) ≡ m
part_size items k m h is = length-take (k * 1024 + m - k * 1024) (drop (k * 1024) items) ∙ omega (arith, is, length-drop (k * 1024) items)
