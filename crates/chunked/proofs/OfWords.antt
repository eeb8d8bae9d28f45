-- Words as they are read again and again, from the tables of their chunks.
use Rattle.std.proofs.Common.{◌≡◌, ◌∙◌, ℕ, ◌*◌, ◌/◌, ◌%◌, ◌<◌, ◌≤◌, List, length, get_or, take, sym, ap, arith, Global}
use Rattle.std.specs.List.{flat_map}
use Rattle.std.proofs.lemmas.List.{take-take}
use Rattle.std.specs.declared.sync.Arc.{Arc}
use Rattle.chunked.specs.declared.table.Table.{Table}
use Rattle.chunked.specs.declared.words.WordChunk.{WordChunk}
use Rattle.chunked.specs.Tables.{items_of}
use Rattle.chunked.proofs.Items.{length-items, item_at}
use Rattle.chunked.proofs.Joined.{length-joined, take-before}
use Rattle.chunked.proofs.OfChunks.{words_of, full_words}
use Rattle.chunked.proofs.OfTables.{full_table, of_table}

module _ (tables : List (Arc (Table WordChunk) Global)) (len : ℕ) where
  count : length (items_of tables) ≡ length tables * 256
  count = length-joined of_table 256 full_table tables

  pub long : len ≤ length tables * 262144 → length (take len (flat_map words_of (items_of tables))) ≡ len
  long fits = length-items words_of 1024 full_words (items_of tables) len (omega (arith, fits, count))

  pub get_word : len ≤ length tables * 262144 → (place : ℕ) (chunk : WordChunk) (word : ℕ) → place < len → ((d : WordChunk) → get_or (items_of tables) (place / 1024) d ≡ chunk) → word ≡ get_or (words_of chunk) (place % 1024) word → (d : ℕ) → get_or (take len (flat_map words_of (items_of tables))) place d ≡ word
  get_word fits place chunk word h is is' d = item_at words_of 1024 full_words (items_of tables) len place (place / 1024) (place % 1024) chunk word h (omega arith) (omega (arith, h, fits, count)) (omega arith) (sym (is chunk)) is' d

  -- the first chunks have the words, if they are as many
  pub whole : (chunks : List WordChunk) → take (length chunks) (items_of tables) ≡ chunks → len ≤ length chunks * 1024 → take len (flat_map words_of (items_of tables)) ≡ take len (flat_map words_of chunks)
  whole chunks is room =
      sym (take-take len (length chunks * 1024) (flat_map words_of (items_of tables)) room)
      ∙ ap (take len) (sym (take-before words_of 1024 full_words (items_of tables) (length chunks)) ∙ ap (flat_map words_of) is)
