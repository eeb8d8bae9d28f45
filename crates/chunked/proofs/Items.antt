-- The items of lists of one size, joined end to end, up to a length.
use Rattle.std.proofs.Common.{◌≡◌, ◌∙◌, ℕ, ◌+◌, ◌-◌, ◌*◌, ◌<◌, ◌≤◌, List, [], ◌∷◌, ◌++◌, length, get_or, set, take, drop, replicate, min, refl, sym, ap, ap₂, arith, ⊎_elim}
use Rattle.std.specs.List.{flat_map}
use Rattle.std.proofs.Math.Seq.{take-set-lt, take-append-add}
use Rattle.std.proofs.lemmas.Bool.{cases_lt}
use Rattle.std.proofs.lemmas.List.{append-nil, drop-take, length-take, length-take-le, get_or-take, get_or_default, take_all, take_more_set, take-replicate, take-take}
use Rattle.std.proofs.lemmas.List.Concat.{flat_map-append}
use Rattle.chunked.proofs.Joined.{length-joined, get_or-joined, take-joined, set-joined}

pub nested : {A B T : Type 0} (f : B → List T) (g : A → List B) (xs : List A) → flat_map f (flat_map g xs) ≡ flat_map (λ x. flat_map f (g x)) xs
nested f g [] = refl
nested f g (x ∷ xs) = flat_map-append f (g x) (flat_map g xs) ∙ ap (λ l. flat_map f (g x) ++ l) (nested f g xs)

module _ {T C : Type 0} (items_of : C → List T) (n : ℕ) (full : (chunk : C) → length (items_of chunk) ≡ n) where
  pub length-items : (chunks : List C) (len : ℕ) → len ≤ length chunks * n → length (take len (flat_map items_of chunks)) ≡ len
  length-items chunks len h = length-take-le len (flat_map items_of chunks) (omega (arith, length-joined items_of n full chunks))

  pub item_at : (chunks : List C) (len place k j : ℕ) (chunk : C) (item : T) → place < len → place ≡ k * n + j → k < length chunks → j < n → chunk ≡ get_or chunks k chunk → item ≡ get_or (items_of chunk) j item → (d : T) → get_or (take len (flat_map items_of chunks)) place d ≡ item
  item_at chunks len place k j chunk item h at there within is is' d =
      get_or-take len (flat_map items_of chunks) place d h
      ∙ (ap (λ p. get_or (flat_map items_of chunks) p d) at
      ∙ (get_or-joined items_of n full chunks k j chunk d there within
      ∙ (ap (λ (c : C). get_or (items_of c) j d) (sym is)
      ∙ (get_or_default (items_of chunk) j d item (omega (arith, full chunk)) ∙ sym is'))))

  -- ---- one item replaced
  pub set_items : (chunks : List C) (len place k j : ℕ) (old new : C) (v : T) → place < len → place ≡ k * n + j → k < length chunks → j < n → old ≡ get_or chunks k old → items_of new ≡ set (items_of old) j v → take len (flat_map items_of (set chunks k new)) ≡ set (take len (flat_map items_of chunks)) place v
  set_items chunks len place k j old new v within at there h is put =
      let put' : items_of new ≡ set (items_of (get_or chunks k old)) j v = put ∙ ap (λ (c : C). set (items_of c) j v) is in
      ap (take len) (set-joined items_of n full chunks k j old new v there h put' ∙ ap (λ p. set (flat_map items_of chunks) p v) (sym at))
      ∙ take-set-lt len (flat_map items_of chunks) place v within

  -- ---- one item more, where there is a chunk for it
  pub push_items : (chunks : List C) (place k j : ℕ) (old new : C) (v : T) → place ≡ k * n + j → place < length chunks * n → k < length chunks → j < n → old ≡ get_or chunks k old → items_of new ≡ set (items_of old) j v → take (place + 1) (flat_map items_of (set chunks k new)) ≡ take place (flat_map items_of chunks) ++ v ∷ []
  push_items chunks place k j old new v at fits there h is put =
      let put' : items_of new ≡ set (items_of (get_or chunks k old)) j v = put ∙ ap (λ (c : C). set (items_of c) j v) is in
      ap (take (place + 1)) (set-joined items_of n full chunks k j old new v there h put' ∙ ap (λ p. set (flat_map items_of chunks) p v) (sym at))
      ∙ take_more_set (flat_map items_of chunks) place v (omega (arith, fits, length-joined items_of n full chunks))

  -- ---- one chunk more
  joined_more : (chunks : List C) (c : C) → flat_map items_of (chunks ++ c ∷ []) ≡ flat_map items_of chunks ++ items_of c
  joined_more chunks c = flat_map-append items_of chunks (c ∷ []) ∙ ap (λ (l : List T). flat_map items_of chunks ++ l) (append-nil (items_of c))

  -- ---- the next items, in a chunk of their own
  pub append_items : (chunks : List C) (len : ℕ) (c : C) (items : List T) → len ≡ length chunks * n → length items ≤ n → take (length items) (items_of c) ≡ items → take (len + length items) (flat_map items_of (chunks ++ c ∷ [])) ≡ take len (flat_map items_of chunks) ++ items
  append_items chunks len c items size few begins =
      let long : length (flat_map items_of chunks) ≡ len = length-joined items_of n full chunks ∙ sym size in
      let whole : take len (flat_map items_of chunks) ≡ flat_map items_of chunks = take_all len (flat_map items_of chunks) (omega (arith, long)) in
      ap (take (len + length items)) (joined_more chunks c)
      ∙ (ap (λ m. take (m + length items) (flat_map items_of chunks ++ items_of c)) (sym long)
      ∙ (take-append-add (flat_map items_of chunks) (items_of c) (length items) ∙ ap₂ (λ (xs ys : List T). xs ++ ys) (sym whole) begins))

  -- ---- one item more, in a chunk of its own
  pub push_chunk : (chunks : List C) (c : C) (len : ℕ) (v : T) → len ≡ length chunks * n → 1 ≤ n → items_of c ≡ replicate n v → take (len + 1) (flat_map items_of (chunks ++ c ∷ [])) ≡ take len (flat_map items_of chunks) ++ v ∷ []
  push_chunk chunks c len v size some is = append_items chunks len c (v ∷ []) size some (ap (take 1) is ∙ take-replicate 1 n v some)

  -- ---- the items of one chunk
  pub chunk_is : (chunks : List C) (len k : ℕ) (c : C) → len ≤ length chunks * n → k < length chunks → k * n < len → c ≡ get_or chunks k c → take (min n (len - k * n)) (items_of c) ≡ take n (drop (k * n) (take len (flat_map items_of chunks)))
  chunk_is chunks len k c fits here h is =
      let at : k * n + (len - k * n) ≡ len = omega (arith, h) in
      let there : take n (drop (k * n) (flat_map items_of chunks)) ≡ items_of c = take-joined items_of n full chunks k c here ∙ ap items_of (sym is) in
      let rest : List T = drop (k * n) (flat_map items_of chunks) in
      let cut : drop (k * n) (take len (flat_map items_of chunks)) ≡ take (len - k * n) (drop (k * n) (flat_map items_of chunks)) = ap (λ m. drop (k * n) (take m (flat_map items_of chunks))) (sym at) ∙ drop-take (k * n) (len - k * n) (flat_map items_of chunks) in
      ⊎_elim
      (λ (lt : len - k * n < n).
      let m : min n (len - k * n) ≡ len - k * n = omega (arith, lt) in
      rw (m, cut) (ap (take (len - k * n)) (sym there) ∙ (take-take (len - k * n) n (drop (k * n) (flat_map items_of chunks)) (omega (arith, lt)) ∙ sym (take_all n (take (len - k * n) (drop (k * n) (flat_map items_of chunks))) (omega (arith, lt, length-take (len - k * n) (drop (k * n) (flat_map items_of chunks))))))))
      (λ (ge : n ≤ len - k * n).
      let m : min n (len - k * n) ≡ n = omega (arith, ge) in
      rw (m, cut) (take_all n (items_of c) (omega (arith, full c)) ∙ (sym there ∙ sym (take-take n (len - k * n) (drop (k * n) (flat_map items_of chunks)) ge))))
      (cases_lt (len - k * n) n)
