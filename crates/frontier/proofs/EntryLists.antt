-- Lists of entries after one is added, and after one list is taken.
use Rattle.std.proofs.Common.{◌≡◌, ◌≢◌, ◌^◌, ℕ, ◌+◌, ◌-◌, ◌*◌, ◌/◌, ◌%◌, ◌<◌, ◌≤◌, ◌⊎◌, ◌++◌, List, [], ◌∷◌, length, set, get_or, Contains, Option, sum_by, refl, sym, ap, subst, ◌∙◌, inl, inr, arith, length-append, mod-lt}
use Rattle.std.specs.Option.{option_map_or}
use Rattle.std.specs.Global.{Vec}
use Rattle.std.proofs.lemmas.Bool.{cases_eq, cases_lt}
use Rattle.std.proofs.lemmas.List.Elements.{Contains-push_cases}
use Rattle.std.proofs.lemmas.List.Sums.{sum_by-set}
use Rattle.std.proofs.lemmas.Option.{slice_get-get_or, slice_get_past}
use Rattle.buckets.specs.Places.{place_bit}
use Rattle.buckets.specs.Rings.{IsBucketWithin}
use Rattle.buckets.proofs.Ringed.{slice_get-set_same, slice_get-set_other, mod_apart, mod_more, mod_round}
use Rattle.frontier.specs.Entries.{EntryLists, entries_at, entry_count, AreInPlace, AreMarked, AreSmall, IsAdded, IsInPlace, TakesFirst, TakesNext}

-- ---- lists

some_items : Option (Vec (ℕ × ℕ)) → List (ℕ × ℕ)
some_items o = option_map_or (λ (l : Vec (ℕ × ℕ)). l.items) o []

pub entries_at-set_same : (lists : EntryLists) (p : ℕ) (v : Vec (ℕ × ℕ)) → p < length lists → entries_at (set lists p v) p ≡ v.items
unfolding some_items
entries_at-set_same lists p v lt = ap some_items (slice_get-set_same lists p v lt)

pub entries_at-set_other : (lists : EntryLists) (p q : ℕ) (v : Vec (ℕ × ℕ)) → q ≢ p → entries_at (set lists p v) q ≡ entries_at lists q
unfolding some_items
entries_at-set_other lists p q v ne = ap some_items (slice_get-set_other lists p q v ne)

pub entries_at-past : (lists : EntryLists) (p : ℕ) → length lists ≤ p → entries_at lists p ≡ []
unfolding some_items
entries_at-past lists p past = ap some_items (slice_get_past lists p past)

pub entries_at-get_or : (lists : EntryLists) (p : ℕ) (d : Vec (ℕ × ℕ)) → p < length lists → entries_at lists p ≡ (get_or lists p d).items
unfolding some_items
entries_at-get_or lists p d lt = ap some_items (slice_get-get_or lists p d lt)

pub place_within : (lists : EntryLists) (p : ℕ) → 0 < length (entries_at lists p) → p < length lists
place_within lists p some = elim (cases_lt p (length lists)) as (λ _. p < length lists) [
  | inl lt ↦ lt
  | inr past ↦ absurd (let none : length (entries_at lists p) ≡ 0 = ap (λ (l : List (ℕ × ℕ)). length l) (entries_at-past lists p past) in let absurdity : ⊥ = omega arith in absurdity)
]

pub some_member : {X : Type 0} (xs : List X) (x : X) → Contains xs x → 0 < length xs
some_member xs x (k, lt, e) = omega arith

first_entry : (xs : List (ℕ × ℕ)) → 0 < length xs → (e : ℕ × ℕ) × Contains xs e
first_entry [] some = absurd (omega arith)
first_entry (x ∷ xs) some = (x, (0, omega arith, refl))

pub Contains-none : {X : Type 0} (x : X) → Contains [] x → ⊥
Contains-none x (k, lt, e) = absurd (omega arith)

-- ---- an entry is added
module _ (width last : ℕ) (old new : EntryLists) (p : ℕ) (e : ℕ × ℕ) (added : IsAdded old new p e) where
  -- it is in its list, with all that was there
  pub member_added : (q : ℕ) (f : ℕ × ℕ) → Contains (entries_at new q) f → Contains (entries_at old q) f ⊎ ((q ≡ p) × (e ≡ f))
  member_added q f c = elim (cases_eq q p) as (λ _. Contains (entries_at old q) f ⊎ ((q ≡ p) × (e ≡ f))) [
    | inl same ↦
        let there : Contains (entries_at old p ++ e ∷ []) f = subst (λ (l : List (ℕ × ℕ)). Contains l f) (ap (entries_at new) same ∙ added.here) c in
        elim (Contains-push_cases (entries_at old p) e f there) as (λ _. Contains (entries_at old q) f ⊎ ((q ≡ p) × (e ≡ f))) [
          | inl was ↦ inl (subst (λ r. Contains (entries_at old r) f) (sym same) was)
          | inr is ↦ inr (same, is)
        ]
    | inr ne ↦ inl (subst (λ (l : List (ℕ × ℕ)). Contains l f) (added.others q ne) c)
  ]

  pub AreInPlace-added : AreInPlace width last old → length new ≡ length old → IsInPlace width last (length old) p e.1 → AreInPlace width last new
  AreInPlace-added was size here q f c =
      subst (λ n. IsInPlace width last n q f.1) (sym size)
      (elim (member_added q f c) as (λ _. IsInPlace width last (length old) q f.1) [
        | inl before ↦ was q f before
        | inr is ↦ subst (λ r. IsInPlace width last (length old) r f.1) (sym is.0) (subst (λ (g : ℕ × ℕ). IsInPlace width last (length old) p g.1) is.1 here)
      ])

  pub AreMarked-added : (marks marks' : List ℕ) → AreMarked old marks → length new ≡ length old → length marks' ≡ length marks → place_bit marks' p ≡ 1 → ((k : ℕ) → k ≢ p → place_bit marks' k ≡ place_bit marks k) → AreMarked new marks'
  AreMarked-added marks marks' was size same on others = record {
    covers = omega (arith, was.covers);
    marked = λ q. elim (cases_eq q p) as (λ _. (place_bit marks' q ≡ 1 → 0 < length (entries_at new q)) × (0 < length (entries_at new q) → place_bit marks' q ≡ 1)) [
      | inl is ↦
          let long : length (entries_at new q) ≡ length (entries_at old p ++ e ∷ []) = ap (λ (l : List (ℕ × ℕ)). length l) (ap (entries_at new) is ∙ added.here) in
          (λ _. omega (arith, long, length-append (entries_at old p) (e ∷ [])), λ _. ap (place_bit marks') is ∙ on)
      | inr ne ↦
          let long : length (entries_at new q) ≡ length (entries_at old q) = ap (λ (l : List (ℕ × ℕ)). length l) (added.others q ne) in
          (λ is. omega (arith, long, (was.marked q).0 (sym (others q ne) ∙ is)), λ some. others q ne ∙ (was.marked q).1 (omega arith))
    ];
  }

-- ---- nothing was added
pub AreInPlace-same : (width last : ℕ) (old new : EntryLists) → ((p : ℕ) → entries_at new p ≡ entries_at old p) → length new ≡ length old → AreInPlace width last old → AreInPlace width last new
AreInPlace-same width last old new same size was q f c = subst (λ n. IsInPlace width last n q f.1) (sym size) (was q f (subst (λ (l : List (ℕ × ℕ)). Contains l f) (same q) c))

pub AreMarked-same : (old new : EntryLists) (marks : List ℕ) → ((p : ℕ) → entries_at new p ≡ entries_at old p) → length new ≡ length old → AreMarked old marks → AreMarked new marks
AreMarked-same old new marks same size was = record {
  covers = omega (arith, was.covers);
  marked = λ q.
      let long : length (entries_at new q) ≡ length (entries_at old q) = ap (λ (l : List (ℕ × ℕ)). length l) (same q) in
      (λ is. omega (arith, long, (was.marked q).0 is), λ some. (was.marked q).1 (omega arith));
}

pub AreInPlace-none : (width last : ℕ) (lists : EntryLists) → ((p : ℕ) → entries_at lists p ≡ []) → AreInPlace width last lists
AreInPlace-none width last lists none q f c = absurd (Contains-none f (subst (λ (l : List (ℕ × ℕ)). Contains l f) (none q) c))

pub AreMarked-none : (lists : EntryLists) (marks : List ℕ) → ((p : ℕ) → entries_at lists p ≡ []) → length lists ≤ 64 * length marks → ((k : ℕ) → place_bit marks k ≡ 0) → AreMarked lists marks
AreMarked-none lists marks none covers off = record {
  covers = covers;
  marked = λ q.
      let long : length (entries_at lists q) ≡ 0 = ap (λ (l : List (ℕ × ℕ)). length l) (none q) in
      (λ is. absurd (let absurdity : ⊥ = omega (arith, is, off q) in absurdity), λ some. absurd (let absurdity : ⊥ = omega arith in absurdity));
}

-- of the buckets of a window only one has a place
pub same_bucket : (last n a b : ℕ) → IsBucketWithin last n a → IsBucketWithin last n b → a % n ≡ b % n → a ≡ b
same_bucket last n a b at_a at_b same = elim (cases_lt a b) as (λ _. a ≡ b) [
  | inl lt ↦ absurd (mod_apart a b n lt (omega (arith, at_a.0, at_b.1)) (sym same))
  | inr le ↦ elim (cases_lt b a) as (λ _. a ≡ b) [
    | inl lt ↦ absurd (mod_apart b a n lt (omega (arith, at_b.0, at_a.1)) same)
    | inr more ↦ omega arith
  ]
]

pub AreSmall-put : (last b : ℕ) (old new : EntryLists) (e : ℕ × ℕ) → IsAdded old new (b % length old) e → length new ≡ length old → IsBucketWithin last (length old) b → b < 2 ^ 64 → AreSmall last old → AreSmall last new
AreSmall-put last b old new e added size fits small was c at some =
    let window : IsBucketWithin last (length old) c = subst (λ n. IsBucketWithin last n c) size at in
    let there : 0 < length (entries_at new (c % length old)) = subst (λ n. 0 < length (entries_at new (c % n))) size some in
    elim (cases_eq (c % length old) (b % length old)) as (λ _. c < 2 ^ 64) [
      | inl is ↦ omega (arith, small, same_bucket last (length old) c b window fits is)
      | inr ne ↦ was c window (subst (λ (l : List (ℕ × ℕ)). 0 < length l) (added.others (c % length old) ne) there)
    ]

-- ---- buckets that have entries

pub AreSmall-same : (last : ℕ) (old new : EntryLists) → ((p : ℕ) → entries_at new p ≡ entries_at old p) → length new ≡ length old → AreSmall last old → AreSmall last new
AreSmall-same last old new same size was c at some =
    let there : 0 < length (entries_at new (c % length old)) = subst (λ n. 0 < length (entries_at new (c % n))) size some in
    was c (subst (λ n. IsBucketWithin last n c) size at) (subst (λ (l : List (ℕ × ℕ)). 0 < length l) (same (c % length old)) there)

pub AreSmall-none : (last : ℕ) (lists : EntryLists) → ((p : ℕ) → entries_at lists p ≡ []) → AreSmall last lists
AreSmall-none last lists none c at some = absurd (let long : length (entries_at lists (c % length lists)) ≡ 0 = ap (λ (l : List (ℕ × ℕ)). length l) (none (c % length lists)) in let absurdity : ⊥ = omega arith in absurdity)

-- ---- a list is taken

-- the bucket of a place
record IsBucketOf (last n p : ℕ) : Type 0 where
  bucket : ℕ
  window : IsBucketWithin last n bucket
  place : bucket % n ≡ p

bucket_of : (last n p : ℕ) → p < n → IsBucketOf last n p
bucket_of last n p within =
    let less : last % n < n = mod-lt last (omega arith) in
    elim (cases_lt p (last % n)) as (λ _. IsBucketOf last n p) [
      | inl lt ↦ record { bucket = last + (n - last % n + p); window = (omega arith, omega arith); place = mod_round last (n - last % n + p) n (omega arith) (omega arith) ∙ (let back : last % n + (n - last % n + p) - n ≡ p = omega arith in back) }
      | inr le ↦ record { bucket = last + (p - last % n); window = (omega arith, omega arith); place = mod_more last (p - last % n) n (omega arith) ∙ (let back : last % n + (p - last % n) ≡ p = omega arith in back) }
    ]

pub marked_within : (lists : EntryLists) (marks : List ℕ) → AreMarked lists marks → (p : ℕ) → place_bit marks p ≡ 1 → p < length lists
marked_within lists marks full p on = place_within lists p ((full.marked p).0 on)

-- where a place is not marked its list has no entry
pub none_marked : (lists : EntryLists) (marks : List ℕ) → AreMarked lists marks → (p : ℕ) → place_bit marks p ≡ 0 → entries_at lists p ≡ []
none_marked lists marks full p off = elim (entries_at lists p) as (λ (l : List (ℕ × ℕ)). entries_at lists p ≡ l → l ≡ []) [
  | [] ↦ λ e. refl
  | e ∷ l ↦ λ is. absurd (let long : length (entries_at lists p) ≡ length (e ∷ l) = ap (λ (l : List (ℕ × ℕ)). length l) is in let on : place_bit marks p ≡ 1 = (full.marked p).1 (omega (arith, long)) in let absurdity : ⊥ = omega (arith, on, off) in absurdity)
] refl

-- some bucket of the window has an entry
record IsFound (last size : ℕ) (marks : List ℕ) : Type 0 where
  bucket : ℕ
  low : last ≤ bucket
  high : bucket < last + size
  small : bucket < 2 ^ 64
  on : place_bit marks (bucket % size) ≡ 1

-- the bucket of a place that is marked
found_small : (last : ℕ) (lists : EntryLists) (marks : List ℕ) → AreMarked lists marks → AreSmall last lists → (p : ℕ) → place_bit marks p ≡ 1 → IsFound last (length lists) marks
found_small last lists marks full small p on =
    let is = bucket_of last (length lists) p (marked_within lists marks full p on) in
    record { bucket = is.bucket; low = is.window.0; high = is.window.1; small = small is.bucket is.window (subst (λ q. 0 < length (entries_at lists q)) (sym is.place) ((full.marked p).0 on)); on = ap (place_bit marks) is.place ∙ on }

-- the bucket that is taken next, with its place
pub record IsNextBucket (last : ℕ) (lists : EntryLists) (marks : List ℕ) (b place : ℕ) : Type 0 where
  pub between : (c : ℕ) → last ≤ c → c < b → c < last + length lists → place_bit marks (c % length lists) ≡ 0
  pub near : b < last + length lists
  pub at : place ≡ b % length lists
  pub on : place_bit marks place ≡ 1

pub next_bucket : (last : ℕ) (lists : EntryLists) (marks : List ℕ) → AreMarked lists marks → AreSmall last lists → (size : ℕ) → size ≡ length lists → (p : ℕ) → place_bit marks p ≡ 1 → (b place : ℕ) → last ≤ b
    → ((c : ℕ) → last ≤ c → c < b → c < last + size → place_bit marks (c % size) ≡ 0)
    → ((c : ℕ) → last ≤ c → c < last + size → c < 2 ^ 64 → place_bit marks (c % size) ≡ 1 → place_bit marks (b % size) ≡ 1)
    → ((c : ℕ) → last ≤ c → c < last + size → c < 2 ^ 64 → place_bit marks (c % size) ≡ 1 → place ≡ b % size)
    → IsNextBucket last lists marks b place
next_bucket last lists marks full small size e p some b place far between marked at =
    let Off : ℕ → Type 0 = λ n. (c : ℕ) → last ≤ c → c < b → c < last + n → place_bit marks (c % n) ≡ 0 in
    let On : ℕ → Type 0 = λ n. (c : ℕ) → last ≤ c → c < last + n → c < 2 ^ 64 → place_bit marks (c % n) ≡ 1 → place_bit marks (b % n) ≡ 1 in
    let At : ℕ → Type 0 = λ n. (c : ℕ) → last ≤ c → c < last + n → c < 2 ^ 64 → place_bit marks (c % n) ≡ 1 → place ≡ b % n in
    let is = found_small last lists marks full small p some in
    let off : Off (length lists) = subst Off e between in
    let there : place ≡ b % length lists = subst At e at is.bucket is.low is.high is.small is.on in
    record {
      between = off;
      near = elim (cases_lt is.bucket b) as (λ _. b < last + length lists) [
        | inl lt ↦ absurd (let none : place_bit marks (is.bucket % length lists) ≡ 0 = off is.bucket is.low lt is.high in let absurdity : ⊥ = omega (arith, is.on, none) in absurdity)
        | inr le ↦ omega (arith, le, is.high)
      ];
      at = there;
      on = ap (place_bit marks) there ∙ subst On e marked is.bucket is.low is.high is.small is.on;
    }

-- ---- a list whose place is marked is emptied
module _ (lists : EntryLists) (marks : List ℕ) (full : AreMarked lists marks) (place : ℕ) (on : place_bit marks place ≡ 1) (none : Vec (ℕ × ℕ)) (is_none : none.items ≡ []) where
  pub fewer_entries : entry_count (set lists place none) < entry_count lists
  fewer_entries =
      let lt : place < length lists = marked_within lists marks full place on in
      let f : Vec (ℕ × ℕ) → ℕ = λ (l : Vec (ℕ × ℕ)). length l.items in
      let moved : sum_by f (set lists place none) + f (get_or lists place none) ≡ sum_by f lists + f none = sum_by-set f lists place none none lt in
      let zero_it : f none ≡ 0 = ap (λ (l : List (ℕ × ℕ)). length l) is_none in
      let there : length (entries_at lists place) ≡ f (get_or lists place none) = ap (λ (l : List (ℕ × ℕ)). length l) (entries_at-get_or lists place none lt) in
      let some : 0 < length (entries_at lists place) = (full.marked place).0 on in
      omega (arith, moved, zero_it, there, some)

  pub AreMarked-taken : (marks' : List ℕ) → length marks' ≡ length marks → place_bit marks' place ≡ 0 → ((k : ℕ) → k ≢ place → place_bit marks' k ≡ place_bit marks k) → length (set lists place none) ≡ length lists → AreMarked (set lists place none) marks'
  AreMarked-taken marks' same off others size = record {
    covers = omega (arith, full.covers);
    marked = λ q. elim (cases_eq q place) as (λ _. (place_bit marks' q ≡ 1 → 0 < length (entries_at (set lists place none) q)) × (0 < length (entries_at (set lists place none) q) → place_bit marks' q ≡ 1)) [
      | inl e ↦
          let long : length (entries_at (set lists place none) q) ≡ 0 = ap (λ (l : List (ℕ × ℕ)). length l) (ap (entries_at (set lists place none)) e ∙ (entries_at-set_same lists place none (marked_within lists marks full place on) ∙ is_none)) in
          let no : place_bit marks' q ≡ 0 = ap (place_bit marks') e ∙ off in
          (λ is. absurd (let absurdity : ⊥ = omega (arith, is, no) in absurdity), λ some. absurd (let absurdity : ⊥ = omega arith in absurdity))
      | inr ne ↦
          let long : length (entries_at (set lists place none) q) ≡ length (entries_at lists q) = ap (λ (l : List (ℕ × ℕ)). length l) (entries_at-set_other lists place q none ne) in
          (λ is. omega (arith, long, (full.marked q).0 (sym (others q ne) ∙ is)), λ some. others q ne ∙ (full.marked q).1 (omega arith))
    ];
  }

-- the list of the bucket that is taken next is exchanged for an empty one
pub TakesNext-exchanged : (last : ℕ) (lists : EntryLists) (marks : List ℕ) → AreMarked lists marks → (b place : ℕ) → last ≤ b → IsNextBucket last lists marks b place → (none : Vec (ℕ × ℕ)) → none.items ≡ [] → (taken : List (ℕ × ℕ)) → taken ≡ entries_at lists place → TakesNext last lists (set lists place none) b taken
TakesNext-exchanged last lists marks full b place far next none is_none taken all = record {
  some_entry = subst (λ (l : List (ℕ × ℕ)). 0 < length l) (sym all) ((full.marked place).0 next.on);
  window = (far, next.near);
  taken = all ∙ ap (entries_at lists) next.at;
  emptied = ap (entries_at (set lists place none)) (sym next.at) ∙ (entries_at-set_same lists place none (marked_within lists marks full place next.on) ∙ is_none);
  others = λ q ne. entries_at-set_other lists place q none (λ e. ne (e ∙ next.at));
  least = λ c low lt. none_marked lists marks full (c % length lists) (next.between c low lt (omega (arith, next.near)));
}

-- ---- what stays where a list was taken
module _ (last b : ℕ) (old new : EntryLists) (list : List (ℕ × ℕ)) (size : length new ≡ length old) (takes : TakesNext last old new b list) where
  -- no bucket before it has an entry
  pub least_bucket : (c : ℕ) → IsBucketWithin last (length old) c → 0 < length (entries_at old (c % length old)) → b ≤ c
  least_bucket c at some = elim (cases_lt c b) as (λ _. b ≤ c) [
    | inl lt ↦ absurd (let long : length (entries_at old (c % length old)) ≡ 0 = ap (λ (l : List (ℕ × ℕ)). length l) (takes.least c at.0 lt) in let absurdity : ⊥ = omega arith in absurdity)
    | inr le ↦ le
  ]

  -- a list that has an entry was not taken
  pub was_listed : (q : ℕ) → 0 < length (entries_at new q) → (q ≢ b % length old) × (0 < length (entries_at old q))
  was_listed q some =
      let ne : q ≢ b % length old = λ e. absurd (let long : length (entries_at new q) ≡ 0 = ap (λ (l : List (ℕ × ℕ)). length l) (ap (entries_at new) e ∙ takes.emptied) in let absurdity : ⊥ = omega arith in absurdity) in
      (ne, subst (λ (l : List (ℕ × ℕ)). 0 < length l) (takes.others q ne) some)

  -- .. and its bucket lies in both windows
  pub was_bucket : (c : ℕ) → IsBucketWithin b (length old) c → 0 < length (entries_at new (c % length old)) → IsBucketWithin last (length old) c × (0 < length (entries_at old (c % length old)))
  was_bucket c window some =
      let was = was_listed (c % length old) some in
      let is = bucket_of last (length old) (c % length old) (place_within old (c % length old) was.1) in
      let low : b ≤ is.bucket = least_bucket is.bucket is.window (subst (λ q. 0 < length (entries_at old q)) (sym is.place) was.1) in
      let same : is.bucket ≡ c = same_bucket b (length old) is.bucket c (low, omega (arith, is.window.1, takes.window.0)) window is.place in
      (subst (λ d. IsBucketWithin last (length old) d) same is.window, was.1)

  pub AreSmall-next : AreSmall last old → AreSmall b new
  AreSmall-next small c at some =
      let there : 0 < length (entries_at new (c % length old)) = subst (λ n. 0 < length (entries_at new (c % n))) size some in
      let was = was_bucket c (subst (λ n. IsBucketWithin b n c) size at) there in
      small c was.0 was.1

  module _ (width : ℕ) (within : AreInPlace width last old) where
    least_entry : (p : ℕ) (e : ℕ × ℕ) → Contains (entries_at old p) e → b ≤ e.1 / width
    least_entry p e c =
        let is = within p e c in
        least_bucket (e.1 / width) is.window (subst (λ q. 0 < length (entries_at old q)) (sym is.place) (some_member (entries_at old p) e c))

    pub TakesFirst-next : TakesFirst width old new b list
    TakesFirst-next = record {
      some_entry = takes.some_entry;
      taken = takes.taken;
      emptied = takes.emptied;
      others = takes.others;
      within = λ e c.
          let is = within (b % length old) e (subst (λ (l : List (ℕ × ℕ)). Contains l e) takes.taken c) in
          same_bucket last (length old) (e.1 / width) b is.window takes.window is.place;
      least = least_entry;
    }

    pub AreInPlace-next : AreInPlace width b new
    AreInPlace-next q e c =
        let ne : q ≢ b % length old = (was_listed q (some_member (entries_at new q) e c)).0 in
        let there : Contains (entries_at old q) e = subst (λ (l : List (ℕ × ℕ)). Contains l e) (takes.others q ne) c in
        let is = within q e there in
        subst (λ n. IsInPlace width b n q e.1) (sym size)
        (record { small = is.small; window = (least_entry q e there, omega (arith, is.window.1, takes.window.0)); place = is.place })
