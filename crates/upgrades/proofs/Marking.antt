-- Landmarks that are nodes, marked one after another.
use Rattle.std.proofs.Common.{◌≡◌, ◌∙◌, ℕ, ◌+◌, ◌-◌, ◌<◌, ◌≤◌, Bool, true, false, not, cond, eqb, ltb, List, [], ◌∷◌, ◌++◌, length, get_or, take, refl, ap, sym, arith}
use Rattle.std.specs.List.{filter, count_by, All}
use Rattle.std.specs.List.Sorted.{IsStrictlyIncreasing}
use Rattle.std.proofs.lemmas.Bool.{lt-ltb, le-ltb, ne_eqb}
use Rattle.std.proofs.lemmas.List.{append-nil, get_or-take, get_or_default, length-take, take_all}
use Rattle.std.proofs.lemmas.List.Elements.{All-filter, All-head, All-tail, filter_more}
use Rattle.std.proofs.lemmas.List.Filters.{length-filter_both}
use Rattle.std.proofs.lemmas.List.Folds.{list_any_none}
use Rattle.std.proofs.lemmas.List.Kept.{AllPairs-from_increasing}
use Rattle.std.proofs.lemmas.List.Sums.{length-filter, count_by-le-length}
use Rattle.roadnet.specs.declared.commands.Command.TheVariants.{Mark}
use Rattle.roadnet.specs.Members.{with_member}
use Rattle.roadnet.specs.Net.{Net, most_landmarks}
use Rattle.roadnet.specs.Step.{changed, is_landmark, is_node}

filter_all : (p : ℕ → Bool) (xs : List ℕ) → All (λ x. p x ≡ true) xs → filter p xs ≡ xs
filter_all p [] all = refl
filter_all p (x ∷ xs) all = rw (All-head (λ y. p y ≡ true) x xs all) (ap (λ (ys : List ℕ). x ∷ ys) (filter_all p xs (All-tail (λ y. p y ≡ true) x xs all)))

filter_none : (p : ℕ → Bool) (xs : List ℕ) → All (λ x. p x ≡ false) xs → filter p xs ≡ []
filter_none p [] all = refl
filter_none p (x ∷ xs) all = rw (All-head (λ y. p y ≡ false) x xs all) (filter_none p xs (All-tail (λ y. p y ≡ false) x xs all))

-- a number above all others is put behind them
member_last : (x : ℕ) (xs : List ℕ) → All (λ y. y < x) xs → with_member x xs ≡ xs ++ x ∷ []
member_last x xs low =
    let front : filter (λ y. ltb y x) xs ≡ xs = filter_all (λ y. ltb y x) xs (λ k d lt. lt-ltb _ _ (low k d lt)) in
    let back : filter (λ y. ltb x y) xs ≡ [] = filter_none (λ y. ltb x y) xs (λ k d lt. let less = low k d lt in le-ltb _ _ (omega (arith, less))) in
    ap (λ (ys : List ℕ). ys ++ x ∷ filter (λ y. ltb x y) xs) front ∙ ap (λ (ys : List ℕ). xs ++ x ∷ ys) back

-- the network with the first i of these landmarks marked, where they are nodes
abbrev pub so_marked : Net → List ℕ → ℕ → Net
so_marked net marks i = record net { landmarks = filter (is_node net) (take i marks) }

module _ (net : Net) (marks : List ℕ) (up : IsStrictlyIncreasing marks) (few : length marks ≤ most_landmarks) where
  pub marked_none : net.landmarks ≡ [] → net ≡ so_marked net marks 0
  marked_none bare = ap (λ (l : List ℕ). record net { landmarks = l }) bare

  module _ (i x : ℕ) (lt : i < length marks) (is : x ≡ get_or marks i 0) where
    below : All (λ y. y < x) (filter (is_node net) (take i marks))
    below = All-filter (is_node net) (λ y. y < x) (take i marks) (λ k d within.
        let early : k < i = omega (arith, within, length-take i marks) in
        let at : get_or (take i marks) k d ≡ get_or marks k 0 = get_or-take i marks k d early ∙ get_or_default marks k d 0 (omega (arith, early, lt)) in
        let less : get_or marks k 0 < get_or marks i 0 = AllPairs-from_increasing marks up k i 0 early lt in
        omega (arith, at, less, is))

    pub is_fresh : (old : Net) → old ≡ so_marked net marks i → is_landmark old x ≡ false
    is_fresh old so_far = ap (λ (n : Net). is_landmark n x) so_far ∙ list_any_none (λ y. eqb y x) (filter (is_node net) (take i marks)) (λ k d within. let less = below k d within in ne_eqb _ _ (λ e. omega (arith, less, e)))

    pub has_room : (old : Net) → old ≡ so_marked net marks i → length old.landmarks < most_landmarks
    has_room old so_far =
        let count : length old.landmarks ≡ length (filter (is_node net) (take i marks)) = ap (λ (n : Net). length n.landmarks) so_far in
        omega (arith, count, length-filter (is_node net) (take i marks), count_by-le-length (is_node net) (take i marks), length-take i marks, lt, few)

    pub marked_more : (old new : Net) → old ≡ so_marked net marks i → new ≡ cond (is_node old x) (changed old (Mark x)) old → new ≡ so_marked net marks (i + 1)
    marked_more old new so_far made =
        let more : filter (is_node net) (take (i + 1) marks) ≡ filter (is_node net) (take i marks) ++ cond (is_node net x) (x ∷ []) [] =
        filter_more (is_node net) marks i 0 lt ∙ ap (λ (y : ℕ). filter (is_node net) (take i marks) ++ cond (is_node net y) (y ∷ []) []) (sym is) in
        made ∙ (ap (λ (n : Net). cond (is_node n x) (changed n (Mark x)) n) so_far ∙ (go (is_node net x) ∙ ap (λ (l : List ℕ). record net { landmarks = l }) (sym more)))
      where
        go : (b : Bool) → cond b (changed (so_marked net marks i) (Mark x)) (so_marked net marks i) ≡ record net { landmarks = filter (is_node net) (take i marks) ++ cond b (x ∷ []) [] }
        go true = ap (λ (l : List ℕ). record net { landmarks = l }) (member_last x (filter (is_node net) (take i marks)) below)
        go false = ap (λ (l : List ℕ). record net { landmarks = l }) (sym (append-nil (filter (is_node net) (take i marks))))

  pub marked_all : (last : Net) (i : ℕ) → length marks ≤ i → last ≡ so_marked net marks i → last ≡ record net { landmarks = filter (is_node net) marks }
  marked_all last i end is = is ∙ ap (λ (l : List ℕ). record net { landmarks = filter (is_node net) l }) (take_all i marks end)

-- those that pass and those that don't
others_counted : (p : ℕ → Bool) (xs : List ℕ) → length (filter p xs) + count_by (λ x. not (p x)) xs ≡ length xs
others_counted p xs = ap (λ (n : ℕ). length (filter p xs) + n) (sym (length-filter (λ x. not (p x)) xs)) ∙ length-filter_both p (λ x. not (p x)) (λ x. refl) xs

-- how many landmarks are marked, and how many are no nodes
pub gone_counted : (net last : Net) (marks left : List ℕ) (i : ℕ) → length marks ≤ i → last ≡ so_marked net marks i → left ≡ last.landmarks → length left + count_by (λ x. not (is_node net x)) marks ≡ length marks
gone_counted net last marks left i end is told =
    let all : left ≡ filter (is_node net) marks = told ∙ (ap (λ (n : Net). n.landmarks) is ∙ ap (filter (is_node net)) (take_all i marks end)) in
    ap (λ (l : List ℕ). length l + count_by (λ x. not (is_node net x)) marks) all ∙ others_counted (is_node net) marks
