-- Entries in lists and in a bag: after a value is lowered, after a bucket is taken, and after the bag is dealt.
use Rattle.std.proofs.Common.{◌≡◌, ◌≢◌, ℕ, zero, suc, ◌+◌, ◌/◌, ◌%◌, ◌<◌, ◌≤◌, ◌⊎◌, ◌++◌, ◌||◌, min, Bool, true, false, cond, not, List, [], ◌∷◌, length, set, take, get_or, nat_cmp, Contains, Option, MatchOption, Some, None, Result, Ok, Err, OnOk, OnErr, refl, sym, ap, subst, ◌∙◌, inl, inr, arith, le_trans, div-mul-le_self}
use Rattle.std.specs.Option.{option_map_or}
use Rattle.std.specs.List.{list_any}
use Rattle.std.specs.FinMap.{get, insert, empty, get-empty}
use Rattle.std.proofs.lemmas.Bool.{cases_eq, cases_lt, or_left, or_right}
use Rattle.std.proofs.lemmas.List.{get_or-set_same, get_or-set_other}
use Rattle.std.proofs.lemmas.List.Elements.{Contains-get_or, Contains-push_cases, Contains-push, Contains-append_left}
use Rattle.std.proofs.lemmas.Option.{same_Some}
use Rattle.std.proofs.lemmas.List.{take_more, get_or_past}
use Rattle.std.proofs.lemmas.Nat.{le-div}
use Rattle.std.proofs.Math.Nat.{div-le_self}
use Rattle.relax.specs.Values.{value_at}
use Rattle.buckets.specs.Queue.{Entries, outside}
use Rattle.buckets.proofs.Tables.{same_entries, get-insert_same, get-insert_other}
use Rattle.buckets.proofs.Taken.{get_kept, value_in, empty_from_nothing}
use Rattle.frontier.specs.Entries.{EntryLists, entries_at, IsAdded}
use Rattle.frontier.specs.Frontier.{TakesAny}
use Rattle.frontier.specs.Live.{AreEntriesDealt, AreDead, AreEntriesOf, AreEntriesKept, IsBag, IsDealt, IsLeastLive, IsLeastOf, IsNowhere, all_queued, are_once, is_at_most, is_in_bag, is_live, is_queued, is_same, queued, values_of}
use Rattle.frontier.proofs.EntryLists.{Contains-none, member_added}
use Rattle.frontier.proofs.Live.{any_here, at_most_of, both, get-values_of, has_live, here_any, in_bucket, key_of, live_has, not_true, of_at_most, of_key, once-push, outside_kept, outside_left, queued_get, queued_has, rest_is, same_option, AreEntriesOf-none, AreEntriesOf-same}

-- ---- what is queued
module _ (width : ℕ) (lists : EntryLists) (bag : List (ℕ × ℕ)) where
  -- an entry that stands in the list of its bucket, or in the bag
  abbrev pub Stands : ℕ × ℕ → Type 0
  Stands e = Contains (entries_at lists ((e.1 / width) % length lists)) e ⊎ Contains bag e

  module _ (q : ℕ) where
    abbrev in_list : Option ℕ → Bool
    in_list o = option_map_or (λ x. list_any (is_same (q, x)) (entries_at lists ((x / width) % length lists))) o false

    abbrev in_bag : Option ℕ → Bool
    in_bag o = option_map_or (λ x. list_any (is_same (q, x)) bag) o false

    either : (y : ℕ) → (a b : Bool) → (a ≡ true → Contains (entries_at lists ((y / width) % length lists)) (q, y)) → (b ≡ true → Contains bag (q, y)) → (a || b) ≡ true → Stands (q, y)
    either y true b f g e = inl (f refl)
    either y false b f g e = inr (g e)

    told : (o : Option ℕ) (x : ℕ) → cond (in_list o || in_bag o) o None ≡ Some x → (o ≡ Some x) × Stands (q, x)
    told None x e = absurd (let absurdity : ⊥ = cc in absurdity)
    told (Some y) x e =
        elim (in_list (Some y) || in_bag (Some y)) as (λ b. (in_list (Some y) || in_bag (Some y)) ≡ b → cond b (Some y) None ≡ Some x → (Some y ≡ Some x) × Stands (q, x)) [
          | true ↦ λ any is. (is, subst (λ z. Stands (q, z)) (same_Some y x is) (either y (in_list (Some y)) (in_bag (Some y)) (here_any (entries_at lists ((y / width) % length lists)) (q, y)) (here_any bag (q, y)) any))
          | false ↦ λ _ wrong. absurd (let absurdity : ⊥ = cc in absurdity)
        ] refl e

  module _ (t : List (Option ℕ)) where
    get-all : (q : ℕ) → get (all_queued width lists bag t) q ≡ cond (in_list q (value_at t q) || in_bag q (value_at t q)) (value_at t q) None
    get-all q = get_kept (values_of t) (λ u. is_queued width lists t u || is_in_bag bag t u) q ∙ ap (λ o. cond (in_list q (value_at t q) || in_bag q (value_at t q)) o None) (get-values_of t q)

    pub all_has : (q x : ℕ) → get (all_queued width lists bag t) q ≡ Some x → (value_at t q ≡ Some x) × Stands (q, x)
    all_has q x e = told q (value_at t q) x (sym (get-all q) ∙ e)

    pub all_get : (q x : ℕ) → value_at t q ≡ Some x → Stands (q, x) → get (all_queued width lists bag t) q ≡ Some x
    all_get q x has stands =
        get-all q
        ∙ (ap (λ o. cond (in_list q o || in_bag q o) o None) has
        ∙ ap (λ b. cond b (Some x) None) (elim stands as (λ _. (in_list q (Some x) || in_bag q (Some x)) ≡ true) [
          | inl c ↦ or_left (in_list q (Some x)) (in_bag q (Some x)) (any_here (entries_at lists ((x / width) % length lists)) (q, x) c)
          | inr c ↦ or_right (in_list q (Some x)) (in_bag q (Some x)) (any_here bag (q, x) c)
        ]))

pub all_queued-none : (width : ℕ) (lists : EntryLists) (bag : List (ℕ × ℕ)) (t : List (Option ℕ)) → ((p : ℕ) → entries_at lists p ≡ []) → bag ≡ [] → all_queued width lists bag t ≡ empty
all_queued-none width lists bag t none bare = empty_from_nothing (all_queued width lists bag t) (λ q x e. elim (all_has width lists bag t q x e).1 as (λ _. ⊥) [
  | inl c ↦ Contains-none (q, x) (subst (λ (l : List (ℕ × ℕ)). Contains l (q, x)) (none ((x / width) % length lists)) c)
  | inr c ↦ Contains-none (q, x) (subst (λ (l : List (ℕ × ℕ)). Contains l (q, x)) bare c)
])

-- ---- an entry is dealt
module _ (t : List (Option ℕ)) (width : ℕ) (e : ℕ × ℕ) where
  pub IsDealt-listed : (old new : EntryLists) (bag : List (ℕ × ℕ)) → IsAdded old new ((e.1 / width) % length old) e → length new ≡ length old → IsDealt t width e old bag new bag
  IsDealt-listed old new bag added size = record {
    size = size;
    listed = λ p f c. elim (member_added width 0 old new ((e.1 / width) % length old) e added p f c) as (λ _. Contains (entries_at old p) f ⊎ (e ≡ f)) [
      | inl was ↦ inl was
      | inr is ↦ inr is.1
    ];
    bagged = λ f c. inl c;
    lists_stay = λ p f c. elim (cases_eq p ((e.1 / width) % length old)) as (λ _. Contains (entries_at new p) f) [
      | inl is ↦ subst (λ (l : List (ℕ × ℕ)). Contains l f) (sym (ap (entries_at new) is ∙ added.here)) (Contains-append_left (entries_at old ((e.1 / width) % length old)) (e ∷ []) f (subst (λ r. Contains (entries_at old r) f) is c))
      | inr ne ↦ subst (λ (l : List (ℕ × ℕ)). Contains l f) (sym (added.others p ne)) c
    ];
    bag_stays = λ f c. c;
    live = λ _. inl (subst (λ n. Contains (entries_at new ((e.1 / width) % n)) e) (sym size) (subst (λ (l : List (ℕ × ℕ)). Contains l e) (sym added.here) (Contains-push (entries_at old ((e.1 / width) % length old)) e)));
  }

  pub IsDealt-bagged : (lists : EntryLists) (bag bag' : List (ℕ × ℕ)) → bag' ≡ bag ++ e ∷ [] → IsDealt t width e lists bag lists bag'
  IsDealt-bagged lists bag bag' is = record {
    size = refl;
    listed = λ p f c. inl c;
    bagged = λ f c. Contains-push_cases bag e f (subst (λ (l : List (ℕ × ℕ)). Contains l f) is c);
    lists_stay = λ p f c. c;
    bag_stays = λ f c. subst (λ (l : List (ℕ × ℕ)). Contains l f) (sym is) (Contains-append_left bag (e ∷ []) f c);
    live = λ _. inr (subst (λ (l : List (ℕ × ℕ)). Contains l e) (sym is) (Contains-push bag e));
  }

  pub IsDealt-dead : (lists : EntryLists) (bag : List (ℕ × ℕ)) → is_live t e ≡ false → IsDealt t width e lists bag lists bag
  IsDealt-dead lists bag dead = record {
    size = refl;
    listed = λ p f c. inl c;
    bagged = λ f c. inl c;
    lists_stay = λ p f c. c;
    bag_stays = λ f c. c;
    live = λ live. absurd (let absurdity : ⊥ = cc in absurdity);
  }

first_of : (xs : List ℕ) → 0 < length xs → (u : ℕ) × Contains xs u
first_of [] some = absurd (omega arith)
first_of (x ∷ xs) some = (x, (0, omega arith, refl))

no_entry : (m : Entries) → m ≡ empty → (q x : ℕ) → get m q ≡ Some x → ⊥
no_entry m none q x has = let bare : None ≡ Some x = sym (ap (λ (n : Entries). get n q) none ∙ get-empty nat_cmp q) ∙ has in let absurdity : ⊥ = cc in absurdity

-- ---- all stay where they belong
module _ (t : List (Option ℕ)) (width bound : ℕ) (lists : EntryLists) (bag : List (ℕ × ℕ)) (kept : AreEntriesKept t width bound lists bag) where
  pub AreKept-same : (new : EntryLists) → ((p : ℕ) → entries_at new p ≡ entries_at lists p) → AreEntriesKept t width bound new bag
  AreKept-same new same = record {
    stand = AreEntriesOf-same t lists new same kept.stand;
    below = λ p e c. kept.below p e (subst (λ (l : List (ℕ × ℕ)). Contains l e) (same p) c);
    rest = kept.rest;
  }

  module _ (node value : ℕ) (within : node < length t) (lower : (x : ℕ) → value_at t node ≡ Some x → value < x) where
    pub at_node : (q : ℕ) → q ≡ node → value_at (set t node (Some value)) q ≡ Some value
    at_node q e = ap (value_at (set t node (Some value))) e ∙ get_or-set_same t node (Some value) None within

    pub at_other : (q : ℕ) → q ≢ node → value_at (set t node (Some value)) q ≡ value_at t q
    at_other q ne = get_or-set_other t node q (Some value) None ne

    stays_above : (e : ℕ × ℕ) → is_at_most t e ≡ true → is_at_most (set t node (Some value)) e ≡ true
    stays_above e was =
        let had = at_most_of e.1 (value_at t e.0) was in
        elim (cases_eq e.0 node) as (λ _. is_at_most (set t node (Some value)) e ≡ true) [
          | inl is ↦ of_at_most e.1 _ value (at_node e.0 is) (let less : value < had.0 = lower had.0 (ap (value_at t) (sym is) ∙ had.1) in omega (arith, less, had.2))
          | inr ne ↦ of_at_most e.1 _ had.0 (at_other e.0 ne ∙ had.1) had.2
        ]

    -- a value falls
    pub AreKept-lowered : AreEntriesKept (set t node (Some value)) width bound lists bag
    AreKept-lowered = record {
      stand = record { node = kept.stand.node; above = λ p e c. stays_above e (kept.stand.above p e c); once = kept.stand.once };
      below = kept.below;
      rest = record { node = kept.rest.node; above = λ e c. stays_above e (kept.rest.above e c); beyond = kept.rest.beyond; small = kept.rest.small; once = kept.rest.once };
    }

    not_below : is_at_most t (node, value) ≡ true → ⊥
    not_below was =
        let had = at_most_of value (value_at t node) was in
        let less : value < had.0 = lower had.0 had.1 in
        omega (arith, less, had.2)

    -- no entry has the lower value
    pub IsNowhere-lower : IsNowhere lists bag (node, value)
    IsNowhere-lower = (λ p c. not_below (kept.stand.above p (node, value) c), λ c. not_below (kept.rest.above (node, value) c))

    pub is_at_most-lowered : is_at_most (set t node (Some value)) (node, value) ≡ true
    is_at_most-lowered = of_at_most value _ value (at_node node refl) (omega arith)

    -- what is queued then
    pub all_queued-lowered : (lists' : EntryLists) (bag' : List (ℕ × ℕ)) → IsDealt (set t node (Some value)) width (node, value) lists bag lists' bag' → all_queued width lists' bag' (set t node (Some value)) ≡ insert (all_queued width lists bag t) node value
    all_queued-lowered lists' bag' dealt = same_entries _ _ (λ q. elim (cases_eq q node) as (λ _. get (all_queued width lists' bag' (set t node (Some value))) q ≡ get (insert (all_queued width lists bag t) node value) q) [
      | inl e ↦
          all_get width lists' bag' (set t node (Some value)) q value (at_node q e) (subst (λ z. Stands width lists' bag' (z, value)) (sym e) (dealt.live (has_live (set t node (Some value)) (node, value) (at_node node refl))))
          ∙ sym (get-insert_same (all_queued width lists bag t) node value q e)
      | inr ne ↦
          same_option _ _
          (λ x e.
          let had = all_has width lists' bag' (set t node (Some value)) q x e in
          all_get width lists bag t q x (sym (at_other q ne) ∙ had.0) (elim had.1 as (λ _. Stands width lists bag (q, x)) [
            | inl c ↦ elim (dealt.listed ((x / width) % length lists) (q, x) (subst (λ n. Contains (entries_at lists' ((x / width) % n)) (q, x)) dealt.size c)) as (λ _. Stands width lists bag (q, x)) [
              | inl was ↦ inl was
              | inr is ↦ absurd (ne (let same : node ≡ q = ap (λ (z : ℕ × ℕ). z.0) is in sym same))
            ]
            | inr c ↦ elim (dealt.bagged (q, x) c) as (λ _. Stands width lists bag (q, x)) [
              | inl was ↦ inr was
              | inr is ↦ absurd (ne (let same : node ≡ q = ap (λ (z : ℕ × ℕ). z.0) is in sym same))
            ]
          ]))
          (λ x e.
          let had = all_has width lists bag t q x e in
          all_get width lists' bag' (set t node (Some value)) q x (at_other q ne ∙ had.0) (elim had.1 as (λ _. Stands width lists' bag' (q, x)) [
            | inl c ↦ inl (subst (λ n. Contains (entries_at lists' ((x / width) % n)) (q, x)) (sym dealt.size) (dealt.lists_stay ((x / width) % length lists) (q, x) c))
            | inr c ↦ inr (dealt.bag_stays (q, x) c)
          ]))
          ∙ sym (get-insert_other (all_queued width lists bag t) node value q ne)
    ])

  module _ (e : ℕ × ℕ) (low : 1 ≤ e.0) (above : is_at_most t e ≡ true) (lone : IsNowhere lists bag e) where
    pub AreKept-listed : (new : EntryLists) (p : ℕ) → IsAdded lists new p e → e.1 / width < bound → AreEntriesKept t width bound new bag
    AreKept-listed new p added near = record {
      stand = record {
        node = λ q f c. elim (member_added width 0 lists new p e added q f c) as (λ _. 1 ≤ f.0) [
          | inl was ↦ kept.stand.node q f was
          | inr is ↦ subst (λ (z : ℕ × ℕ). 1 ≤ z.0) is.1 low
        ];
        above = λ q f c. elim (member_added width 0 lists new p e added q f c) as (λ _. is_at_most t f ≡ true) [
          | inl was ↦ kept.stand.above q f was
          | inr is ↦ subst (λ (z : ℕ × ℕ). is_at_most t z ≡ true) is.1 above
        ];
        once = λ q. elim (cases_eq q p) as (λ _. are_once (entries_at new q) ≡ true) [
          | inl is ↦ ap are_once (ap (entries_at new) is ∙ added.here) ∙ once-push (entries_at lists p) e (kept.stand.once p) (lone.0 p)
          | inr ne ↦ ap are_once (added.others q ne) ∙ kept.stand.once q
        ];
      };
      below = λ q f c. elim (member_added width 0 lists new p e added q f c) as (λ _. f.1 / width < bound) [
        | inl was ↦ kept.below q f was
        | inr is ↦ subst (λ (z : ℕ × ℕ). z.1 / width < bound) is.1 near
      ];
      rest = kept.rest;
    }

    pub AreKept-bagged : (bag' : List (ℕ × ℕ)) → bag' ≡ bag ++ e ∷ [] → bound ≤ e.1 / width → e.1 < 18446744073709551615 → AreEntriesKept t width bound lists bag'
    AreKept-bagged bag' is far small = record {
      stand = kept.stand;
      below = kept.below;
      rest = record {
        node = λ f c. elim (cases f c) as (λ _. 1 ≤ f.0) [ inl was ↦ kept.rest.node f was | inr same ↦ subst (λ (z : ℕ × ℕ). 1 ≤ z.0) same low ];
        above = λ f c. elim (cases f c) as (λ _. is_at_most t f ≡ true) [ inl was ↦ kept.rest.above f was | inr same ↦ subst (λ (z : ℕ × ℕ). is_at_most t z ≡ true) same above ];
        beyond = λ f c. elim (cases f c) as (λ _. bound ≤ f.1 / width) [ inl was ↦ kept.rest.beyond f was | inr same ↦ subst (λ (z : ℕ × ℕ). bound ≤ z.1 / width) same far ];
        small = λ f c. elim (cases f c) as (λ _. f.1 < 18446744073709551615) [ inl was ↦ kept.rest.small f was | inr same ↦ subst (λ (z : ℕ × ℕ). z.1 < 18446744073709551615) same small ];
        once = ap are_once is ∙ once-push bag e kept.rest.once lone.1;
      };
    }
      where
        cases : (f : ℕ × ℕ) → Contains bag' f → Contains bag f ⊎ (e ≡ f)
        cases f c = Contains-push_cases bag e f (subst (λ (l : List (ℕ × ℕ)). Contains l f) is c)

  -- a bucket of the lists is taken
  module _ (new : EntryLists) (b : ℕ) (nodes : List ℕ) (takes : TakesAny width (queued width lists t) b nodes (queued width new t)) where
    taken_below : b < bound
    taken_below =
        let u = first_of nodes takes.some_node in
        let v = value_in width b (get (queued width lists t) u.0) (of_key width b (queued width lists t) u.0 ((takes.nodes u.0).0 u.1)) in
        let had = queued_has width lists t u.0 v.0 v.1 in
        let near : v.0 / width < bound = kept.below ((v.0 / width) % length lists) (u.0, v.0) had.1 in
        subst (λ n. n < bound) v.2 near

    all_of : (q x : ℕ) → get (queued width lists t) q ≡ Some x → get (all_queued width lists bag t) q ≡ Some x
    all_of q x e = let had = queued_has width lists t q x e in all_get width lists bag t q x had.0 (inl had.1)

    -- what is in the bag is in later buckets
    of_all : (q x : ℕ) → get (all_queued width lists bag t) q ≡ Some x → (get (queued width lists t) q ≡ Some x) ⊎ (Contains bag (q, x) × (b < x / width))
    of_all q x e =
        let had = all_has width lists bag t q x e in
        elim had.1 as (λ _. (get (queued width lists t) q ≡ Some x) ⊎ (Contains bag (q, x) × (b < x / width))) [
          | inl c ↦ inl (queued_get width lists t q x had.0 c)
          | inr c ↦ inr (c, (let far : bound ≤ x / width = kept.rest.beyond (q, x) c in omega (arith, far, taken_below)))
        ]

    left : (q x : ℕ) → get (all_queued width new bag t) q ≡ Some x → (get (all_queued width lists bag t) q ≡ Some x) × (x / width ≢ b)
    left q x e =
        let had = all_has width new bag t q x e in
        elim had.1 as (λ _. (get (all_queued width lists bag t) q ≡ Some x) × (x / width ≢ b)) [
          | inl c ↦
              let out : get (outside width b (queued width lists t)) q ≡ Some x = subst (λ (m : Entries). get m q ≡ Some x) takes.rest (queued_get width new t q x had.0 c) in
              let was = outside_left width b (queued width lists t) q x out in
              (all_of q x was.0, was.1)
          | inr c ↦ (all_get width lists bag t q x had.0 (inr c), λ is. let far : bound ≤ x / width = kept.rest.beyond (q, x) c in let near : b < bound = taken_below in let absurdity : ⊥ = omega (arith, far, near, is) in absurdity)
        ]

    stays : (q x : ℕ) → get (all_queued width lists bag t) q ≡ Some x → x / width ≢ b → get (all_queued width new bag t) q ≡ Some x
    stays q x e ne =
        let has = (all_has width lists bag t q x e).0 in
        elim (of_all q x e) as (λ _. get (all_queued width new bag t) q ≡ Some x) [
          | inl near ↦
              let there : get (queued width new t) q ≡ Some x = subst (λ (m : Entries). get m q ≡ Some x) (sym takes.rest) (outside_kept width b (queued width lists t) q x near ne) in
              all_get width new bag t q x has (inl (queued_has width new t q x there).1)
          | inr far ↦ all_get width new bag t q x has (inr far.0)
        ]

    pub TakesAny-all : TakesAny width (all_queued width lists bag t) b nodes (all_queued width new bag t)
    TakesAny-all = record {
      some_node = takes.some_node;
      nodes = λ u. (
        λ c.
            let v = value_in width b (get (queued width lists t) u) (of_key width b (queued width lists t) u ((takes.nodes u).0 c)) in
            key_of width b (all_queued width lists bag t) u (in_bucket width b (all_queued width lists bag t) u v.0 (all_of u v.0 v.1) v.2),
        λ c.
            let v = value_in width b (get (all_queued width lists bag t) u) (of_key width b (all_queued width lists bag t) u c) in
            elim (of_all u v.0 v.1) as (λ _. Contains nodes u) [
              | inl near ↦ (takes.nodes u).1 (key_of width b (queued width lists t) u (in_bucket width b (queued width lists t) u v.0 near v.2))
              | inr far ↦ absurd (let late : b < v.0 / width = far.1 in let here : v.0 / width ≡ b = v.2 in let absurdity : ⊥ = omega (arith, late, here) in absurdity)
            ],
      );
      once = takes.once;
      least = λ q x e. elim (of_all q x e) as (λ _. b ≤ x / width) [
        | inl near ↦ takes.least q x near
        | inr far ↦ let late : b < x / width = far.1 in omega (arith, late)
      ];
      rest = rest_is width b (all_queued width lists bag t) (all_queued width new bag t) left stays;
    }

-- ---- the bag is dealt

pub AreDealt-none : (t : List (Option ℕ)) (width : ℕ) (entries : List (ℕ × ℕ)) (lists : EntryLists) (bag : List (ℕ × ℕ)) → ((p : ℕ) → entries_at lists p ≡ []) → bag ≡ [] → AreEntriesDealt t width entries 0 lists bag
AreDealt-none t width entries lists bag none bare = record {
  listed = λ p e c. absurd (Contains-none e (subst (λ (l : List (ℕ × ℕ)). Contains l e) (none p) c));
  bagged = λ e c. absurd (Contains-none e (subst (λ (l : List (ℕ × ℕ)). Contains l e) bare c));
  each = λ e c. absurd (Contains-none e c);
}

pub IsBag-none : (t : List (Option ℕ)) (width bound : ℕ) (bag : List (ℕ × ℕ)) → bag ≡ [] → IsBag t width bound bag
IsBag-none t width bound bag bare = record {
  node = λ e c. absurd (Contains-none e (subst (λ (l : List (ℕ × ℕ)). Contains l e) bare c));
  above = λ e c. absurd (Contains-none e (subst (λ (l : List (ℕ × ℕ)). Contains l e) bare c));
  beyond = λ e c. absurd (Contains-none e (subst (λ (l : List (ℕ × ℕ)). Contains l e) bare c));
  small = λ e c. absurd (Contains-none e (subst (λ (l : List (ℕ × ℕ)). Contains l e) bare c));
  once = ap are_once bare;
}

pub AreKept-none : (t : List (Option ℕ)) (width bound : ℕ) (lists : EntryLists) (bag : List (ℕ × ℕ)) → ((p : ℕ) → entries_at lists p ≡ []) → bag ≡ [] → AreEntriesKept t width bound lists bag
AreKept-none t width bound lists bag none bare = record {
  stand = AreEntriesOf-none t lists none;
  below = λ p e c. absurd (Contains-none e (subst (λ (l : List (ℕ × ℕ)). Contains l e) (none p) c));
  rest = IsBag-none t width bound bag bare;
}

-- the lists reach farther, where nothing is in the bag
pub AreKept-slid : (t : List (Option ℕ)) (width bound bound' : ℕ) (lists : EntryLists) (bag : List (ℕ × ℕ)) → AreEntriesKept t width bound lists bag → bag ≡ [] → bound ≤ bound' → AreEntriesKept t width bound' lists bag
AreKept-slid t width bound bound' lists bag kept bare more = record {
  stand = kept.stand;
  below = λ p e c. let was : e.1 / width < bound = kept.below p e c in omega (arith, was);
  rest = IsBag-none t width bound' bag bare;
}

-- a bag is emptied of what is not live
pub AreKept-cleared : (t : List (Option ℕ)) (width bound : ℕ) (lists : EntryLists) (bag bag' : List (ℕ × ℕ)) → AreEntriesKept t width bound lists bag → bag' ≡ [] → AreEntriesKept t width bound lists bag'
AreKept-cleared t width bound lists bag bag' kept bare = record { stand = kept.stand; below = kept.below; rest = IsBag-none t width bound bag' bare }

-- entries of some lists are taken out of them
pub AreKept-fewer : (t : List (Option ℕ)) (width bound : ℕ) (lists new : EntryLists) (bag : List (ℕ × ℕ)) → AreEntriesKept t width bound lists bag → AreEntriesOf t new → ((p : ℕ) (e : ℕ × ℕ) → Contains (entries_at new p) e → Contains (entries_at lists p) e) → AreEntriesKept t width bound new bag
AreKept-fewer t width bound lists new bag kept stand fewer = record { stand = stand; below = λ p e c. kept.below p e (fewer p e c); rest = kept.rest }

-- ---- the least live entry
pub IsLeastLive-step : (t : List (Option ℕ)) (xs : List (ℕ × ℕ)) (e : ℕ × ℕ) (least : ℕ) → IsLeastLive t xs least → (is_live t e ≡ true → least ≤ e.1) → IsLeastLive t (xs ++ e ∷ []) least
IsLeastLive-step t xs e least is no_less = record {
  node = is.node;
  member = Contains-append_left xs (e ∷ []) (is.node, least) is.member;
  live = is.live;
  lowest = λ f c live. elim (Contains-push_cases xs e f c) as (λ _. least ≤ f.1) [
    | inl was ↦ is.lowest f was live
    | inr same ↦ subst (λ (z : ℕ × ℕ). least ≤ z.1) same (no_less (subst (λ (z : ℕ × ℕ). is_live t z ≡ true) (sym same) live))
  ];
}

pub IsLeastLive-new : (t : List (Option ℕ)) (xs : List (ℕ × ℕ)) (e : ℕ × ℕ) → is_live t e ≡ true → ((f : ℕ × ℕ) → Contains xs f → is_live t f ≡ true → e.1 ≤ f.1) → IsLeastLive t (xs ++ e ∷ []) e.1
IsLeastLive-new t xs e live lowest = record {
  node = e.0;
  member = Contains-push xs e;
  live = live;
  lowest = λ f c here. elim (Contains-push_cases xs e f c) as (λ _. e.1 ≤ f.1) [
    | inl was ↦ lowest f was here
    | inr same ↦ subst (λ (z : ℕ × ℕ). e.1 ≤ z.1) same (omega arith)
  ];
}

pub AreDead-step : (t : List (Option ℕ)) (xs : List (ℕ × ℕ)) (e : ℕ × ℕ) → AreDead t xs → is_live t e ≡ false → AreDead t (xs ++ e ∷ [])
AreDead-step t xs e dead bare f c = elim (Contains-push_cases xs e f c) as (λ _. is_live t f ≡ false) [
  | inl was ↦ dead f was
  | inr same ↦ subst (λ (z : ℕ × ℕ). is_live t z ≡ false) same bare
]

pub IsLeastLive-min : (t : List (Option ℕ)) (xs : List (ℕ × ℕ)) (e : ℕ × ℕ) (old m : ℕ) → is_live t e ≡ true → IsLeastLive t xs old → m ≡ min old e.1 → IsLeastLive t (xs ++ e ∷ []) m
IsLeastLive-min t xs e old m live was is = elim (cases_lt e.1 old) as (λ _. IsLeastLive t (xs ++ e ∷ []) m) [
  | inl lt ↦ subst (λ (n : ℕ). IsLeastLive t (xs ++ e ∷ []) n) (let same : e.1 ≡ m = omega (arith, is, lt) in same) (IsLeastLive-new t xs e live (λ f c here. let low : old ≤ f.1 = was.lowest f c here in omega (arith, low, lt)))
  | inr le ↦ subst (λ (n : ℕ). IsLeastLive t (xs ++ e ∷ []) n) (let same : old ≡ m = omega (arith, is, le) in same) (IsLeastLive-step t xs e old was (λ _. le))
]

pub IsLeastLive-first : (t : List (Option ℕ)) (xs : List (ℕ × ℕ)) (e : ℕ × ℕ) → is_live t e ≡ true → AreDead t xs → IsLeastLive t (xs ++ e ∷ []) e.1
IsLeastLive-first t xs e live dead = IsLeastLive-new t xs e live (λ f c here. absurd (let off : is_live t f ≡ false = dead f c in let absurdity : ⊥ = cc in absurdity))

pub IsLeastOf-dead : (t : List (Option ℕ)) (xs : List (ℕ × ℕ)) (e : ℕ × ℕ) (least : Option ℕ) → is_live t e ≡ false → IsLeastOf t xs least → IsLeastOf t (xs ++ e ∷ []) least
IsLeastOf-dead t xs e None off dead = AreDead-step t xs e dead off
IsLeastOf-dead t xs e (Some least) off was = IsLeastLive-step t xs e least was (λ live. absurd (let absurdity : ⊥ = cc in absurdity))

once_apart : (xs : List (ℕ × ℕ)) (k : ℕ) (d : ℕ × ℕ) → are_once xs ≡ true → k < length xs → Contains (take k xs) (get_or xs k d) → ⊥
once_apart [] k d once lt c = omega arith
once_apart (x ∷ xs) zero d once lt c = Contains-none x c
once_apart (x ∷ xs) (suc k) d once lt (zero, within, e) =
    let parts = both (not (list_any (is_same x) xs)) (are_once xs) once in
    let here : Contains xs x = subst (λ (z : ℕ × ℕ). Contains xs z) (sym e) (Contains-get_or xs k d (omega arith)) in
    let yes : list_any (is_same x) xs ≡ true = any_here xs x here in
    let off : list_any (is_same x) xs ≡ false = not_true (list_any (is_same x) xs) parts.0 in
    let absurdity : ⊥ = cc in absurdity
once_apart (x ∷ xs) (suc k) d once lt (suc j, within, e) =
    let parts = both (not (list_any (is_same x) xs)) (are_once xs) once in
    once_apart xs k d parts.1 (omega arith) (j, omega arith, e)

module _ (t : List (Option ℕ)) (width : ℕ) (entries : List (ℕ × ℕ)) (k : ℕ) (lists : EntryLists) (bag : List (ℕ × ℕ)) (dealt : AreEntriesDealt t width entries k lists bag) where
  -- the next entry stands nowhere yet
  pub IsNowhere-next : (d : ℕ × ℕ) → are_once entries ≡ true → k < length entries → IsNowhere lists bag (get_or entries k d)
  IsNowhere-next d once lt = (λ p c. once_apart entries k d once lt (dealt.listed p (get_or entries k d) c), λ c. once_apart entries k d once lt (dealt.bagged (get_or entries k d) c))

  pub AreDealt-step : (d : ℕ × ℕ) (lists' : EntryLists) (bag' : List (ℕ × ℕ)) → k < length entries → IsDealt t width (get_or entries k d) lists bag lists' bag' → AreEntriesDealt t width entries (k + 1) lists' bag'
  AreDealt-step d lists' bag' lt one = record {
    listed = λ p e c. elim (one.listed p e c) as (λ _. Contains (take (k + 1) entries) e) [
      | inl was ↦ before e (dealt.listed p e was)
      | inr is ↦ last e is
    ];
    bagged = λ e c. elim (one.bagged e c) as (λ _. Contains (take (k + 1) entries) e) [
      | inl was ↦ before e (dealt.bagged e was)
      | inr is ↦ last e is
    ];
    each = λ e c live. elim (Contains-push_cases (take k entries) (get_or entries k d) e (subst (λ (l : List (ℕ × ℕ)). Contains l e) more c)) as (λ _. Stands width lists' bag' e) [
      | inl was ↦ elim (dealt.each e was live) as (λ _. Stands width lists' bag' e) [
        | inl there ↦ inl (subst (λ n. Contains (entries_at lists' ((e.1 / width) % n)) e) (sym one.size) (one.lists_stay ((e.1 / width) % length lists) e there))
        | inr there ↦ inr (one.bag_stays e there)
      ]
      | inr is ↦ subst (λ (z : ℕ × ℕ). Stands width lists' bag' z) is (one.live (subst (λ (z : ℕ × ℕ). is_live t z ≡ true) (sym is) live))
    ];
  }
    where
      more : take (k + 1) entries ≡ take k entries ++ get_or entries k d ∷ []
      more = take_more entries k d lt

      before : (e : ℕ × ℕ) → Contains (take k entries) e → Contains (take (k + 1) entries) e
      before e c = subst (λ (l : List (ℕ × ℕ)). Contains l e) (sym more) (Contains-append_left (take k entries) (get_or entries k d ∷ []) e c)

      last : (e : ℕ × ℕ) → get_or entries k d ≡ e → Contains (take (k + 1) entries) e
      last e is = subst (λ (l : List (ℕ × ℕ)). Contains l e) (sym more) (subst (λ (z : ℕ × ℕ). Contains (take k entries ++ get_or entries k d ∷ []) z) is (Contains-push (take k entries) (get_or entries k d)))

take_whole : (xs : List (ℕ × ℕ)) → take (length xs) xs ≡ xs
take_whole [] = refl
take_whole (x ∷ xs) = ap (λ (l : List (ℕ × ℕ)). x ∷ l) (take_whole xs)

-- all of a bag is dealt: what is queued stays so
module _ (t : List (Option ℕ)) (width : ℕ) (old lists : EntryLists) (entries bag : List (ℕ × ℕ)) (none : queued width old t ≡ empty) (dealt : AreEntriesDealt t width entries (length entries) lists bag) where
  whole : take (length entries) entries ≡ entries
  whole = take_whole entries

  pub all_queued-dealt : all_queued width lists bag t ≡ all_queued width old entries t
  all_queued-dealt = same_entries _ _ (λ q. same_option _ _
      (λ x e.
      let had = all_has width lists bag t q x e in
      all_get width old entries t q x had.0 (inr (subst (λ (l : List (ℕ × ℕ)). Contains l (q, x)) whole (elim had.1 as (λ _. Contains (take (length entries) entries) (q, x)) [
        | inl c ↦ dealt.listed ((x / width) % length lists) (q, x) c
        | inr c ↦ dealt.bagged (q, x) c
      ]))))
      (λ x e.
      let had = all_has width old entries t q x e in
      all_get width lists bag t q x had.0 (elim had.1 as (λ _. Stands width lists bag (q, x)) [
        | inl c ↦ absurd (no_entry (queued width old t) none q x (queued_get width old t q x had.0 c))
        | inr c ↦ dealt.each (q, x) (subst (λ (l : List (ℕ × ℕ)). Contains l (q, x)) (sym whole) c) (has_live t (q, x) had.0)
      ])))

  -- the least entry stands in its list, which is below the bound
  pub queued-least : (bound least : ℕ) → AreEntriesKept t width bound lists bag → IsLeastLive t entries least → least / width < bound → queued width lists t ≡ empty → ⊥
  queued-least bound least kept is near over =
      elim (dealt.each (is.node, least) (subst (λ (l : List (ℕ × ℕ)). Contains l (is.node, least)) (sym whole) is.member) is.live) as (λ _. ⊥) [
        | inl c ↦ no_entry (queued width lists t) over is.node least (queued_get width lists t is.node least (live_has t (is.node, least) is.live) c)
        | inr c ↦ let far : bound ≤ least / width = kept.rest.beyond (is.node, least) c in let absurdity : ⊥ = omega (arith, far, near) in absurdity
      ]

-- nothing of a bag is live
pub all_queued-dead : (t : List (Option ℕ)) (width : ℕ) (lists : EntryLists) (bag : List (ℕ × ℕ)) → queued width lists t ≡ empty → AreDead t bag → all_queued width lists bag t ≡ empty
all_queued-dead t width lists bag none dead = empty_from_nothing (all_queued width lists bag t) (λ q x e.
    let had = all_has width lists bag t q x e in
    elim had.1 as (λ _. ⊥) [
      | inl c ↦ no_entry (queued width lists t) none q x (queued_get width lists t q x had.0 c)
      | inr c ↦ let bare : is_live t (q, x) ≡ false = dead (q, x) c in let yes : is_live t (q, x) ≡ true = has_live t (q, x) had.0 in let absurdity : ⊥ = cc in absurdity
    ])

pub all_queued-empty : (t : List (Option ℕ)) (width : ℕ) (lists : EntryLists) (bag : List (ℕ × ℕ)) → queued width lists t ≡ empty → bag ≡ [] → all_queued width lists bag t ≡ empty
all_queued-empty t width lists bag none bare = all_queued-dead t width lists bag none (λ e c. absurd (Contains-none e (subst (λ (l : List (ℕ × ℕ)). Contains l e) bare c)))

-- what is queued in the lists decides, beside the bag
pub all_queued-same : (t : List (Option ℕ)) (width : ℕ) (lists new : EntryLists) (bag : List (ℕ × ℕ)) → queued width new t ≡ queued width lists t → all_queued width new bag t ≡ all_queued width lists bag t
all_queued-same t width lists new bag same = same_entries _ _ (λ q. same_option _ _
    (λ x e.
    let had = all_has width new bag t q x e in
    all_get width lists bag t q x had.0 (elim had.1 as (λ _. Stands width lists bag (q, x)) [
      | inl c ↦ inl (queued_has width lists t q x (subst (λ (m : Entries). get m q ≡ Some x) same (queued_get width new t q x had.0 c))).1
      | inr c ↦ inr c
    ]))
    (λ x e.
    let had = all_has width lists bag t q x e in
    all_get width new bag t q x had.0 (elim had.1 as (λ _. Stands width new bag (q, x)) [
      | inl c ↦ inl (queued_has width new t q x (subst (λ (m : Entries). get m q ≡ Some x) (sym same) (queued_get width lists t q x had.0 c))).1
      | inr c ↦ inr c
    ])))

-- ---- results

pub on_result : {T E : Type 0} (r : Result T E) (P Q G : Type 0) → OnOk r P → OnErr r Q → (P → G) → (Q → G) → G
on_result (Ok x) P Q G p q f g = f p
on_result (Err e) P Q G p q f g = g q

pub OnOk-map : {T E : Type 0} (r : Result T E) (P Q : Type 0) → OnOk r P → (P → Q) → OnOk r Q
OnOk-map (Ok x) P Q p f = f p
OnOk-map (Err e) P Q p f = tt

pub none_long : (xs : List (ℕ × ℕ)) → length xs ≡ 0 → xs ≡ []
none_long [] e = refl
none_long (x ∷ xs) e = absurd (let absurdity : ⊥ = omega (arith, e) in absurdity)

-- ---- a bag's entries
pub value_within : (t : List (Option ℕ)) (u x : ℕ) → value_at t u ≡ Some x → u < length t
value_within t u x has = elim (cases_lt u (length t)) as (λ _. u < length t) [
  | inl lt ↦ lt
  | inr past ↦ absurd (let none : None ≡ Some x = sym (get_or_past t u None past) ∙ has in let absurdity : ⊥ = cc in absurdity)
]

pub bag_nodes : (t : List (Option ℕ)) (width bound : ℕ) (bag : List (ℕ × ℕ)) → IsBag t width bound bag → (e : ℕ × ℕ) → Contains bag e → (1 ≤ e.0) × (e.0 < length t)
bag_nodes t width bound bag is e c =
    let had = at_most_of e.1 (value_at t e.0) (is.above e c) in
    (is.node e c, value_within t e.0 had.0 had.1)

pub least_from : (t : List (Option ℕ)) (width least : ℕ) (bag : List (ℕ × ℕ)) → 1 ≤ width → IsLeastLive t bag least → (e : ℕ × ℕ) → Contains bag e → is_live t e ≡ true → least / width ≤ e.1 / width
least_from t width least bag positive is e c live = le-div (least / width) e.1 width positive (le_trans (div-mul-le_self least width) (is.lowest e c live))

-- the bucket of the least entry is below where the lists reach
pub least_below : (t : List (Option ℕ)) (width bound least size reach : ℕ) (bag : List (ℕ × ℕ)) → IsBag t width bound bag → IsLeastLive t bag least → 1 ≤ size → reach ≡ min (least / width + size) 18446744073709551615 → least / width < reach
least_below t width bound least size reach bag is_bag is some to =
    let small : least < 18446744073709551615 = is_bag.small (is.node, least) is.member in
    let less : least / width ≤ least = div-le_self least width in
    omega (arith, small, less, to, some)

pub is_at_most-live : (t : List (Option ℕ)) (e : ℕ × ℕ) → is_live t e ≡ true → is_at_most t e ≡ true
is_at_most-live t e live = of_at_most e.1 (value_at t e.0) e.1 (live_has t e live) (omega arith)

-- ---- a taking from the lists is one from all
pub TakesAny-near : (t t' : List (Option ℕ)) (width width' bound : ℕ) (lists new : EntryLists) (bag bag' : List (ℕ × ℕ)) → AreEntriesKept t width bound lists bag → (b : ℕ) (nodes : List ℕ) → width' ≡ width → t' ≡ t → bag' ≡ bag → TakesAny width (queued width lists t) b nodes (queued width' new t') → TakesAny width (all_queued width lists bag t) b nodes (all_queued width' new bag' t')
TakesAny-near t t' width width' bound lists new bag bag' kept b nodes same_width same_t same_bag takes =
    let near : TakesAny width (queued width lists t) b nodes (queued width new t) = subst (λ (w : ℕ). TakesAny width (queued width lists t) b nodes (queued w new t)) same_width (subst (λ (v : List (Option ℕ)). TakesAny width (queued width lists t) b nodes (queued width' new v)) same_t takes) in
    rw (same_width, same_t, same_bag) (TakesAny-all t width bound lists bag kept new b nodes near)

pub all_queued-near : (t t' : List (Option ℕ)) (width width' : ℕ) (lists new : EntryLists) (bag bag' : List (ℕ × ℕ)) → width' ≡ width → t' ≡ t → bag' ≡ bag → queued width' new t' ≡ queued width lists t → all_queued width' new bag' t' ≡ all_queued width lists bag t
all_queued-near t t' width width' lists new bag bag' same_width same_t same_bag same =
    let near : queued width new t ≡ queued width lists t = subst (λ (w : ℕ). queued w new t ≡ queued width lists t) same_width (subst (λ (v : List (Option ℕ)). queued width' new v ≡ queued width lists t) same_t same) in
    rw (same_width, same_t, same_bag) (all_queued-same t width lists new bag near)

pub matched_some : (o : Option ℕ) (b : ℕ) (P : Type 0) (Q : ℕ → Type 0) → o ≡ Some b → MatchOption o P Q → Q b
matched_some o b P Q is m = subst (λ (z : Option ℕ). MatchOption z P Q) is m

pub matched_none : (o : Option ℕ) (P : Type 0) (Q : ℕ → Type 0) → o ≡ None → MatchOption o P Q → P
matched_none o P Q is m = subst (λ (z : Option ℕ). MatchOption z P Q) is m
