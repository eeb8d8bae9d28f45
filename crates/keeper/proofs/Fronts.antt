-- The longest front of groups that fits a page, group by group.
use Rattle.std.proofs.Common.{◌≡◌, ◌∙◌, ℕ, suc, ◌+◌, ◌-◌, ◌<◌, ◌≤◌, Bool, true, false, cond, leb, List, length, take, drop, get_or, Result, Ok, Err, refl, ap, sym, arith, length-drop}
use Rattle.std.specs.Prelude.{IfOk, OnErr, MatchResult}
use Rattle.std.proofs.Math.ListN.{drop_of_length-le}
use Rattle.std.proofs.lemmas.Bool.{le-leb, lt-leb}
use Rattle.std.proofs.lemmas.List.{drop_more, take_all, take_more, take-append-drop}
use Rattle.roadnet.specs.declared.groups.Group.{Group}
use Rattle.roadnet.specs.Groups.{count_of}
use Rattle.machine.specs.Machine.{fitting, most_of_page}
use Rattle.machine.proofs.Counted.{count_of-append, count_of-more, drop_both}

if_first : (b : Bool) (x y : ℕ) → b ≡ true → cond b x y ≡ x
if_first true x y h = refl
if_first false x y h = cc

if_second : (b : Bool) (x y : ℕ) → b ≡ false → cond b x y ≡ y
if_second true x y h = cc
if_second false x y h = refl

module _ (groups : List Group) (i room : ℕ) (d : Group) (lt : i < length groups) where
  -- a group that fits
  pub one_fits : length (get_or groups i d) ≤ room → fitting room (drop i groups) ≡ 1 + fitting (room - length (get_or groups i d)) (drop (i + 1) groups)
  one_fits le =
      ap (fitting room) (drop_more groups i d lt)
      ∙ (if_first (leb (length (get_or groups i d)) room) (suc (fitting (room - length (get_or groups i d)) (drop (i + 1) groups))) 0 (le-leb (length (get_or groups i d)) room le) ∙ omega arith)

  -- a group that does not
  pub none_fits : room < length (get_or groups i d) → fitting room (drop i groups) ≡ 0
  none_fits over =
      ap (fitting room) (drop_more groups i d lt)
      ∙ if_second (leb (length (get_or groups i d)) room) (suc (fitting (room - length (get_or groups i d)) (drop (i + 1) groups))) 0 (lt-leb (length (get_or groups i d)) room over)

  pub one_counted : count_of (take (i + 1) groups) ≡ count_of (take i groups) + length (get_or groups i d)
  one_counted = ap count_of (take_more groups i d lt) ∙ count_of-more (take i groups) (get_or groups i d)

-- at the end
pub none_left : (groups : List Group) (i room : ℕ) → length groups ≤ i → fitting room (drop i groups) ≡ 0
none_left groups i room all = ap (fitting room) (drop_of_length-le groups all)

-- ---- what is pending behind a flush

-- the front of what a body has is that of the machine's
pub front_is : (items acc : List Group) (v o a n : ℕ) → items ≡ acc → v ≡ a → n ≡ fitting most_of_page (drop (v - o) items) → n ≡ fitting most_of_page (drop (a - o) acc)
front_is items acc v o a n same from is =
    is ∙ (ap (λ (k : ℕ). fitting most_of_page (drop (k - o) items)) from ∙ ap (λ (xs : List Group). fitting most_of_page (drop (a - o) xs)) same)

both_counted : (n : ℕ) (gs : List Group) → count_of (take n gs) + count_of (drop n gs) ≡ count_of gs
both_counted n gs = sym (count_of-append (take n gs) (drop n gs)) ∙ ap count_of (take-append-drop n gs)

-- its commands are no longer pending
pub less_pending : (items : List Group) (i n commands : ℕ) → commands ≡ count_of (take n (drop i items)) → (commands ≤ count_of (drop i items)) × (count_of (drop i items) - commands ≡ count_of (drop (i + n) items))
less_pending items i n commands is =
    let sum = both_counted n (drop i items) in
    let further = ap count_of (drop_both i n items) in (omega (arith, is, sum), omega (arith, is, sum, further))

-- the commands of the front are those of the machine's
pub taken_is : (items acc : List Group) (v o a n k commands : ℕ) → items ≡ acc → v ≡ a → n ≡ k → commands ≡ count_of (take n (drop (v - o) items)) → commands ≡ count_of (take k (drop (a - o) acc))
taken_is items acc v o a n k commands same from whole is =
    is ∙ (ap (λ (j : ℕ). count_of (take j (drop (v - o) items))) whole ∙ (ap (λ (j : ℕ). count_of (take k (drop (j - o) items))) from ∙ ap (λ (xs : List Group). count_of (take k (drop (a - o) xs))) same))

-- how many commands are pending behind a write of n groups from the durable version on, which have so many
pub pending_behind : {E : Type 0} (result : Result ℕ E) (items : List Group) (durable opened version n before now commands : ℕ)
    → MatchResult result (λ v. now ≡ before - commands) (λ e. now ≡ before) → IfOk result (λ v. (v ≡ version) × (v ≡ durable + n)) → OnErr result (version ≡ durable) → opened ≤ durable
    → before ≡ count_of (drop (durable - opened) items) → commands ≡ count_of (take n (drop (durable - opened) items)) → now ≡ count_of (drop (version - opened) items)
pending_behind (Ok v) items durable opened version n before now commands h ok err le is taken =
    let less = less_pending items (durable - opened) n commands taken in
    let place : version - opened ≡ durable - opened + n = omega (arith, ok.0, ok.1, le) in
    h ∙ (ap (λ (k : ℕ). k - commands) is ∙ (less.1 ∙ sym (ap (λ (k : ℕ). count_of (drop k items)) place)))
pending_behind (Err e) items durable opened version n before now commands h ok err le is taken =
    h ∙ (is ∙ sym (ap (λ (k : ℕ). count_of (drop (k - opened) items)) err))

-- what a body takes by `[n..]`
pub rest_is : (n : ℕ) (xs : List Group) → take (length xs - n) (drop n xs) ≡ drop n xs
rest_is n xs = take_all (length xs - n) (drop n xs) (omega (arith, length-drop n xs))
