-- How many commands groups have, and which groups a flush takes.
use Rattle.std.proofs.Common.{◌≡◌, ◌∙◌, ℕ, zero, suc, ◌+◌, ◌-◌, ◌≤◌, Bool, true, false, cond, leb, List, [], ◌∷◌, ◌++◌, length, take, drop, refl, ap, sym, arith, length-append, length-drop}
use Rattle.std.specs.List.{All}
use Rattle.std.proofs.lemmas.Bool.{leb-true, le-leb}
use Rattle.std.proofs.lemmas.List.{take-append-drop}
use Rattle.std.proofs.lemmas.List.Elements.{All-drop, All-head, All-tail}
use Rattle.std.proofs.Math.ListN.{drop_of_length-le}
use Rattle.std.proofs.Math.Seq.{drop-nil}
use Rattle.roadnet.specs.declared.groups.Group.{Group}
use Rattle.roadnet.specs.Groups.{IsGroup, commands_of, count_of}
use Rattle.roadnet.proofs.InTurn.{commands_of-cons}
use Rattle.machine.specs.Machine.{Machine, IsState, fitting, groups_behind, latest, batch, most_of_page}
use Rattle.machine.specs.Laws.{FlushTakesLongestFront, VersionsAreFewer}

abbrev pub no_groups : List Group
no_groups = []

pub count_of-cons : (g : Group) (gs : List Group) → count_of (g ∷ gs) ≡ length g + count_of gs
count_of-cons g gs = ap length (commands_of-cons g gs) ∙ length-append g (commands_of gs)

pub count_of-append : (xs ys : List Group) → count_of (xs ++ ys) ≡ count_of xs + count_of ys
count_of-append [] ys = omega arith
count_of-append (x ∷ xs) ys = omega (arith, count_of-cons x (xs ++ ys), count_of-append xs ys, count_of-cons x xs)

pub count_of-more : (xs : List Group) (g : Group) → count_of (xs ++ g ∷ []) ≡ count_of xs + length g
count_of-more xs g = omega (arith, count_of-append xs (g ∷ []), count_of-cons g [])

-- fewer groups have no more commands
pub count_behind : (n : ℕ) (gs : List Group) → count_of (drop n gs) ≤ count_of gs
count_behind n gs = omega (arith, ap count_of (sym (take-append-drop n gs)) ∙ count_of-append (take n gs) (drop n gs))

pub count_front : (n : ℕ) (gs : List Group) → count_of (take n gs) ≤ count_of gs
count_front n gs = omega (arith, ap count_of (sym (take-append-drop n gs)) ∙ count_of-append (take n gs) (drop n gs))

pub drop_both : (i n : ℕ) (gs : List Group) → drop (i + n) gs ≡ drop n (drop i gs)
drop_both zero n gs = let e : zero + n ≡ n = omega arith in ap (λ (k : ℕ). drop k gs) e
drop_both (suc i) n [] = drop-nil (suc i + n) ∙ sym (ap (drop n) (drop-nil (suc i)) ∙ drop-nil n)
drop_both (suc i) n (g ∷ gs) = let e : suc i + n ≡ suc (i + n) = omega arith in ap (λ (k : ℕ). drop k (g ∷ gs)) e ∙ drop_both i n gs

pub count_further : (i j : ℕ) (gs : List Group) → i ≤ j → count_of (drop j gs) ≤ count_of (drop i gs)
count_further i j gs le =
    let e : j ≡ i + (j - i) = omega arith in
    omega (arith, ap (λ (k : ℕ). count_of (drop k gs)) e ∙ ap count_of (drop_both i (j - i) gs), count_behind (j - i) (drop i gs))

-- nothing is behind the end
pub none_behind : (n : ℕ) (gs : List Group) → length gs ≤ n → count_of (drop n gs) ≡ 0
none_behind n gs le = ap count_of (drop_of_length-le gs le)

-- each group has a command
pub as_many : (gs : List Group) → All IsGroup gs → length gs ≤ count_of gs
as_many [] all = omega arith
as_many (g ∷ gs) all =
    let one : (1 ≤ length g) × (length g ≤ 253) = All-head IsGroup g gs all in omega (arith, count_of-cons g gs, one.0, as_many gs (All-tail IsGroup g gs all))

-- ---- the longest front
pub fitting_count : (room : ℕ) (gs : List Group) → fitting room gs ≤ length gs
fitting_count room [] = omega arith
fitting_count room (g ∷ gs) = go (leb (length g) room) (fitting_count (room - length g) gs)
  where
    go : (b : Bool) → fitting (room - length g) gs ≤ length gs → cond b (suc (fitting (room - length g) gs)) 0 ≤ suc (length gs)
    go true rest = omega (arith, rest)
    go false rest = omega arith

pub fitting_fits : (room : ℕ) (gs : List Group) → count_of (take (fitting room gs) gs) ≤ room
fitting_fits room [] = omega (arith, ap count_of (take_nil (fitting room [])))
  where
    take_nil : (n : ℕ) → take n no_groups ≡ no_groups
    take_nil zero = refl
    take_nil (suc n) = refl
fitting_fits room (g ∷ gs) = go (leb (length g) room) refl (fitting_fits (room - length g) gs)
  where
    go : (b : Bool) → leb (length g) room ≡ b → count_of (take (fitting (room - length g) gs) gs) ≤ room - length g → count_of (take (cond b (suc (fitting (room - length g) gs)) 0) (g ∷ gs)) ≤ room
    go true fits rest = omega (arith, leb-true (length g) room fits, count_of-cons g (take (fitting (room - length g) gs) gs), rest)
    go false fits rest = omega arith

pub fitting_longest : (room : ℕ) (gs : List Group) (k : ℕ) → k ≤ length gs → count_of (take k gs) ≤ room → k ≤ fitting room gs
fitting_longest room gs zero le fits = omega arith
fitting_longest room [] (suc k) le fits = absurd (omega arith)
fitting_longest room (g ∷ gs) (suc k) le fits =
    let sum : count_of (g ∷ take k gs) ≡ length g + count_of (take k gs) = count_of-cons g (take k gs) in
    let first : length g ≤ room = omega (arith, sum, fits) in
    let rest : k ≤ fitting (room - length g) gs = fitting_longest (room - length g) gs k (omega arith) (omega (arith, sum, fits)) in
    rw (le-leb (length g) room first) (omega (arith, rest))

pub fitting_some : (gs : List Group) → All IsGroup gs → 1 ≤ length gs → 1 ≤ fitting most_of_page gs
fitting_some [] all some = absurd (omega arith)
fitting_some (g ∷ gs) all some =
    let one : (1 ≤ length g) × (length g ≤ 253) = All-head IsGroup g gs all in rw (le-leb (length g) most_of_page one.1) (omega arith)

-- ---- of a state
module _ (m : Machine) (s : IsState m) where
  behind_groups : (v : ℕ) → All IsGroup (groups_behind m v)
  behind_groups v = All-drop IsGroup (v - m.base_version) m.accepted s.groups

  behind_size : (v : ℕ) → length (groups_behind m v) ≡ length m.accepted - (v - m.base_version)
  behind_size v = length-drop (v - m.base_version) m.accepted

  pub batch_count : m.durable + batch m ≤ latest m
  batch_count = omega (arith, fitting_count most_of_page (groups_behind m m.durable), behind_size m.durable, s.durable_accepted, s.base_opened, s.opened_shown, s.shown_durable)

  pub batch_some : m.durable + 1 ≤ latest m → 1 ≤ batch m
  batch_some some = fitting_some (groups_behind m m.durable) (behind_groups m.durable) (omega (arith, behind_size m.durable, some, s.base_opened, s.opened_shown, s.shown_durable))

pub flush_takes_longest_front : FlushTakesLongestFront
flush_takes_longest_front m s = (
  record {
    count = fitting_count most_of_page (groups_behind m m.durable);
    fits = fitting_fits most_of_page (groups_behind m m.durable);
    longest = λ k le fits. fitting_longest most_of_page (groups_behind m m.durable) k le fits;
  },
  λ some. batch_some m s some,
)

pub versions_are_fewer : VersionsAreFewer
versions_are_fewer m s = (
  omega (arith, as_many (groups_behind m m.durable) (behind_groups m s m.durable), behind_size m s m.durable, s.base_opened, s.opened_shown, s.shown_durable),
  omega (arith, as_many (groups_behind m m.opened) (behind_groups m s m.opened), behind_size m s m.opened, s.base_opened),
)
