-- Groups and their records.
use Rattle.std.proofs.Common.{◌≡◌, ℕ, zero, suc, ◌+◌, ◌-◌, ◌<◌, ◌≤◌, Bool, true, false, not, cond, List, [], ◌∷◌, ◌++◌, length, map, get_or, take, refl, sym, ap, ◌∙◌, arith, ltb, append_assoc}
use Rattle.std.specs.List.{flat_map, All, AllByRecursion}
use Rattle.std.proofs.lemmas.List.Elements.{All-nil, All-cons, All-head, All-tail}
use Rattle.std.proofs.lemmas.Bool.Decides.{nat_tests}
use Rattle.std.proofs.lemmas.List.{append-nil, length-append}
use Rattle.roadnet.specs.declared.commands.Command.{Command}
use Rattle.roadnet.specs.Groups.{commands_of}
use Rattle.pages.specs.declared.content.Record.{Record}
use Rattle.pages.specs.Grouping.{records_of, records_in, in_first, grouped, are_whole, ends_in}

pub length-records_of : (commands : List Command) → length (records_of commands) ≡ length commands
length-records_of [] = refl
length-records_of (c ∷ cs) = ap (λ (n : ℕ). suc n) (length-records_of cs)

pub length-records_in : (groups : List (List Command)) → length (records_in groups) ≡ length (commands_of groups)
length-records_in [] = refl
length-records_in (g ∷ gs) = omega (arith, length-append (records_of g) (records_in gs), length-append g (commands_of gs), length-records_of g, length-records_in gs)

one_commands : (cs : List Command) (gs : List (List Command)) → map (λ (r : Record). r.command) (records_in gs) ≡ commands_of gs → map (λ (r : Record). r.command) (records_of cs ++ records_in gs) ≡ cs ++ commands_of gs
one_commands [] gs rest = rest
one_commands (c ∷ cs) gs rest = ap (λ (l : List Command). c ∷ l) (one_commands cs gs rest)

pub commands_in : (groups : List (List Command)) → map (λ (r : Record). r.command) (records_in groups) ≡ commands_of groups
commands_in [] = refl
commands_in (g ∷ gs) = one_commands g gs (commands_in gs)

-- ---- groups are told by their records

one_group : (c : Command) (cs : List Command) (rest : List Record) → grouped (records_of (c ∷ cs) ++ rest) ≡ (c ∷ cs) ∷ grouped rest
one_group c [] rest = refl
one_group c (d ∷ cs) rest = ap (in_first c) (one_group d cs rest)

pub grouped_again : (groups : List (List Command)) → AllByRecursion (λ group. 1 ≤ length group) groups → grouped (records_in groups) ≡ groups
grouped_again [] some = refl
grouped_again ([] ∷ gs) some = absurd (omega (arith, some.0))
grouped_again ((c ∷ cs) ∷ gs) some = one_group c cs (records_in gs) ∙ ap (λ (l : List (List Command)). (c ∷ cs) ∷ l) (grouped_again gs some.1)

-- the last of a group's records ends it
whole_after : (cs : List Command) (rest : List Record) → are_whole rest ≡ true → are_whole (records_of cs ++ rest) ≡ true
whole_after [] rest whole = whole
whole_after (c ∷ []) [] whole = refl
whole_after (c ∷ []) (r ∷ rest) whole = whole
whole_after (c ∷ d ∷ cs) rest whole = whole_after (d ∷ cs) rest whole

pub records_whole : (groups : List (List Command)) → are_whole (records_in groups) ≡ true
records_whole [] = refl
records_whole (g ∷ gs) = whole_after g (records_in gs) (records_whole gs)

-- ---- records are told by their groups

-- a list of records, of which there is one, gives a first group, which has a command
record FirstGroup (records : List Record) : Type 0 where
  first : Command
  others : List Command
  rest : List (List Command)
  is : grouped records ≡ (first ∷ others) ∷ rest

first_after : (r : Record) (b : Bool) (gs : List (List Command)) → (c : Command) × (cs : List Command) × (rest : List (List Command)) × (cond b (in_first r.command gs) ((r.command ∷ []) ∷ gs) ≡ (c ∷ cs) ∷ rest)
first_after r true [] = (r.command, [], [], refl)
first_after r true (g ∷ gs) = (r.command, g, gs, refl)
first_after r false gs = (r.command, [], gs, refl)

first_group : (r : Record) (rs : List Record) → FirstGroup (r ∷ rs)
first_group r rs = let f = first_after r r.goes_on (grouped rs) in record { first = f.0; others = f.1; rest = f.2; is = f.3 }

record_is : (r : Record) (b : Bool) → r.goes_on ≡ b → ◌≡◌ {A = Record} (record { command = r.command; goes_on = b }) r
record_is r b e = ap (λ (x : Bool). let q : Record = record { command = r.command; goes_on = x } in q) (sym e)

put_back : (r : Record) (gs : List (List Command)) (c : Command) (cs : List Command) (rest : List (List Command)) → gs ≡ (c ∷ cs) ∷ rest → records_in (in_first r.command gs) ≡ record { command = r.command; goes_on = true } ∷ records_in gs
put_back r gs c cs rest e = rw e refl

last_again : (r : Record) (b : Bool) → r.goes_on ≡ b → not b ≡ true → records_in (cond b (in_first r.command []) ((r.command ∷ []) ∷ [])) ≡ r ∷ []
last_again r true e w = absurd cc
last_again r false e w = ap (λ (q : Record). q ∷ []) (record_is r false e)

more_again : (r s : Record) (rs : List Record) → records_in (grouped (s ∷ rs)) ≡ s ∷ rs → (b : Bool) → r.goes_on ≡ b → records_in (cond b (in_first r.command (grouped (s ∷ rs))) ((r.command ∷ []) ∷ grouped (s ∷ rs))) ≡ r ∷ s ∷ rs
more_again r s rs later true e =
    let f = first_group s rs in
    put_back r (grouped (s ∷ rs)) f.first f.others f.rest f.is ∙ ap (λ (l : List Record). let q : Record = record { command = r.command; goes_on = true } in q ∷ l) later ∙ ap (λ (q : Record). q ∷ s ∷ rs) (record_is r true e)
more_again r s rs later false e = ap (λ (l : List Record). let q : Record = record { command = r.command; goes_on = false } in q ∷ l) later ∙ ap (λ (q : Record). q ∷ s ∷ rs) (record_is r false e)

pub records_again : (records : List Record) → are_whole records ≡ true → records_in (grouped records) ≡ records
records_again [] whole = refl
records_again (r ∷ []) whole = last_again r r.goes_on refl whole
records_again (r ∷ s ∷ rs) whole = more_again r s rs (records_again (s ∷ rs) whole) r.goes_on refl

-- no group of records is empty
first_some : (c : Command) (b : Bool) (gs : List (List Command)) → AllByRecursion (λ group. 1 ≤ length group) gs → AllByRecursion (λ group. 1 ≤ length group) (cond b (in_first c gs) ((c ∷ []) ∷ gs))
first_some c true [] all = (omega arith, tt)
first_some c true (g ∷ gs) all = (omega arith, all.1)
first_some c false gs all = (omega arith, all)

pub groups_some : (records : List Record) → AllByRecursion (λ group. 1 ≤ length group) (grouped records)
groups_some [] = tt
groups_some (r ∷ rs) = first_some r.command r.goes_on (grouped rs) (groups_some rs)

-- ---- how many groups there are

last_count : (r : Record) (b : Bool) → not b ≡ true → length (cond b (in_first r.command []) ((r.command ∷ []) ∷ [])) ≡ cond b 0 1
last_count r true w = absurd cc
last_count r false w = refl

put_count : (r : Record) (gs : List (List Command)) (c : Command) (cs : List Command) (rest : List (List Command)) → gs ≡ (c ∷ cs) ∷ rest → length (in_first r.command gs) ≡ length gs
put_count r gs c cs rest e = rw e refl

more_count : (r s : Record) (rs : List Record) → length (grouped (s ∷ rs)) ≡ ends_in (s ∷ rs) → (b : Bool) → length (cond b (in_first r.command (grouped (s ∷ rs))) ((r.command ∷ []) ∷ grouped (s ∷ rs))) ≡ cond b (ends_in (s ∷ rs)) (suc (ends_in (s ∷ rs)))
more_count r s rs later true = let f = first_group s rs in put_count r (grouped (s ∷ rs)) f.first f.others f.rest f.is ∙ later
more_count r s rs later false = ap (λ (n : ℕ). suc n) later

pub count_groups : (records : List Record) → are_whole records ≡ true → length (grouped records) ≡ ends_in records
count_groups [] whole = refl
count_groups (r ∷ []) whole = last_count r r.goes_on whole
count_groups (r ∷ s ∷ rs) whole = more_count r s rs (count_groups (s ∷ rs) whole) r.goes_on

if_one : (b : Bool) → cond b 0 1 ≡ cond b 0 (0 + 1)
if_one true = refl
if_one false = refl

inside : (a b : Bool) (n : ℕ) → cond a (cond b n (n + 1)) (suc (cond b n (n + 1))) ≡ cond b (cond a n (suc n)) (cond a n (suc n) + 1)
inside true true n = refl
inside true false n = refl
inside false true n = refl
inside false false n = omega arith

test_lt : (a b : ℕ) → a < b → ltb a b ≡ true
test_lt a b h = grind (arith, nat_tests)

more_than_one : (n : ℕ) → true ≡ ltb (zero + 1) (suc (suc n))
more_than_one n = sym (test_lt (zero + 1) (suc (suc n)) (omega arith))

one_less : (i n : ℕ) → ltb (i + 1) n ≡ ltb (suc i + 1) (suc n)
one_less i n = grind (arith, nat_tests)

one_more : (rs : List Record) (i : ℕ) (d : Record) → i < length rs → ends_in (take (suc i) rs) ≡ cond (get_or rs i d).goes_on (ends_in (take i rs)) (ends_in (take i rs) + 1)
one_more [] i d lt = absurd (omega arith)
one_more (r ∷ rs) zero d lt = if_one r.goes_on
one_more (r ∷ rs) (suc i) d lt = ap (λ (n : ℕ). cond r.goes_on n (suc n)) (one_more rs i d (omega arith)) ∙ inside r.goes_on (get_or rs i d).goes_on (ends_in (take i rs))

-- one record more
pub one_more_end : (rs : List Record) (i : ℕ) (d : Record) → i < length rs → ends_in (take (i + 1) rs) ≡ cond (get_or rs i d).goes_on (ends_in (take i rs)) (ends_in (take i rs) + 1)
one_more_end rs i d lt = let e : i + 1 ≡ suc i = omega arith in ap (λ (n : ℕ). ends_in (take n rs)) e ∙ one_more rs i d lt

-- of the records of a group, the i-th
pub record_at : (cs : List Command) (i : ℕ) (d : Command) (e : Record) → i < length cs → get_or (records_of cs) i e ≡ record { command = get_or cs i d; goes_on = ltb (i + 1) (length cs) }
record_at [] i d e lt = absurd (omega arith)
record_at (c ∷ []) zero d e lt = refl
record_at (c ∷ b ∷ cs) zero d e lt = ap (λ (x : Bool). let q : Record = record { command = c; goes_on = x } in q) (more_than_one (length cs))
record_at (c ∷ cs) (suc i) d e lt = record_at cs i d e (omega arith) ∙ ap (λ (x : Bool). let q : Record = record { command = get_or cs i d; goes_on = x } in q) (one_less i (length cs))

-- ---- groups one by one

flat_next : {X Y : Type 0} (f : X → List Y) (x : X) (xs : List X) (i : ℕ) (d : X) → flat_map f (take (i + 1) xs) ≡ flat_map f (take i xs) ++ f (get_or xs i d) → flat_map f (take (suc i + 1) (x ∷ xs)) ≡ (f x ++ flat_map f (take i xs)) ++ f (get_or xs i d)
flat_next f x xs i d e =
    let k : suc i + 1 ≡ suc (i + 1) = omega arith in
    ap (λ (n : ℕ). flat_map f (take n (x ∷ xs))) k ∙ ap (λ ys. f x ++ ys) e ∙ sym (append_assoc (f x) (flat_map f (take i xs)) (f (get_or xs i d)))

pub flat_more : {X Y : Type 0} (f : X → List Y) (xs : List X) (i : ℕ) (d : X) → i < length xs → flat_map f (take (i + 1) xs) ≡ flat_map f (take i xs) ++ f (get_or xs i d)
flat_more f [] i d lt = absurd (omega arith)
flat_more f (x ∷ xs) zero d lt = append-nil (f x)
flat_more f (x ∷ xs) (suc i) d lt = flat_next f x xs i d (flat_more f xs i d (omega arith))

pub count_more : (groups : List (List Command)) (i : ℕ) (d : List Command) → i < length groups → length (commands_of (take (i + 1) groups)) ≡ length (commands_of (take i groups)) + length (get_or groups i d)
count_more groups i d lt = ap length (flat_more (λ (g : List Command). g) groups i d lt) ∙ length-append (commands_of (take i groups)) (get_or groups i d)

pub count_to : (groups : List (List Command)) (i : ℕ) → length (commands_of (take i groups)) ≤ length (commands_of groups)
count_to [] zero = omega arith
count_to [] (suc i) = omega arith
count_to (g ∷ gs) zero = omega arith
count_to (g ∷ gs) (suc i) = omega (arith, length-append g (commands_of (take i gs)), length-append g (commands_of gs), count_to gs i)

all_front : {X : Type 0} (P : X → Type 0) (xs ys : List X) → All P (xs ++ ys) → All P xs
all_front P [] ys all = All-nil P
all_front P (x ∷ xs) ys all = All-cons P x xs (All-head P x (xs ++ ys) all) (all_front P xs ys (All-tail P x (xs ++ ys) all))

all_back : {X : Type 0} (P : X → Type 0) (xs ys : List X) → All P (xs ++ ys) → All P ys
all_back P [] ys all = all
all_back P (x ∷ xs) ys all = all_back P xs ys (All-tail P x (xs ++ ys) all)

-- what holds of all commands holds of those of a group
pub all_of_group : (P : Command → Type 0) (groups : List (List Command)) (i : ℕ) (d : List Command) → i < length groups → All P (commands_of groups) → All P (get_or groups i d)
all_of_group P [] i d lt all = absurd (omega arith)
all_of_group P (g ∷ gs) zero d lt all = all_front P g (commands_of gs) all
all_of_group P (g ∷ gs) (suc i) d lt all = all_of_group P gs i d (omega arith) (all_back P g (commands_of gs) all)

-- the last record tells whether all is whole
pub whole_by_last : (rs : List Record) (d : Record) → 0 < length rs → not (get_or rs (length rs - 1) d).goes_on ≡ are_whole rs
whole_by_last [] d lt = absurd (omega arith)
whole_by_last (r ∷ []) d lt = refl
whole_by_last (r ∷ s ∷ rs) d lt =
    let k : length (r ∷ s ∷ rs) - 1 ≡ suc (length (s ∷ rs) - 1) = omega arith in
    ap (λ (n : ℕ). not (get_or (r ∷ s ∷ rs) n d).goes_on) k ∙ whole_by_last (s ∷ rs) d (omega arith)

-- the count with one record more
pub counted : (rs : List Record) (i count more : ℕ) (d : Record) (b : Bool) → i < length rs → (get_or rs i d).goes_on ≡ b → count ≡ ends_in (take i rs) → more ≡ cond b count (count + 1) → more ≡ ends_in (take (i + 1) rs)
counted rs i count more d b lt is so_far e =
    e ∙ ap (λ (n : ℕ). cond b n (n + 1)) so_far ∙ ap (λ (x : Bool). cond x (ends_in (take i rs)) (ends_in (take i rs) + 1)) (sym is) ∙ sym (one_more_end rs i d lt)
