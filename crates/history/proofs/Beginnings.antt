-- Beginnings of one list.
use Rattle.std.proofs.Common.{◌≡◌, ℕ, zero, suc, ◌+◌, ◌-◌, ◌<◌, ◌≤◌, leb, Bool, true, false, true≢false, List, [], ◌∷◌, ◌++◌, length, take, max, Some, refl, ap, sym, ◌∙◌, subst, arith, append_assoc, length-append}
use Rattle.std.specs.Prelude.{MatchBool, slice_get}
use Rattle.std.proofs.lemmas.Bool.{leb-true, leb-false}
use Rattle.std.proofs.lemmas.List.{append-nil}
use mathlib.Core.List.{IsPrefix}
use Rattle.history.specs.declared.entries.Entry.{Entry}
use Rattle.history.specs.declared.entries.Entry.TheVariants.{Opened, Accepted, Acknowledged, Closed}
use Rattle.history.specs.Entries.{accepted, acknowledged_number, is_endless, is_legal, IsBegun, IsDeskOpen, IsClosed, origin_of, beginning}
use Rattle.history.specs.Written.{groups_counted, with_entry}
use Rattle.history.specs.Origins.{Name, Beginning}
use Rattle.history.specs.Claims.{EndsWith, IsAcknowledgedIn}
use Rattle.machine.specs.declared.calls.Ticket.{Ticket}
use Rattle.machine.specs.Laws.{IsAt}
use Rattle.machine.proofs.Acknowledged.{nth_of_more}
use Rattle.roadnet.specs.declared.groups.Group.{Group}
use Rattle.roadnet.specs.Net.{nth}

pub prefix_self : {A : Type 0} (xs : List A) → IsPrefix xs xs
prefix_self [] = ([], refl)
prefix_self (x ∷ xs) = let r = prefix_self xs in (r.0, ap (λ ys. x ∷ ys) r.1)

pub prefix_trans : {A : Type 0} (xs ys zs : List A) → IsPrefix xs ys → IsPrefix ys zs → IsPrefix xs zs
prefix_trans xs ys zs p q = (p.0 ++ q.0, sym (append_assoc xs p.0 q.0) ∙ (ap (λ w. w ++ q.0) p.1 ∙ q.1))

-- a beginning of so many of a list
pub take_prefix : {A : Type 0} (n : ℕ) (xs : List A) → IsPrefix (take n xs) xs
take_prefix zero xs = (xs, refl)
take_prefix (suc n) [] = ([], refl)
take_prefix (suc n) (x ∷ xs) = let r = take_prefix n xs in (r.0, ap (λ ys. x ∷ ys) r.1)

-- of two beginnings of one list the shorter begins the longer
pub prefix_shorter : {A : Type 0} (xs ys zs : List A) → IsPrefix xs zs → IsPrefix ys zs → length xs ≤ length ys → IsPrefix xs ys
prefix_shorter [] ys zs p q le = (ys, refl)
prefix_shorter (x ∷ xs) [] zs p q le = absurd (omega arith)
prefix_shorter (x ∷ xs) (y ∷ ys) [] p q le = absurd (cc (p.1))
prefix_shorter (x ∷ xs) (y ∷ ys) (z ∷ zs) p q le =
    let heads : x ≡ y = cc (p.1, q.1) in
    let rest = prefix_shorter xs ys zs (p.0, cc (p.1)) (q.0, cc (q.1)) (omega arith) in
    (rest.0, cc (heads, rest.1))

-- a beginning as long as the whole is the whole
pub prefix_whole : {A : Type 0} (xs ys : List A) → IsPrefix xs ys → length ys ≤ length xs → xs ≡ ys
prefix_whole [] [] p le = refl
prefix_whole [] (y ∷ ys) p le = absurd (omega arith)
prefix_whole (x ∷ xs) [] p le = absurd (cc (p.1))
prefix_whole (x ∷ xs) (y ∷ ys) p le =
    let rest = prefix_whole xs ys (p.0, cc (p.1)) (omega arith) in cc (p.1, rest)

pub accepted_both : (xs ys : List Entry) → accepted (xs ++ ys) ≡ accepted xs ++ accepted ys
accepted_both [] ys = refl
accepted_both (Opened b ∷ xs) ys = accepted_both xs ys
accepted_both (Accepted c ∷ xs) ys = ap (λ cs. c.value ∷ cs) (accepted_both xs ys)
accepted_both (Acknowledged n ∷ xs) ys = accepted_both xs ys
accepted_both (Closed ∷ xs) ys = accepted_both xs ys

pub open_endless : (log : List Entry) → IsDeskOpen log → is_endless log ≡ true
open_endless log o = subst (λ (l : List Entry). is_endless l ≡ true) (sym o.log_is) o.endless

-- what begins with more entries has more groups
pub accepted_prefix : (xs ys : List Entry) → IsPrefix xs ys → IsPrefix (accepted xs) (accepted ys)
accepted_prefix xs ys p = (accepted p.0, sym (accepted_both xs p.0) ∙ ap accepted p.1)

pub acknowledged_both : (xs ys : List Entry) → acknowledged_number (xs ++ ys) ≡ max (acknowledged_number xs) (acknowledged_number ys)
acknowledged_both [] ys = omega arith
acknowledged_both (Opened b ∷ xs) ys = acknowledged_both xs ys
acknowledged_both (Accepted c ∷ xs) ys = acknowledged_both xs ys
acknowledged_both (Acknowledged n ∷ xs) ys = omega (arith, acknowledged_both xs ys)
acknowledged_both (Closed ∷ xs) ys = acknowledged_both xs ys

pub acknowledged_prefix : (xs ys : List Entry) → IsPrefix xs ys → acknowledged_number xs ≤ acknowledged_number ys
acknowledged_prefix xs ys p = omega (arith, acknowledged_both xs p.0, ap acknowledged_number p.1)

legal_endless : (xs : List Entry) (e : Entry) → is_endless xs ≡ true → is_legal (xs ++ e ∷ []) ≡ true
legal_endless [] (Opened b) h = refl
legal_endless [] (Accepted c) h = refl
legal_endless [] (Acknowledged n) h = refl
legal_endless [] Closed h = refl
legal_endless (Opened b ∷ xs) e h = legal_endless xs e h
legal_endless (Accepted c ∷ xs) e h = legal_endless xs e h
legal_endless (Acknowledged n ∷ xs) e h = legal_endless xs e h
legal_endless (Closed ∷ xs) e h = absurd (true≢false (sym h))

-- an entry may come behind an open log
pub legal_more : (log : List Entry) (e : Entry) → IsDeskOpen log → is_legal (log ++ e ∷ []) ≡ true
legal_more log e o = subst (λ (l : List Entry). is_legal (l ++ e ∷ []) ≡ true) (sym o.log_is) (legal_endless o.rest e o.endless)

-- nothing stands behind the end
closed_last : (xs more : List Entry) → is_endless xs ≡ true → is_legal ((xs ++ Closed ∷ []) ++ more) ≡ true → more ≡ []
closed_last [] [] h legal = refl
closed_last [] (e ∷ more) h legal = absurd (true≢false (sym legal))
closed_last (Opened b ∷ xs) more h legal = closed_last xs more h legal
closed_last (Accepted c ∷ xs) more h legal = closed_last xs more h legal
closed_last (Acknowledged n ∷ xs) more h legal = closed_last xs more h legal
closed_last (Closed ∷ xs) more h legal = absurd (true≢false (sym h))

-- a closed log is the whole of each log that it begins
pub closed_whole : (xs ys : List Entry) → IsClosed xs → IsPrefix xs ys → is_legal ys ≡ true → xs ≡ ys
closed_whole xs ys closed p legal =
    let is : xs ≡ (Opened closed.unended.base ∷ closed.unended.rest) ++ Closed ∷ [] = closed.log_is ∙ ap (λ (l : List Entry). l ++ Closed ∷ []) closed.unended.log_is in
    let none : p.0 ≡ [] = closed_last closed.unended.rest p.0 closed.unended.endless (subst (λ (l : List Entry). is_legal (l ++ p.0) ≡ true) is (subst (λ (l : List Entry). is_legal l ≡ true) (sym p.1) legal)) in
    sym (append-nil xs) ∙ (ap (λ (m : List Entry). xs ++ m) (sym none) ∙ p.1)

endless_both : (xs ys : List Entry) → is_endless xs ≡ true → is_endless ys ≡ true → is_endless (xs ++ ys) ≡ true
endless_both [] ys h k = k
endless_both (Opened b ∷ xs) ys h k = endless_both xs ys h k
endless_both (Accepted c ∷ xs) ys h k = endless_both xs ys h k
endless_both (Acknowledged n ∷ xs) ys h k = endless_both xs ys h k
endless_both (Closed ∷ xs) ys h k = absurd (true≢false (sym h))

pub open_more : (log : List Entry) (e : Entry) → is_endless (e ∷ []) ≡ true → IsDeskOpen log → IsDeskOpen (log ++ e ∷ [])
open_more log e h o =
    record { base = o.base; rest = o.rest ++ e ∷ []; log_is = ap (λ l. l ++ e ∷ []) o.log_is; endless = endless_both o.rest (e ∷ []) o.endless h }

pub closed_end : (log : List Entry) → IsDeskOpen log → IsClosed (log ++ Closed ∷ [])
closed_end log o = record { before = log; unended = o; log_is = refl }

-- a longer log is of the same desk
pub origin_more : (name : Name) (log more : List Entry) → IsDeskOpen log → origin_of name (log ++ more) ≡ origin_of name log
origin_more name log more o =
    ap (λ (l : List Entry). origin_of name (l ++ more)) o.log_is ∙ sym (ap (λ (l : List Entry). origin_of name l) o.log_is)

-- a log with an entry more
pub beginning_more : (name : Name) (log : List Entry) (e : Entry) → IsDeskOpen log → beginning name (log ++ e ∷ []) ≡ with_entry (beginning name log) e
beginning_more name log (Opened b) o =
    let origin = origin_more name log (Opened b ∷ []) o in let groups = accepted_both log (Opened b ∷ []) ∙ append-nil (accepted log) in
    let told : acknowledged_number (log ++ Opened b ∷ []) ≡ acknowledged_number log = omega (arith, acknowledged_both log (Opened b ∷ [])) in
    λ i. record { origin = origin i; groups = groups i; acknowledged = told i }
beginning_more name log (Accepted c) o =
    let origin = origin_more name log (Accepted c ∷ []) o in let groups = accepted_both log (Accepted c ∷ []) in
    let told : acknowledged_number (log ++ Accepted c ∷ []) ≡ acknowledged_number log = omega (arith, acknowledged_both log (Accepted c ∷ [])) in
    λ i. record { origin = origin i; groups = groups i; acknowledged = told i }
beginning_more name log (Acknowledged n) o =
    let origin = origin_more name log (Acknowledged n ∷ []) o in let groups = accepted_both log (Acknowledged n ∷ []) ∙ append-nil (accepted log) in
    let told : acknowledged_number (log ++ Acknowledged n ∷ []) ≡ max (acknowledged_number log) n = omega (arith, acknowledged_both log (Acknowledged n ∷ [])) in
    λ i. record { origin = origin i; groups = groups i; acknowledged = told i }
beginning_more name log Closed o =
    let origin = origin_more name log (Closed ∷ []) o in let groups = accepted_both log (Closed ∷ []) ∙ append-nil (accepted log) in
    let told : acknowledged_number (log ++ Closed ∷ []) ≡ acknowledged_number log = omega (arith, acknowledged_both log (Closed ∷ [])) in
    λ i. record { origin = origin i; groups = groups i; acknowledged = told i }

pub count_more : (log : List Entry) (e : Entry) → length (accepted (log ++ e ∷ [])) ≡ length (accepted log) + groups_counted e
count_more log (Opened b) = omega (arith, ap length (accepted_both log (Opened b ∷ [])), length-append (accepted log) [])
count_more log (Accepted c) = omega (arith, ap length (accepted_both log (Accepted c ∷ [])), length-append (accepted log) (c.value ∷ []))
count_more log (Acknowledged n) = omega (arith, ap length (accepted_both log (Acknowledged n ∷ [])), length-append (accepted log) [])
count_more log Closed = omega (arith, ap length (accepted_both log (Closed ∷ [])), length-append (accepted log) [])

take_length : {A : Type 0} (n : ℕ) (xs : List A) → n ≤ length xs → length (take n xs) ≡ n
take_length zero xs le = refl
take_length (suc n) [] le = absurd (omega arith)
take_length (suc n) (x ∷ xs) le = ap suc (take_length n xs (omega arith))

taken_prefix : (a both : List Entry) (m : ℕ) → IsPrefix a both → IsPrefix (take m (accepted a)) (accepted both)
taken_prefix a both m p = prefix_trans (take m (accepted a)) (accepted a) (accepted both) (take_prefix m (accepted a)) (accepted_prefix a both p)

-- of the groups of two beginnings of one log the fewer begin the more
pub taken_shorter : (a b both : List Entry) (m n : ℕ) → IsPrefix a both → IsPrefix b both → m ≤ n → m ≤ length (accepted a) → n ≤ length (accepted b)
    → IsPrefix (take m (accepted a)) (take n (accepted b))
taken_shorter a b both m n p q le fits fits' =
    prefix_shorter (take m (accepted a)) (take n (accepted b)) (accepted both) (taken_prefix a both m p) (taken_prefix b both n q)
    (omega (arith, take_length m (accepted a) fits, take_length n (accepted b) fits'))

pub taken_begins : (a b both : List Entry) (m : ℕ) → IsPrefix a both → IsPrefix b both → m ≤ length (accepted a) → m ≤ length (accepted b)
    → IsPrefix (take m (accepted a)) (accepted b)
taken_begins a b both m p q fits fits' =
    prefix_shorter (take m (accepted a)) (accepted b) (accepted both) (taken_prefix a both m p) (accepted_prefix b both q)
    (omega (arith, take_length m (accepted a) fits))

pub taken_in_whole : (a b both : List Entry) (m : ℕ) → IsPrefix a both → IsPrefix b both → IsClosed b → is_legal both ≡ true → IsPrefix (take m (accepted a)) (accepted b)
taken_in_whole a b both m p q closed legal =
    subst (λ (l : List Entry). IsPrefix (take m (accepted a)) (accepted l)) (sym (closed_whole b both closed q legal)) (taken_prefix a both m p)

pub acknowledged_in_whole : (a b both : List Entry) → IsPrefix a both → IsPrefix b both → IsClosed b → is_legal both ≡ true → acknowledged_number a ≤ acknowledged_number b
acknowledged_in_whole a b both p q closed legal = subst (λ (l : List Entry). acknowledged_number a ≤ acknowledged_number l) (sym (closed_whole b both closed q legal)) (acknowledged_prefix a both p)

pub taken_count : (a : List Entry) (m : ℕ) → m ≤ length (accepted a) → length (take m (accepted a)) ≡ m
taken_count a m fits = take_length m (accepted a) fits

pub match_leb : {X Y : Type 0} (m n : ℕ) (b : Bool) → leb m n ≡ b → (m ≤ n → X) → (n < m → Y) → MatchBool b X Y
match_leb m n true is below above = below (leb-true m n is)
match_leb m n false is below above = above (leb-false m n is)

-- a number that stands in a list is within it
pub nth_within : {X : Type 0} (xs : List X) (k : ℕ) (x : X) → nth xs k ≡ Some x → k ≤ length xs
nth_within xs zero x h = omega arith
nth_within [] (suc k) x h = absurd (cc (h))
nth_within (y ∷ ys) (suc zero) x h = omega arith
nth_within (y ∷ ys) (suc (suc k)) x h = let r = nth_within ys (suc k) x h in omega arith

got_in_take : {X : Type 0} (n : ℕ) (xs : List X) (j : ℕ) → j < n → slice_get (take n xs) j ≡ slice_get xs j
got_in_take zero xs j lt = absurd (omega arith)
got_in_take (suc n) [] j lt = refl
got_in_take (suc n) (x ∷ xs) zero lt = refl
got_in_take (suc n) (x ∷ xs) (suc j) lt = got_in_take n xs j (omega arith)

nth_in_take : {X : Type 0} (n : ℕ) (xs : List X) (j : ℕ) → j ≤ n → nth (take n xs) j ≡ nth xs j
nth_in_take n xs zero le = refl
nth_in_take n xs (suc j) le = got_in_take n xs j (omega arith)

-- what has its number in a list has it in each list that begins with it
pub at_more : (version : ℕ) (xs ys : List Group) (ticket : Ticket) → IsPrefix xs ys → IsAt version xs ticket → IsAt version ys ticket
at_more version xs ys ticket p h =
    (h.0, subst (λ (l : List Group). nth l (ticket.number - version) ≡ Some ticket.group) p.1 (nth_of_more xs p.0 (ticket.number - version) ticket.group h.1))

take_front : {X : Type 0} (xs more : List X) → take (length xs) (xs ++ more) ≡ xs
take_front [] more = refl
take_front (x ∷ xs) more = ap (λ l. x ∷ l) (take_front xs more)

-- what has its number in a list has it in each beginning of that which is long enough
pub at_less : (version : ℕ) (xs ys : List Group) (ticket : Ticket) → IsPrefix xs ys → ticket.number ≤ version + length xs → IsAt version ys ticket → IsAt version xs ticket
at_less version xs ys ticket p le h =
    let n = length xs in
    let front : take n ys ≡ xs = ap (take n) (sym p.1) ∙ take_front xs p.0 in
    (h.0, subst (λ (l : List Group). nth l (ticket.number - version) ≡ Some ticket.group) front (nth_in_take n ys (ticket.number - version) (omega (arith, le)) ∙ h.1))

-- the groups up to a ticket's end with its group
pub ends_there : (b : Beginning) (ticket : Ticket) → IsAt b.origin.version b.groups ticket
    → EndsWith (record b { groups = take (ticket.number - b.origin.version) b.groups }) ticket
ends_there b ticket h =
    let n = ticket.number - b.origin.version in
    let within = nth_within b.groups n ticket.group h.1 in
    record {
      at = (h.0, nth_in_take n b.groups n (omega arith) ∙ h.1);
      last = omega (arith, take_length n b.groups within, h.0);
    }

-- ---- a log that has begun
pub begun : (log : List Entry) → IsDeskOpen log → IsBegun log
begun log o = record { base = o.base; rest = o.rest; log_is = o.log_is }

pub begun_more : (a both : List Entry) → IsPrefix a both → IsBegun a → IsBegun both
begun_more a both p b = record { base = b.base; rest = b.rest ++ p.0; log_is = sym p.1 ∙ ap (λ (l : List Entry). l ++ p.0) b.log_is }

-- a longer log is of the same desk
pub origin_begun : (name other : Name) (a both : List Entry) → name ≡ other → IsPrefix a both → IsBegun a → origin_of name both ≡ origin_of other a
origin_begun name other a both same p b =
    ap (λ (n : Name). origin_of n both) same ∙ (ap (λ (l : List Entry). origin_of other l) (sym p.1)
    ∙ (ap (λ (l : List Entry). origin_of other (l ++ p.0)) b.log_is ∙ sym (ap (λ (l : List Entry). origin_of other l) b.log_is)))

-- a longer log has the groups of each that begins it
pub fits_longer : (a both : List Entry) (m : ℕ) → IsPrefix a both → m ≤ length (accepted a) → m ≤ length (accepted both)
fits_longer a both m p fits =
    let q = accepted_prefix a both p in
    omega (arith, fits, ap length q.1, length-append (accepted a) q.0)

pub taken_of_longer : (a both : List Entry) (m n : ℕ) → IsPrefix a both → m ≤ n → m ≤ length (accepted a) → n ≤ length (accepted both)
    → IsPrefix (take m (accepted a)) (take n (accepted both))
taken_of_longer a both m n p le fits fits' = taken_shorter a both both m n p (prefix_self both) le fits fits'

-- what was acknowledged in a beginning was acknowledged in each longer one
pub acknowledged_more : (front longer : Beginning) (ticket : Ticket) → longer.origin ≡ front.origin → IsPrefix front.groups longer.groups
    → front.acknowledged ≤ longer.acknowledged → IsAcknowledgedIn front ticket → IsAcknowledgedIn longer ticket
acknowledged_more front longer ticket same begins le is = record {
  at = rw same (at_more front.origin.version front.groups longer.groups ticket begins is.at);
  acknowledged = let told = is.acknowledged in omega (arith, told, le);
}
