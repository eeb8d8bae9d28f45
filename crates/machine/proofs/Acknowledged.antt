-- Acknowledged groups and answers stay right through each run.
use Rattle.std.proofs.Common.{◌≡◌, ⊎_elim, ℕ, suc, zero, ◌+◌, ◌-◌, ◌<◌, ◌≤◌, min, Bool, true, false, cond, leb, List, [], ◌∷◌, ◌++◌, length, take, Some, None, Ok, Err, Result, refl, sym, ◌∙◌, ap, subst, arith, length-take}
use Rattle.std.specs.Prelude.{slice_get, filter, nat_le, nat_lt}
use Rattle.std.specs.List.{AllByRecursion}
use Rattle.std.proofs.lemmas.Bool.{leb-true}
use Rattle.std.proofs.lemmas.List.{take-take}
use Rattle.std.proofs.Math.Seq.{take-append_seam}
use Rattle.roadnet.specs.declared.groups.Group.{Group}
use Rattle.roadnet.specs.declared.refusals.Refusal.{Refusal}
use Rattle.roadnet.specs.declared.refusals.Refusal.TheVariants.{Broken, NotYet}
use Rattle.roadnet.specs.Net.{Net, nth}
use Rattle.roadnet.specs.Step.{after}
use Rattle.machine.specs.declared.calls.Ticket.{Ticket}
use Rattle.machine.specs.declared.calls.Receipt.{Receipt}
use Rattle.rows.specs.declared.queries.Query.{Query}
use Rattle.machine.specs.declared.calls.Answer.{Answer}
use Rattle.machine.specs.Machine.{Machine, IsState, start, batch, latest, groups_to}
use Rattle.machine.specs.Calls.{Asks, failed, with_group, with_batch, has_nothing_unchecked, checkpoint_of, with_pages_written, with_part, is_out, without_task, with_shown, reopened, IsLeft, StopsAndOpens, IsTicketOf}
use Rattle.machine.specs.Runs.{Happened, Step, Run, held_after, acknowledged_by, acknowledged}
use Rattle.machine.specs.Runs.Happened.{Submitted, Flushed, Checkpointed, TookTask, GaveUp, Published, Asked, Received, Stopped}
use Rattle.machine.specs.Laws.{IsLater, IsAt, IsRightAfter, AcknowledgedStay, AnswersStayRight}
use Rattle.machine.proofs.Kept.{started, states_kept, left_between}
use Rattle.machine.proofs.Later.{still, later_by_step, later_by_run, run_split, later_still}

got_from_front : {X : Type 0} (n : ℕ) (xs : List X) (i : ℕ) (x : X) → slice_get (take n xs) i ≡ Some x → slice_get xs i ≡ Some x
got_from_front zero xs i x h = cc
got_from_front (suc n) [] i x h = h
got_from_front (suc n) (y ∷ ys) zero x h = h
got_from_front (suc n) (y ∷ ys) (suc i) x h = got_from_front n ys i x h

got_in_front : {X : Type 0} (n : ℕ) (xs : List X) (i : ℕ) → i < n → slice_get (take n xs) i ≡ slice_get xs i
got_in_front zero xs i lt = absurd (omega arith)
got_in_front (suc n) [] i lt = refl
got_in_front (suc n) (y ∷ ys) zero lt = refl
got_in_front (suc n) (y ∷ ys) (suc i) lt = got_in_front n ys i (omega arith)

pub nth_from_front : {X : Type 0} (n : ℕ) (xs : List X) (j : ℕ) (x : X) → nth (take n xs) j ≡ Some x → nth xs j ≡ Some x
nth_from_front n xs zero x h = h
nth_from_front n xs (suc j) x h = got_from_front n xs j x h

nth_in_front : {X : Type 0} (n : ℕ) (xs : List X) (j : ℕ) → j ≤ n → nth (take n xs) j ≡ nth xs j
nth_in_front n xs zero le = refl
nth_in_front n xs (suc j) le = got_in_front n xs j (omega arith)

pub nth_of_more : {X : Type 0} (xs ys : List X) (j : ℕ) (x : X) → nth xs j ≡ Some x → nth (xs ++ ys) j ≡ Some x
nth_of_more xs ys j x h =
    nth_from_front (length xs) (xs ++ ys) j x (ap (λ (l : List _). nth l j) (take-append_seam xs ys) ∙ h)

got_last : {X : Type 0} (xs : List X) (x : X) → slice_get (xs ++ x ∷ []) (length xs) ≡ Some x
got_last [] x = refl
got_last (y ∷ ys) x = got_last ys x

pub all_both : {X : Type 0} (P : X → Type 0) (xs ys : List X) → AllByRecursion P xs → AllByRecursion P ys → AllByRecursion P (xs ++ ys)
all_both P [] ys a b = b
all_both P (x ∷ xs) ys a b = (a.0, all_both P xs ys a.1 b)

pub all_of : {X : Type 0} (P Q : X → Type 0) (xs : List X) → ((x : X) → P x → Q x) → AllByRecursion P xs → AllByRecursion Q xs
all_of P Q [] f a = tt
all_of P Q (x ∷ xs) f a = (f x a.0, all_of P Q xs f a.1)

kept_or_not : {X : Type 0} (P Q : X → Type 0) (x : X) (b : Bool) (rest : List X) → (b ≡ true → Q x) → AllByRecursion Q rest → AllByRecursion Q (cond b (x ∷ rest) rest)
kept_or_not P Q x true rest f a = (f refl, a)
kept_or_not P Q x false rest f a = a

all_filtered : {X : Type 0} (P Q : X → Type 0) (p : X → Bool) (xs : List X) → ((x : X) → P x → p x ≡ true → Q x) → AllByRecursion P xs → AllByRecursion Q (filter p xs)
all_filtered P Q p [] f a = tt
all_filtered P Q p (x ∷ xs) f a = kept_or_not P Q x (p x) (filter p xs) (λ is. f x a.0 is) (all_filtered P Q p xs f a.1)

-- the ticket's group is durable
abbrev pub IsDurable : Machine → Ticket → Type 0
IsDurable m ticket = IsAt m.base_version (take (m.durable - m.base_version) m.accepted) ticket

pub durable_of : (m : Machine) (t : Ticket) → IsTicketOf m t → t.number ≤ m.durable → IsDurable m t
durable_of m t h le = (h.0, nth_in_front (m.durable - m.base_version) m.accepted (t.number - m.base_version) (omega arith) ∙ h.1)

pub durable_still : (m last : Machine) (t : Ticket) → IsLater m last → IsDurable m t → IsDurable last t
durable_still m last t later h =
    let n = m.durable - m.base_version in
    let k = last.durable - last.base_version in
    let le : n ≤ k = omega (arith, later.base_version, later.durable) in
    let same : take n (take k last.accepted) ≡ take n m.accepted = take-take n k last.accepted le ∙ still m last later in
    let there : nth (take n (take k last.accepted)) (t.number - m.base_version) ≡ Some t.group = ap (λ (l : List Group). nth l (t.number - m.base_version)) same ∙ h.1 in
    let found : nth (take k last.accepted) (t.number - m.base_version) ≡ Some t.group = nth_from_front n (take k last.accepted) (t.number - m.base_version) t.group there in
    (omega (arith, later.base_version, h.0), ap (λ (v : ℕ). nth (take k last.accepted) (t.number - v)) later.base_version ∙ found)

-- a ticket stays one where the groups and the version stay
pub ticket_still : (old new : Machine) (t : Ticket) → new.accepted ≡ old.accepted → new.base_version ≡ old.base_version → IsTicketOf old t → IsTicketOf new t
ticket_still old new t same version h =
    (omega (arith, version, h.0), ap (λ (v : ℕ). nth new.accepted (t.number - v)) version ∙ (ap (λ (l : List Group). nth l (t.number - old.base_version)) same ∙ h.1))

pub ticket_of_more : (m : Machine) (c : Group) (t : Ticket) → IsTicketOf m t → IsTicketOf (with_group m c) t
ticket_of_more m c t h = (h.0, nth_of_more m.accepted (c ∷ []) (t.number - m.base_version) t.group h.1)

pub ticket_of_new : (m : Machine) (c : Group) → IsTicketOf (with_group m c) (record { number = latest m + 1; group = c })
ticket_of_new m c =
    let place : latest m + 1 - m.base_version ≡ suc (length m.accepted) = omega arith in
    (omega arith, ap (nth (m.accepted ++ c ∷ [])) place ∙ got_last m.accepted c)

receipt_parts : (m : Machine) (t : Ticket) (receipt : Receipt) (b : Bool) (broken : Bool) → leb t.number m.durable ≡ b → ◌≡◌ {A = Result Receipt (Refusal × Ticket)} (Ok receipt) (cond b (Ok (record { number = t.number; group = t.group })) (cond broken (Err (Broken, t)) (Err (NotYet, t)))) → (t.number ≤ m.durable) × (record { number = t.number; group = t.group } ≡ receipt)
receipt_parts m t receipt true broken le h = (leb-true t.number m.durable le, cc)
receipt_parts m t receipt false true le h = cc
receipt_parts m t receipt false false le h = cc

-- by an equation of the state, where the groups and the version stay
pub same_ticket : (old m new : Machine) (t : Ticket) → new ≡ m → m.accepted ≡ old.accepted → m.base_version ≡ old.base_version → IsTicketOf old t → IsTicketOf new t
same_ticket old m new t is a v at =
    ticket_still old new t (ap (λ (x : Machine). x.accepted) is ∙ a) (ap (λ (x : Machine). x.base_version) is ∙ v) at

pub same_part : (m : Machine) (pages : ℕ) → ((with_part m pages).accepted ≡ m.accepted) × ((with_part m pages).base_version ≡ m.base_version)
same_part m pages = go (has_nothing_unchecked m) (nat_lt pages (checkpoint_of m).left)
  where
    go : (a b : Bool) → ((cond a m (cond b (record m { checkpoint = Some (with_pages_written (checkpoint_of m) pages) }) (record m { checkpoint = None; unchecked = (checkpoint_of m).flushed }))).accepted ≡ m.accepted) × ((cond a m (cond b (record m { checkpoint = Some (with_pages_written (checkpoint_of m) pages) }) (record m { checkpoint = None; unchecked = (checkpoint_of m).flushed }))).base_version ≡ m.base_version)
    go true b = (refl, refl)
    go false true = (refl, refl)
    go false false = (refl, refl)

pub same_given_up : (m : Machine) (number : ℕ) → ((without_task m number).accepted ≡ m.accepted) × ((without_task m number).base_version ≡ m.base_version)
same_given_up m number = go (is_out m number)
  where
    go : (a : Bool) → ((cond a (record m { task = None }) m).accepted ≡ m.accepted) × ((cond a (record m { task = None }) m).base_version ≡ m.base_version)
    go true = (refl, refl)
    go false = (refl, refl)

-- whether this is a stop
abbrev pub is_stopped : Happened → Bool
is_stopped (Stopped version) = true
is_stopped _ = false

-- tickets stay tickets until a stop
pub ticket_by_step : (old new : Machine) (h : Happened) (t : Ticket) → Step old h new → is_stopped h ≡ false → IsTicketOf old t → IsTicketOf new t
ticket_by_step old new (Submitted c (Ok ticket)) t h calm at = subst (λ (m : Machine). IsTicketOf m t) (sym h.2) (ticket_of_more old c t at)
ticket_by_step old new (Submitted c (Err refusal)) t h calm at = same_ticket old old new t h.1 refl refl at
ticket_by_step old new (Flushed (Ok durable)) t h calm at = same_ticket old (with_batch old) new t h.1 refl refl at
ticket_by_step old new (Flushed (Err refusal)) t h calm at =
    ⊎_elim (λ r. same_ticket old old new t r.1 refl refl at) (λ f. same_ticket old (failed old (batch old)) new t f.2 refl refl at) h
ticket_by_step old new (Checkpointed pages (Ok answer)) t h calm at =
    let p = same_part old pages in same_ticket old (with_part old pages) new t h.2 p.0 p.1 at
ticket_by_step old new (Checkpointed pages (Err refusal)) t h calm at =
    ⊎_elim (λ r. same_ticket old old new t r.1 refl refl at) (λ f. same_ticket old (failed old 0) new t f.3 refl refl at) h
ticket_by_step old new (TookTask (Ok None)) t h calm at = same_ticket old old new t h.1 refl refl at
ticket_by_step old new (TookTask (Ok (Some task))) t h calm at = same_ticket old (record old { task = Some old.durable }) new t h.3 refl refl at
ticket_by_step old new (TookTask (Err refusal)) t h calm at = same_ticket old old new t h.2 refl refl at
ticket_by_step old new (GaveUp number) t h calm at = let p = same_given_up old number in same_ticket old (without_task old number) new t h p.0 p.1 at
ticket_by_step old new (Published version network (Ok shown)) t h calm at = same_ticket old (with_shown old version) new t h.2 refl refl at
ticket_by_step old new (Published version network (Err refusal)) t h calm at = same_ticket old old new t h.1 refl refl at
ticket_by_step old new (Asked query (Ok answer)) t h calm at = same_ticket old old new t h.2 refl refl at
ticket_by_step old new (Asked query (Err refusal)) t h calm at = same_ticket old old new t h.2 refl refl at
ticket_by_step old new (Received ticket result) t h calm at = same_ticket old old new t h.2 refl refl at
ticket_by_step old new (Stopped version) t h calm at = cc

held_still : (h : Happened) (m mid : Machine) (held : List Ticket) → Step m h mid → is_stopped h ≡ false → AllByRecursion (IsTicketOf m) held → AllByRecursion (IsTicketOf mid) held
held_still h m mid held step calm all = all_of (IsTicketOf m) (IsTicketOf mid) held (λ t. ticket_by_step m mid h t step calm) all

-- a stop leaves the tickets up to the version that is opened
ticket_left : (m mid : Machine) (version : ℕ) (t : Ticket) → StopsAndOpens m version mid → IsTicketOf m t → t.number ≤ version → IsTicketOf mid t
ticket_left m mid version t step at le =
    let kept : IsTicketOf (reopened m version step.1.0) t = (at.0, nth_in_front (version - m.base_version) m.accepted (t.number - m.base_version) (omega arith) ∙ at.1) in
    subst (λ (x : Machine). IsTicketOf x t) (sym step.1.2) kept

-- the tickets that are held are tickets
pub held_by_step : (h : Happened) (m mid : Machine) (held : List Ticket) → Step m h mid → AllByRecursion (IsTicketOf m) held → AllByRecursion (IsTicketOf mid) (held_after held h)
held_by_step (Submitted c (Ok ticket)) m mid held step all =
    let fresh : IsTicketOf mid (record { number = latest m + 1; group = c }) =
    subst (λ (x : Machine). IsTicketOf x (record { number = latest m + 1; group = c })) (sym step.2) (ticket_of_new m c) in
    (subst (IsTicketOf mid) (sym step.1) fresh, held_still (Submitted c (Ok ticket)) m mid held step refl all)
held_by_step (Submitted c (Err refusal)) m mid held step all = held_still (Submitted c (Err refusal)) m mid held step refl all
held_by_step (Flushed result) m mid held step all = held_still (Flushed result) m mid held step refl all
held_by_step (Checkpointed pages result) m mid held step all = held_still (Checkpointed pages result) m mid held step refl all
held_by_step (TookTask result) m mid held step all = held_still (TookTask result) m mid held step refl all
held_by_step (GaveUp number) m mid held step all = held_still (GaveUp number) m mid held step refl all
held_by_step (Published version network result) m mid held step all = held_still (Published version network result) m mid held step refl all
held_by_step (Asked query result) m mid held step all = held_still (Asked query result) m mid held step refl all
held_by_step (Received ticket result) m mid held step all = held_still (Received ticket result) m mid held step refl all
held_by_step (Stopped version) m mid held step all =
    all_filtered (IsTicketOf m) (IsTicketOf mid) (λ t. nat_le t.number version) held
    (λ t at le. ticket_left m mid version t step at (leb-true t.number version le)) all

-- what is acknowledged is durable
pub acked_by_step : (h : Happened) (m mid : Machine) (held : List Ticket) → IsState m → Step m h mid → AllByRecursion (IsTicketOf m) held → AllByRecursion (IsDurable mid) (acknowledged_by held h)
acked_by_step (Flushed (Ok durable)) m mid held s step all =
    all_filtered (IsTicketOf mid) (IsDurable mid) (λ t. nat_le t.number durable) held
    (λ t at le. durable_of mid t at (omega (arith, leb-true t.number durable le, step.2)))
    (held_still (Flushed (Ok durable)) m mid held step refl all)
acked_by_step (Flushed (Err refusal)) m mid held s step all = tt
acked_by_step (Received ticket (Ok receipt)) m mid held s step all =
    let parts = receipt_parts m ticket receipt (leb ticket.number m.durable) m.broken refl step.1 in
    let later = later_by_step m mid (Received ticket (Ok receipt)) s step in
    let told : IsDurable mid (record { number = ticket.number; group = ticket.group }) = durable_still m mid ticket later (durable_of m ticket step.0 parts.0) in
    (subst (λ (x : Receipt). IsDurable mid (record { number = x.number; group = x.group })) parts.1 told, tt)
acked_by_step (Received ticket (Err refusal)) m mid held s step all = tt
acked_by_step (Submitted c result) m mid held s step all = tt
acked_by_step (Checkpointed pages result) m mid held s step all = tt
acked_by_step (TookTask result) m mid held s step all = tt
acked_by_step (GaveUp number) m mid held s step all = tt
acked_by_step (Published version network result) m mid held s step all = tt
acked_by_step (Asked query result) m mid held s step all = tt
acked_by_step (Stopped version) m mid held s step all = tt

-- and stays so
pub acked_still : (m last : Machine) (tickets : List Ticket) → IsLater m last → AllByRecursion (IsDurable m) tickets → AllByRecursion (IsDurable last) tickets
acked_still m last tickets later all = all_of (IsDurable m) (IsDurable last) tickets (λ t. durable_still m last t later) all

acks : (hs : List Happened) (m last : Machine) (held : List Ticket) → IsState m → AllByRecursion (IsTicketOf m) held → Run m hs last → AllByRecursion (IsDurable last) (acknowledged held hs)
acks [] m last held s all r = tt
acks (h ∷ hs) m last held s all r =
    let mid = r.0 in
    let state = states_kept m mid h s r.1 in
    let later = later_by_run mid last hs state r.2 in
    all_both (IsDurable last) (acknowledged_by held h) (acknowledged (held_after held h) hs)
    (acked_still mid last (acknowledged_by held h) later.1 (acked_by_step h m mid held s r.1 all))
    (acks hs mid last (held_after held h) state (held_by_step h m mid held r.1 all) r.2)

-- a number among the first groups is the same among more of them
pub at_longer : (version : ℕ) (groups : List Group) (i j : ℕ) (t : Ticket) → i ≤ j → IsAt version (take i groups) t → IsAt version (take j groups) t
at_longer version groups i j t le h = (
  h.0,
  nth_from_front i (take j groups) (t.number - version) t.group
      (ap (λ (l : List Group). nth l (t.number - version)) (take-take i j groups le) ∙ h.1),
)

-- what is durable is among what a stop leaves
pub durable_left : (m : Machine) (t : Ticket) (left : ℕ) → IsState m → IsLeft m left → IsDurable m t → IsAt m.base_version (groups_to m left) t
durable_left m t left s is h =
    let between = left_between m s left is in
    at_longer m.base_version m.accepted (m.durable - m.base_version) (left - m.base_version) t (omega arith) h

pub acknowledged_stay : AcknowledgedStay
acknowledged_stay sizes base version unchecked happened last left few fits r is =
    let first = start sizes base version unchecked in
    let state = started sizes base version unchecked few fits in
    let later = later_by_run first last happened state r in
    subst (λ (v : ℕ). AllByRecursion (IsAt v (groups_to last left)) (acknowledged [] happened)) later.1.base_version
    (all_of (IsDurable last) (IsAt last.base_version (groups_to last left)) (acknowledged [] happened) (λ t. durable_left last t left later.0 is)
    (acks happened first last [] state tt r))

-- the groups of the durable versions
abbrev pub durable_groups : Machine → List Group
durable_groups m = take (m.durable - m.base_version) m.accepted

-- an answer is right for the durable groups
pub asked_right : (m new : Machine) (query : Query) (answer : Answer) → IsState m → Asks m query (Ok answer) new → IsRightAfter m.base m.base_version (durable_groups m) query answer
asked_right m new query answer s ask =
    let n = m.shown - m.base_version in
    let k = m.durable - m.base_version in
    let le : n ≤ k = omega arith in
    let size : length (take k m.accepted) ≡ k = length-take k m.accepted ∙ omega arith in
    let names : answer.version ≡ m.shown = ask.0 in
    record {
      from = omega arith;
      to = omega arith;
      network = ask.1.0;
      network_is =
          ap (λ (v : ℕ). after m.base (take (v - m.base_version) (take k m.accepted))) names ∙ (ap (after m.base) (take-take n k m.accepted le) ∙ ask.1.1);
      reply = ask.1.2;
    }

-- and stays so
pub right_still : (m last : Machine) (query : Query) (answer : Answer) → IsState last → IsLater m last → IsRightAfter m.base m.base_version (durable_groups m) query answer → IsRightAfter last.base last.base_version (durable_groups last) query answer
right_still m last query answer s later right =
    let i = answer.version - m.base_version in
    let n = m.durable - m.base_version in
    let k = last.durable - m.base_version in
    let grown : m.durable ≤ last.durable = later.durable in
    let same : last.base_version ≡ m.base_version = later.base_version in
    let size_before : length (take n m.accepted) ≡ min n (length m.accepted) = length-take n m.accepted in
    let le : n ≤ k = omega arith in
    let near : i ≤ n = omega arith in
    let size : length (take k last.accepted) ≡ k = length-take k last.accepted ∙ omega arith in
    let far : i ≤ k = omega arith in
    let kept : take i (take k last.accepted) ≡ take i (take n m.accepted) =
    take-take i k last.accepted far ∙ (sym (take-take i n last.accepted near) ∙ ap (take i) (still m last later)) in
    let here : IsRightAfter m.base m.base_version (take k last.accepted) query answer = record {
      from = right.from;
      to = omega arith;
      network = right.network;
      network_is = ap (after m.base) kept ∙ right.network_is;
      reply = right.reply;
    } in
    subst (λ (b : Net). IsRightAfter b last.base_version (durable_groups last) query answer) (sym later.base)
    (subst (λ (v : ℕ). IsRightAfter m.base v (take (last.durable - v) last.accepted) query answer) (sym later.base_version) here)

-- and is right for more groups
pub right_in_more : (base : Net) (version n : ℕ) (groups : List Group) (query : Query) (answer : Answer) → IsRightAfter base version (take n groups) query answer → IsRightAfter base version groups query answer
right_in_more base version n groups query answer right =
    let size : length (take n groups) ≡ min n (length groups) = length-take n groups in
    let near : answer.version - version ≤ n = omega (arith, right.to) in
    record {
      from = right.from;
      to = omega (arith, right.to);
      network = right.network;
      network_is = ap (after base) (sym (take-take (answer.version - version) n groups near)) ∙ right.network_is;
      reply = right.reply;
    }

-- and for the groups that a stop leaves
pub right_left : (m : Machine) (left : ℕ) (query : Query) (answer : Answer) → IsState m → IsLeft m left → IsRightAfter m.base m.base_version (durable_groups m) query answer → IsRightAfter m.base m.base_version (groups_to m left) query answer
right_left m left query answer s is right =
    let between = left_between m s left is in
    let i = m.durable - m.base_version in
    let same : take i (groups_to m left) ≡ take i m.accepted = take-take i (left - m.base_version) m.accepted (omega arith) in
    right_in_more m.base m.base_version i (groups_to m left) query answer
    (subst (λ (cs : List Group). IsRightAfter m.base m.base_version cs query answer) (sym same) right)

pub answers_stay_right : AnswersStayRight
answers_stay_right sizes base version unchecked before behind query answer last left few fits r is =
    let first = start sizes base version unchecked in
    let state = started sizes base version unchecked few fits in
    let parts = run_split before (Asked query (Ok answer) ∷ behind) first last r in
    let mid = parts.0 in
    let to_mid = later_by_run first mid before state parts.1 in
    let to_last = later_by_run mid last (Asked query (Ok answer) ∷ behind) to_mid.0 parts.2 in
    let right = right_still mid last query answer to_last.0 to_last.1 (asked_right mid parts.2.0 query answer to_mid.0 parts.2.1) in
    let whole = later_still first mid last to_mid.1 to_last.1 in
    subst (λ (b : Net). IsRightAfter b version (groups_to last left) query answer) whole.base
    (subst (λ (v : ℕ). IsRightAfter last.base v (groups_to last left) query answer) whole.base_version
    (right_left last left query answer to_last.0 is right))
