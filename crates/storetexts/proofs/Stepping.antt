-- Steps of the machine while commands are applied.
use Rattle.std.proofs.Common.{◌≡◌, ◌∙◌, ⊎_elim, ℕ, ◌+◌, ◌-◌, ◌<◌, ◌≤◌, Bool, false, cond, List, [], ◌∷◌, ◌++◌, length, length-drop, take, drop, Option, None, Some, Result, Ok, Err, refl, sym, ap, subst, arith, length-append}
use Rattle.std.specs.Prelude.{All, nat_le, nat_lt, option_and_then}
use Rattle.std.proofs.lemmas.Bool.{cases_lt, le-ltb}
use Rattle.std.proofs.lemmas.List.{take-append-le, take-append-drop, drop-append-le, length-take-le}
use Rattle.std.proofs.lemmas.List.Elements.{All-weaker, All-take, All-drop}
use Rattle.roadnet.specs.declared.groups.Group.{Group}
use Rattle.roadnet.specs.declared.refusals.Refusal.{Refusal}
use Rattle.roadnet.specs.declared.refusals.Refusal.TheVariants.{Broken, HistoryFull, VersionsExhausted, QueueFull}
use Rattle.roadnet.specs.Batches.{changed_by_all}
use Rattle.roadnet.specs.Groups.{IsGroup, count_of}
use Rattle.roadnet.specs.Net.{Net}
use Rattle.roadnet.specs.Step.{after, first_refusal}
use Rattle.machine.specs.declared.calls.Ticket.{Ticket}
use Rattle.machine.specs.Machine.{Machine, IsState, latest, pending, of_life, batch, groups_behind, accepted_network, most_versions, most_pending, most_of_life}
use Rattle.machine.specs.Calls.{IsRefused, Submits, Flushes, refusal_of_submit, with_group}
use Rattle.machine.specs.Runs.Happened.{Submitted}
use Rattle.machine.proofs.Counted.{as_many, batch_count, batch_some, count_further, count_of-append, count_of-more, drop_both, none_behind}
use Rattle.machine.proofs.Kept.{states_kept}
use Rattle.storetexts.specs.declared.outcomes.Outcome.{Outcome}
use Rattle.storetexts.specs.declared.outcomes.Outcome.TheVariants.{Accepted, Refused}
use Rattle.storetexts.specs.Outcomes.{refusal_at, IsOutcomeRefusedFor, accepted_outcomes, IsGroupSettled}
use Rattle.storetexts.specs.Applying.{IsSteady, GroupsTaken, KeepsAccepted}
use Rattle.storetexts.proofs.Comings.{one_accepted, one_refused, accepted_more, accepted_same, after_come, all_settled}

-- ---- a submit
by : Bool → Bool → Bool → Bool → Option Refusal → Option Refusal
by broken full past queue rest = cond broken (Some Broken) (cond full (Some HistoryFull) (cond past (Some VersionsExhausted) (cond queue (Some QueueFull) rest)))

refusal_here : (m : Machine) (c : Group) (there : Net) → m.broken ≡ false → pending m + length c ≤ 4096 → accepted_network m ≡ Some there
    → refusal_of_submit m c ≡ refusal_at (of_life m) there (latest m) c
unfolding by
refusal_here m c there calm few is =
    let full = nat_lt most_of_life (of_life m + length c) in
    let past = nat_le most_versions (latest m) in
    let queue = nat_lt most_pending (pending m + length c) in
    let rest = option_and_then (λ net. first_refusal net c) (accepted_network m) in
    let none : queue ≡ false = le-ltb most_pending (pending m + length c) few in
    ap (λ (b : Bool). by b full past queue rest) calm
    ∙ (ap (λ (q : Bool). by false full past q rest) none
    ∙ ap (λ (o : Option Net). by false full past false (option_and_then (λ net. first_refusal net c) o)) is)

module _ (net : Net) (version told : ℕ) (cs : List Group) (os : List Outcome) (m : Machine) (h : GroupsTaken net version cs os told m) where
  there : Net
  there = changed_by_all net (accepted_outcomes cs os)

  there_is : accepted_network m ≡ Some there
  unfolding there
  there_is = ap (λ (n : Net). after n m.accepted) h.base_is ∙ (ap (after net) h.accepted_is ∙ after_come 0 net version cs os h.come)

  pub latest_is : latest m ≡ version + length (accepted_outcomes cs os)
  latest_is = let long : length m.accepted ≡ length (accepted_outcomes cs os) = ap length h.accepted_is in omega (arith, long, h.version_is)

  pub life_is : m.opened ≡ m.base_version → of_life m ≡ count_of (accepted_outcomes cs os)
  life_is opened =
      let none : m.opened - m.base_version ≡ 0 = omega (arith, opened) in
      ap (λ (n : ℕ). count_of (drop n m.accepted)) none ∙ ap count_of h.accepted_is

  refusal_is : (c : Group) → m.broken ≡ false → pending m + length c ≤ 4096 → refusal_of_submit m c ≡ refusal_at (of_life m) there (latest m) c
  refusal_is c calm few = refusal_here m c there calm few there_is

  first_told : (o : Outcome) → take told (os ++ o ∷ []) ≡ take told os
  first_told o = take-append-le told os (o ∷ []) h.told_to

  come_accepted : (c : Group) (n : ℕ) (m' : Machine) → m.opened ≡ m.base_version → m.broken ≡ false → pending m + length c ≤ 4096
      → refusal_of_submit m c ≡ None → n ≡ latest m + 1 → m' ≡ with_group m c → GroupsTaken net version (cs ++ c ∷ []) (os ++ Accepted n ∷ []) told m'
  unfolding there
  come_accepted c n m' opened calm few free numbered is =
      subst (GroupsTaken net version (cs ++ c ∷ []) (os ++ Accepted n ∷ []) told) (sym is) (record {
        base_is = h.base_is;
        version_is = h.version_is;
        come = one_accepted 0 net there version (latest m) (of_life m) cs os c n h.come refl latest_is (omega (arith, life_is opened)) (sym (refusal_is c calm few) ∙ free) numbered;
        accepted_is = ap (λ (l : List Group). l ++ c ∷ []) h.accepted_is ∙ sym (accepted_more 0 net version cs os c n h.come);
        told_to = omega (arith, h.told_to, length-append os (Accepted n ∷ []));
        settled = subst (All (IsGroupSettled m.durable)) (sym (first_told (Accepted n))) h.settled;
      })

  come_refused : (c : Group) (r : Refusal) (m' : Machine) → m.opened ≡ m.base_version → m.broken ≡ false → pending m + length c ≤ 4096
      → IsRefused (refusal_of_submit m c) r m m' → GroupsTaken net version (cs ++ c ∷ []) (os ++ Refused r ∷ []) told m'
  unfolding there
  come_refused c r m' opened calm few why =
      let cause : IsOutcomeRefusedFor (refusal_at (of_life m) there (latest m) c) r = subst (λ (o : Option Refusal). IsOutcomeRefusedFor o r) (refusal_is c calm few) why.0 in
      subst (GroupsTaken net version (cs ++ c ∷ []) (os ++ Refused r ∷ []) told) (sym why.1) (record {
        base_is = h.base_is;
        version_is = h.version_is;
        come = one_refused 0 net there version (latest m) (of_life m) cs os c r h.come refl latest_is (omega (arith, life_is opened)) cause;
        accepted_is = h.accepted_is ∙ sym (accepted_same 0 net version cs os c r h.come);
        told_to = omega (arith, h.told_to, length-append os (Refused r ∷ []));
        settled = subst (All (IsGroupSettled m.durable)) (sym (first_told (Refused r))) h.settled;
      })

  -- where nothing is pending each outcome is settled
  pub settled_all : m.durable ≡ latest m → All (IsGroupSettled m.durable) os
  settled_all done = all_settled 0 net version m.durable cs os h.come (omega (arith, latest_is, done))

  pub come_kept : (m' : Machine) → KeepsAccepted m m' → GroupsTaken net version cs os told m'
  come_kept m' k = record {
    base_is = k.base ∙ h.base_is;
    version_is = k.base_version ∙ h.version_is;
    come = h.come;
    accepted_is = k.accepted ∙ h.accepted_is;
    told_to = h.told_to;
    settled = All-weaker (IsGroupSettled m.durable) (IsGroupSettled m'.durable) (later m.durable m'.durable k.durable) (take told os) h.settled;
  }
    where
      later : (a b : ℕ) → a ≤ b → (o : Outcome) → IsGroupSettled a o → IsGroupSettled b o
      later a b le (Accepted n) s = omega (arith, s, le)
      later a b le (Refused r) s = tt

  pub come_told : (told' : ℕ) → told' ≤ length os → All (IsGroupSettled m.durable) (take told' os) → GroupsTaken net version cs os told' m
  come_told told' to settled = record { base_is = h.base_is; version_is = h.version_is; come = h.come; accepted_is = h.accepted_is; told_to = to; settled = settled }

-- the outcome of a submit
abbrev pub outcome_of : Result Ticket Refusal → Outcome
outcome_of (Ok ticket) = Accepted ticket.number
outcome_of (Err refusal) = Refused refusal

pub come_submit : (net : Net) (version told : ℕ) (cs : List Group) (os : List Outcome) (m m' : Machine) (c : Group) (result : Result Ticket Refusal)
    → IsSteady m → m.broken ≡ false → pending m + length c ≤ 4096 → Submits m c result m' → GroupsTaken net version cs os told m → GroupsTaken net version (cs ++ c ∷ []) (os ++ outcome_of result ∷ []) told m'
come_submit net version told cs os m m' c (Ok ticket) s calm few step h =
    let numbered : ticket.number ≡ latest m + 1 = ap (λ (t : Ticket). t.number) step.1 in
    come_accepted net version told cs os m h c ticket.number m' s.opened_is calm few step.0 numbered step.2
come_submit net version told cs os m m' c (Err r) s calm few step h = come_refused net version told cs os m h c r m' s.opened_is calm few step

pub steady_submit : (m m' : Machine) (c : Group) (result : Result Ticket Refusal) → Submits m c result m' → IsSteady m → IsSteady m'
steady_submit m m' c result step s = steady_by result step
  where
    state : IsState m'
    state = states_kept m m' (Submitted c result) s.state step

    steady_by : (r : Result Ticket Refusal) → Submits m c r m' → IsSteady m'
    steady_by (Ok t) h = subst IsSteady (sym h.2) (record { state = subst IsState h.2 state; opened_is = s.opened_is; none_going = s.none_going; some_page = s.some_page })
    steady_by (Err r) h = subst IsSteady (sym h.1) s

pub calm_submit : (m m' : Machine) (c : Group) (result : Result Ticket Refusal) → Submits m c result m' → m.broken ≡ false → m'.broken ≡ false
calm_submit m m' c (Ok t) h calm = ap (λ (x : Machine). x.broken) h.2 ∙ calm
calm_submit m m' c (Err r) h calm = ap (λ (x : Machine). x.broken) h.1 ∙ calm

pub pending_submit : (m m' : Machine) (c : Group) (result : Result Ticket Refusal) → IsState m → Submits m c result m' → pending m' ≤ pending m + length c
pending_submit m m' c (Ok t) s h =
    let within : m.durable - m.base_version ≤ length m.accepted = omega (arith, s.durable_accepted, s.base_opened, s.opened_shown, s.shown_durable) in
    let more : pending (with_group m c) ≡ pending m + length c = ap count_of (drop-append-le (m.durable - m.base_version) m.accepted (c ∷ []) within) ∙ count_of-more (drop (m.durable - m.base_version) m.accepted) c in
    subst (λ (x : Machine). pending x ≤ pending m + length c) (sym h.2) (omega (arith, more))
pending_submit m m' c (Err r) s h = subst (λ (x : Machine). pending x ≤ pending m + length c) (sym h.1) (omega arith)

-- a group that is taken while fewer commands are pending than a page holds
pub waiting_submit : (m m' : Machine) (c : Group) (result : Result Ticket Refusal) → IsState m → IsGroup c → pending m < 253 → Submits m c result m' → pending m' ≤ 505
waiting_submit m m' c result s size few h =
    let more = pending_submit m m' c result s h in
    let most : length c ≤ 253 = size.1 in
    omega (arith, more, most, few)

-- ---- a flush
-- fewer are pending behind one that was done, where some were
pub fewer_flush : (m m' : Machine) (v : ℕ) → IsState m → Flushes m (Ok v) m' → 1 ≤ pending m → pending m' < pending m
fewer_flush m m' v s step some =
    let i = m.durable - m.base_version in
    let gs = groups_behind m m.durable in
    let not_all : m.durable + 1 ≤ latest m = at_least_one in
    let one : 1 ≤ batch m = batch_some m s not_all in
    let counted = as_many (take (batch m) gs) (All-take IsGroup (batch m) gs (All-drop IsGroup i m.accepted s.groups)) in
    let long : length (take (batch m) gs) ≡ batch m = length-take-le (batch m) gs (omega (arith, batch_count m s, length-drop i m.accepted, s.base_opened, s.opened_shown, s.shown_durable)) in
    let sum : count_of (take (batch m) gs) + count_of (drop (batch m) gs) ≡ count_of gs = sym (count_of-append (take (batch m) gs) (drop (batch m) gs)) ∙ ap count_of (take-append-drop (batch m) gs) in
    let place : m.durable + batch m - m.base_version ≡ i + batch m = omega (arith, s.base_opened, s.opened_shown, s.shown_durable) in
    let behind : count_of (drop (m.durable + batch m - m.base_version) m.accepted) ≡ count_of (drop (batch m) gs) = ap (λ (k : ℕ). count_of (drop k m.accepted)) place ∙ ap count_of (drop_both i (batch m) m.accepted) in
    let less : count_of (drop (m.durable + batch m - m.base_version) m.accepted) < pending m = omega (arith, one, counted, long, sum, behind) in
    subst (λ (x : Machine). pending x < pending m) (sym step.1) less
  where
    at_least_one : m.durable + 1 ≤ latest m
    at_least_one = ⊎_elim
        (λ (lt : m.durable < latest m). omega (arith, lt))
        (λ (ge : latest m ≤ m.durable). absurd (let none = none_behind (m.durable - m.base_version) m.accepted (omega (arith, ge, s.base_opened, s.opened_shown, s.shown_durable)) in omega (arith, none, some)))
        (cases_lt m.durable (latest m))

-- no more are pending behind any
pub no_more_flush : (m m' : Machine) (r : Result ℕ Refusal) → Flushes m r m' → pending m' ≤ pending m
no_more_flush m m' (Ok v) step =
    let further = count_further (m.durable - m.base_version) (m.durable + batch m - m.base_version) m.accepted (omega arith) in
    subst (λ (x : Machine). pending x ≤ pending m) (sym step.1) further
no_more_flush m m' (Err e) step = ⊎_elim
    (λ refused. subst (λ (x : Machine). pending x ≤ pending m) (sym refused.1) (omega arith))
    (λ broke. subst (λ (x : Machine). pending x ≤ pending m) (sym broke.2) (omega arith)) step
