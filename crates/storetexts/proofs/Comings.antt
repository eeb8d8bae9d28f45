-- What groups come to, one after the other.
use Rattle.std.proofs.Common.{◌≡◌, ◌∙◌, ℕ, zero, suc, ◌+◌, ◌-◌, ◌<◌, ◌≤◌, Bool, true, false, cond, List, [], ◌∷◌, ◌++◌, length, take, Option, None, Some, refl, ap, subst, arith, inl, inr}
use Rattle.std.specs.Prelude.{All, nat_le, nat_lt, option_and_then}
use Rattle.std.proofs.lemmas.Bool.{cases_lt}
use Rattle.std.proofs.lemmas.List.Elements.{All-nil, All-cons, All-head, All-tail}
use Rattle.roadnet.specs.declared.groups.Group.{Group}
use Rattle.roadnet.specs.declared.refusals.Refusal.{Refusal}
use Rattle.roadnet.specs.declared.refusals.Refusal.TheVariants.{HistoryFull, VersionsExhausted}
use Rattle.roadnet.specs.Batches.{changed_by, changed_by_all}
use Rattle.roadnet.specs.Groups.{count_of}
use Rattle.roadnet.specs.Net.{Net}
use Rattle.roadnet.specs.Step.{after, first_refusal}
use Rattle.roadnet.proofs.InTurn.{after_is_changed}
use Rattle.machine.proofs.Counted.{count_of-cons}
use Rattle.machine.specs.Machine.{most_versions, most_of_life}
use Rattle.storetexts.specs.declared.outcomes.Outcome.{Outcome}
use Rattle.storetexts.specs.declared.outcomes.Outcome.TheVariants.{Accepted, Refused}
use Rattle.storetexts.specs.Outcomes.{refusal_at, IsOutcomeRefusedFor, ComesTo, accepted_outcomes, IsGroupSettled}

-- ---- one group more
pub one_accepted : (life : ℕ) (net there : Net) (version at life_at : ℕ) (cs : List Group) (os : List Outcome) (c : Group) (n : ℕ)
    → ComesTo life net version cs os → there ≡ changed_by_all net (accepted_outcomes cs os) → at ≡ version + length (accepted_outcomes cs os) → life_at ≡ life + count_of (accepted_outcomes cs os)
    → refusal_at life_at there at c ≡ None → n ≡ at + 1 → ComesTo life net version (cs ++ c ∷ []) (os ++ Accepted n ∷ [])
one_accepted life net there version at life_at [] [] c n come is at_is life_is free numbered =
    let same : at ≡ version = omega (arith, at_is) in
    let alive : life_at ≡ life = omega (arith, life_is) in
    let free_here : refusal_at life net version c ≡ None = cc in
    (free_here, omega (arith, numbered, same), tt)
one_accepted life net there version at life_at [] (o ∷ os) c n come is at_is life_is free numbered = absurd come
one_accepted life net there version at life_at (d ∷ cs) [] c n come is at_is life_is free numbered = absurd come
one_accepted life net there version at life_at (d ∷ cs) (Accepted k ∷ os) c n come is at_is life_is free numbered =
    (come.0, come.1, one_accepted (life + length d) (changed_by net d) there (version + 1) at life_at cs os c n come.2 is (omega (arith, at_is)) (omega (arith, life_is, count_of-cons d (accepted_outcomes cs os))) free numbered)
one_accepted life net there version at life_at (d ∷ cs) (Refused r ∷ os) c n come is at_is life_is free numbered =
    (come.0, one_accepted life net there version at life_at cs os c n come.1 is at_is life_is free numbered)

pub one_refused : (life : ℕ) (net there : Net) (version at life_at : ℕ) (cs : List Group) (os : List Outcome) (c : Group) (r : Refusal)
    → ComesTo life net version cs os → there ≡ changed_by_all net (accepted_outcomes cs os) → at ≡ version + length (accepted_outcomes cs os) → life_at ≡ life + count_of (accepted_outcomes cs os)
    → IsOutcomeRefusedFor (refusal_at life_at there at c) r → ComesTo life net version (cs ++ c ∷ []) (os ++ Refused r ∷ [])
one_refused life net there version at life_at [] [] c r come is at_is life_is cause =
    let same : at ≡ version = omega (arith, at_is) in
    let alive : life_at ≡ life = omega (arith, life_is) in
    let causes : refusal_at life_at there at c ≡ refusal_at life net version c = cc in
    (subst (λ (o : Option Refusal). IsOutcomeRefusedFor o r) causes cause, tt)
one_refused life net there version at life_at [] (o ∷ os) c r come is at_is life_is cause = absurd come
one_refused life net there version at life_at (d ∷ cs) [] c r come is at_is life_is cause = absurd come
one_refused life net there version at life_at (d ∷ cs) (Accepted k ∷ os) c r come is at_is life_is cause =
    (come.0, come.1, one_refused (life + length d) (changed_by net d) there (version + 1) at life_at cs os c r come.2 is (omega (arith, at_is)) (omega (arith, life_is, count_of-cons d (accepted_outcomes cs os))) cause)
one_refused life net there version at life_at (d ∷ cs) (Refused k ∷ os) c r come is at_is life_is cause =
    (come.0, one_refused life net there version at life_at cs os c r come.1 is at_is life_is cause)

-- ---- the accepted ones
pub accepted_more : (life : ℕ) (net : Net) (version : ℕ) (cs : List Group) (os : List Outcome) (c : Group) (n : ℕ)
    → ComesTo life net version cs os → accepted_outcomes (cs ++ c ∷ []) (os ++ Accepted n ∷ []) ≡ accepted_outcomes cs os ++ c ∷ []
accepted_more life net version [] [] c n come = refl
accepted_more life net version [] (o ∷ os) c n come = absurd come
accepted_more life net version (d ∷ cs) [] c n come = absurd come
accepted_more life net version (d ∷ cs) (Accepted k ∷ os) c n come = ap (λ (l : List Group). d ∷ l) (accepted_more (life + length d) (changed_by net d) (version + 1) cs os c n come.2)
accepted_more life net version (d ∷ cs) (Refused k ∷ os) c n come = accepted_more life net version cs os c n come.1

pub accepted_same : (life : ℕ) (net : Net) (version : ℕ) (cs : List Group) (os : List Outcome) (c : Group) (r : Refusal)
    → ComesTo life net version cs os → accepted_outcomes (cs ++ c ∷ []) (os ++ Refused r ∷ []) ≡ accepted_outcomes cs os
accepted_same life net version [] [] c r come = refl
accepted_same life net version [] (o ∷ os) c r come = absurd come
accepted_same life net version (d ∷ cs) [] c r come = absurd come
accepted_same life net version (d ∷ cs) (Accepted k ∷ os) c r come = ap (λ (l : List Group). d ∷ l) (accepted_same (life + length d) (changed_by net d) (version + 1) cs os c r come.2)
accepted_same life net version (d ∷ cs) (Refused k ∷ os) c r come = accepted_same life net version cs os c r come.1

-- ---- each accepted one is admitted
last_none : (a b : Bool) (o : Option Refusal) → cond a (Some HistoryFull) (cond b (Some VersionsExhausted) o) ≡ None → o ≡ None
last_none true b o e = absurd cc
last_none false true o e = absurd cc
last_none false false o e = e

pub admitted_at : (life : ℕ) (net : Net) (version : ℕ) (c : Group) → refusal_at life net version c ≡ None → first_refusal net c ≡ None
admitted_at life net version c free = last_none (nat_lt most_of_life (life + length c)) (nat_le most_versions version) (first_refusal net c) free

pub after_one : (net : Net) (c : Group) (cs : List Group) → first_refusal net c ≡ None → after net (c ∷ cs) ≡ after (changed_by net c) cs
after_one net c cs free = ap (option_and_then (λ next. after next cs)) (after_is_changed net c free)

pub after_come : (life : ℕ) (net : Net) (version : ℕ) (cs : List Group) (os : List Outcome) → ComesTo life net version cs os → after net (accepted_outcomes cs os) ≡ Some (changed_by_all net (accepted_outcomes cs os))
after_come life net version [] [] come = refl
after_come life net version [] (o ∷ os) come = absurd come
after_come life net version (d ∷ cs) [] come = absurd come
after_come life net version (d ∷ cs) (Accepted k ∷ os) come =
    after_one net d (accepted_outcomes cs os) (admitted_at life net version d come.0) ∙ after_come (life + length d) (changed_by net d) (version + 1) cs os come.2
after_come life net version (d ∷ cs) (Refused k ∷ os) come = after_come life net version cs os come.1

pub as_many : (life : ℕ) (net : Net) (version : ℕ) (cs : List Group) (os : List Outcome) → ComesTo life net version cs os → length os ≡ length cs
as_many life net version [] [] come = refl
as_many life net version [] (o ∷ os) come = absurd come
as_many life net version (d ∷ cs) [] come = absurd come
as_many life net version (d ∷ cs) (Accepted k ∷ os) come = ap suc (as_many (life + length d) (changed_by net d) (version + 1) cs os come.2)
as_many life net version (d ∷ cs) (Refused k ∷ os) come = ap suc (as_many life net version cs os come.1)

-- ---- no number is past the last version
pub all_settled : (life : ℕ) (net : Net) (version durable : ℕ) (cs : List Group) (os : List Outcome)
    → ComesTo life net version cs os → version + length (accepted_outcomes cs os) ≤ durable → All (IsGroupSettled durable) os
all_settled life net version durable [] [] come le = All-nil (IsGroupSettled durable)
all_settled life net version durable [] (o ∷ os) come le = absurd come
all_settled life net version durable (d ∷ cs) [] come le = absurd come
all_settled life net version durable (d ∷ cs) (Accepted k ∷ os) come le =
    let here : k ≤ durable = omega (arith, come.1, le) in
    All-cons (IsGroupSettled durable) (Accepted k) os here (all_settled (life + length d) (changed_by net d) (version + 1) durable cs os come.2 (omega (arith, le)))
all_settled life net version durable (d ∷ cs) (Refused k ∷ os) come le =
    All-cons (IsGroupSettled durable) (Refused k) os tt (all_settled life net version durable cs os come.1 le)

-- ---- a version between is that after the first groups, no fewer than were told
pub record IsPlace (net : Net) (version at told : ℕ) (cs : List Group) (os : List Outcome) : Type 0 where
  pub kept : ℕ
  pub told_kept : told ≤ kept
  pub kept_to : kept ≤ length os
  pub same : accepted_outcomes (take kept cs) (take kept os) ≡ take (at - version) (accepted_outcomes cs os)
  pub counted : at ≡ version + length (accepted_outcomes (take kept cs) (take kept os))

at_start : (net : Net) (version at told : ℕ) (cs : List Group) (os : List Outcome) → told ≡ 0 → at ≡ version → IsPlace net version at told cs os
at_start net version at told cs os none same = record {
  kept = 0;
  told_kept = omega (arith, none);
  kept_to = omega arith;
  same = let z : at - version ≡ 0 = omega (arith, same) in rw z refl;
  counted = omega (arith, same);
}

pub place : (life : ℕ) (net : Net) (version at told : ℕ) (cs : List Group) (os : List Outcome)
    → ComesTo life net version cs os → version ≤ at → at ≤ version + length (accepted_outcomes cs os) → told ≤ length os → All (IsGroupSettled at) (take told os)
    → IsPlace net version at told cs os
place life net version at told [] [] come from to within settled = at_start net version at told [] [] (omega (arith, within)) (omega (arith, from, to))
place life net version at told [] (o ∷ os) come from to within settled = absurd come
place life net version at told (d ∷ cs) [] come from to within settled = absurd come
place life net version at zero (d ∷ cs) (Refused k ∷ os) come from to within settled =
    let p = place life net version at zero cs os come.1 from to (omega arith) (All-nil (IsGroupSettled at)) in
    record { kept = suc p.kept; told_kept = omega arith; kept_to = omega (arith, p.kept_to); same = p.same; counted = p.counted }
place life net version at (suc told) (d ∷ cs) (Refused k ∷ os) come from to within settled =
    let p = place life net version at told cs os come.1 from to (omega (arith, within)) (All-tail (IsGroupSettled at) (Refused k) (take told os) settled) in
    record { kept = suc p.kept; told_kept = omega (arith, p.told_kept); kept_to = omega (arith, p.kept_to); same = p.same; counted = p.counted }
place life net version at zero (d ∷ cs) (Accepted k ∷ os) come from to within settled =
    elim (cases_lt version at) [
      | inl lt ↦
          let p = place (life + length d) (changed_by net d) (version + 1) at zero cs os come.2 (omega (arith, lt)) (omega (arith, to)) (omega arith) (All-nil (IsGroupSettled at)) in
          record {
            kept = suc p.kept;
            told_kept = omega arith;
            kept_to = omega (arith, p.kept_to);
            same = let more : at - version ≡ suc (at - (version + 1)) = omega (arith, lt) in rw more (ap (λ (l : List Group). d ∷ l) p.same);
            counted = omega (arith, p.counted);
          }
      | inr ge ↦ at_start net version at zero (d ∷ cs) (Accepted k ∷ os) refl (omega (arith, from, ge))
    ]
place life net version at (suc told) (d ∷ cs) (Accepted k ∷ os) come from to within settled =
    let here : k ≤ at = All-head (IsGroupSettled at) (Accepted k) (take told os) settled in
    let lt : version < at = omega (arith, here, come.1) in
    let p = place (life + length d) (changed_by net d) (version + 1) at told cs os come.2 (omega (arith, lt)) (omega (arith, to)) (omega (arith, within)) (All-tail (IsGroupSettled at) (Accepted k) (take told os) settled) in
    record {
      kept = suc p.kept;
      told_kept = omega (arith, p.told_kept);
      kept_to = omega (arith, p.kept_to);
      same = let more : at - version ≡ suc (at - (version + 1)) = omega (arith, lt) in rw more (ap (λ (l : List Group). d ∷ l) p.same);
      counted = omega (arith, p.counted);
    }
