-- The queued values lie in as many buckets in a row as a ring needs, through a phase and a taking.
use Rattle.std.proofs.Common.{◌≡◌, ℕ, ◌+◌, ◌/◌, ◌<◌, ◌≤◌, List, Option, Some, None, Bool, true, false, MatchBool, MatchOption, sym, ap, subst, ◌∙◌, inl, inr, arith, div-le_self}
use Rattle.std.specs.FinMap.{get, insert, empty, get-empty}
use Rattle.std.specs.Ordering.{nat_cmp}
use Rattle.std.proofs.lemmas.Bool.{cases_eq}
use Rattle.std.proofs.lemmas.Option.{same_Some}
use Rattle.snapshot.specs.Groups.{Groups, IsGrouped}
use Rattle.snapshot.specs.declared.legs.Part.{Part}
use Rattle.buckets.specs.Queue.{Entries}
use Rattle.frontier.specs.Frontier.{TakesAny}
use Rattle.relax.specs.Requests.{requests_of}
use Rattle.relax.specs.Values.{value_or}
use Rattle.deltastep.specs.Search.{AreInBucket, AreLive, AreLiveFrom, MeetsRequests, ring_buckets, top_of}
use Rattle.deltastep.proofs.Division.{add-in_window, div-le_div}
use Rattle.frontier.proofs.Members.{Contains-head_of, head_of}
use Rattle.deltastep.proofs.Queues.{get-insert_same, get-insert_other, get-outside_some, value_in_bucket}
use Rattle.deltastep.proofs.Lowering.{value_or-some}
use Rattle.deltastep.proofs.Relaxing.{IsAsked-of_requests}

-- what a phase of bucket b asks for is live from b on
pub AreLiveFrom-lowered : (groups : Groups) (nodes : List ℕ) (part : Part) (old : List (Option ℕ)) (queue : Entries) (new : List (Option ℕ)) (queue' : Entries) → MeetsRequests (top_of groups) (requests_of groups nodes old part) old queue new queue' → (b : ℕ) → IsGrouped groups → AreInBucket old groups.delta b nodes → AreLiveFrom groups b queue → AreLiveFrom groups b queue'
AreLiveFrom-lowered groups nodes part old queue new queue' met b grouped values live u x has = elim (met.moves u) as (λ _. (b ≤ x / groups.delta) × (x / groups.delta < b + ring_buckets groups.greatest groups.delta)) [
  | inl same ↦ live u x (sym same.1 ∙ has)
  | inr took ↦
      let is : took.value ≡ x = same_Some took.value x (sym took.queued ∙ has) in
      let asked = IsAsked-of_requests groups nodes old part (u, took.value) took.asked in
      let had = values asked.node asked.member in
      let at_zero : value_or 0 old asked.node ≡ had.value = value_or-some 0 old asked.node had.value had.has in
      let window : (had.value + asked.leg.length) / groups.delta < b + ring_buckets groups.greatest groups.delta = add-in_window had.value asked.leg.length groups.greatest groups.delta b grouped.delta had.within (grouped.length part asked.node asked.leg asked.legs) in
      let sum : had.value + asked.leg.length ≡ x = ap (λ n. n + asked.leg.length) (sym at_zero) ∙ (asked.sum ∙ is) in
      let above : had.value / groups.delta ≤ x / groups.delta = div-le_div had.value x groups.delta grouped.delta (omega (arith, sum)) in
      (omega (arith, above, had.within), subst (λ n. n / groups.delta < b + ring_buckets groups.greatest groups.delta) sum window)
]

-- what a taking leaves was there
pub AreLiveFrom-taken : (groups : Groups) (b b' : ℕ) (queue : Entries) (taken : List ℕ) (queue' : Entries) → TakesAny groups.delta queue b' taken queue' → AreLiveFrom groups b queue → AreLiveFrom groups b queue'
AreLiveFrom-taken groups b b' queue taken queue' takes live u x has = live u x (get-outside_some groups.delta b' queue u x (subst (λ (m : Entries). get m u ≡ Some x) takes.rest has))

-- no value is in a bucket before the one that is taken
pub AreLiveFrom-least : (groups : Groups) (b b' : ℕ) (queue : Entries) (taken : List ℕ) (queue' : Entries) → TakesAny groups.delta queue b' taken queue' → AreLiveFrom groups b queue → AreLiveFrom groups b' queue
AreLiveFrom-least groups b b' queue taken queue' takes live u x has =
    let some = value_in_bucket groups.delta b' queue (head_of taken) ((takes.nodes (head_of taken)).0 (Contains-head_of taken takes.some_node)) in
    let near = live (head_of taken) some.0 some.1 in
    let low : b ≤ some.0 / groups.delta = near.0 in
    let here : some.0 / groups.delta ≡ b' = some.2 in
    let high : x / groups.delta < b + ring_buckets groups.greatest groups.delta = (live u x has).1 in
    (takes.least u x has, omega arith)

-- at the start the source alone is queued, with 0
pub AreLiveFrom-first : (groups : Groups) (source : ℕ) (m q : Entries) (lowers : Bool) → m ≡ empty → MatchBool lowers (q ≡ insert m source 0) (q ≡ m) → AreLiveFrom groups 0 q
AreLiveFrom-first groups source m q true none is u x has =
    let now : get (insert m source 0) u ≡ Some x = subst (λ (n : Entries). get n u ≡ Some x) is has in
    elim (cases_eq u source) as (λ _. (0 ≤ x / groups.delta) × (x / groups.delta < 0 + ring_buckets groups.greatest groups.delta)) [
      | inl e ↦
          let zero_it : 0 ≡ x = same_Some 0 x (sym (subst (λ k. get (insert m source 0) k ≡ Some 0) (sym e) (get-insert_same m source 0)) ∙ now) in
          let low : x / groups.delta ≤ x = div-le_self x groups.delta in
          (omega arith, omega (arith, low, zero_it))
      | inr ne ↦ absurd (let no : None ≡ Some x = sym (get-insert_other m source 0 u ne ∙ (ap (λ (n : Entries). get n u) none ∙ get-empty nat_cmp u)) ∙ now in let absurdity : ⊥ = cc in absurdity)
    ]
AreLiveFrom-first groups source m q false none is u x has = absurd (let no : None ≡ Some x = sym (ap (λ (n : Entries). get n u) (is ∙ none) ∙ get-empty nat_cmp u) ∙ has in let absurdity : ⊥ = cc in absurdity)

-- a taking, by what the queue tells of it
pub AreLiveFrom-taking : (groups : Groups) (width : ℕ) (bucket : Option ℕ) (nodes : List ℕ) (old new : Entries) → width ≡ groups.delta → MatchOption bucket (old ≡ empty) (λ least. TakesAny width old least nodes new) → MatchOption bucket (new ≡ old) (λ _. Unit {0}) → MatchOption bucket (new ≡ empty) (λ least. AreLive groups old → AreLiveFrom groups least old)
AreLiveFrom-taking groups width None nodes old new is none same = same ∙ none
AreLiveFrom-taking groups width (Some least) nodes old new is takes _ = λ live. AreLiveFrom-least groups live.first least old nodes new (subst (λ w. TakesAny w old least nodes new) is takes) live.live
