-- One phase of a bucket, from what relaxing the light arcs and the take that follows leave.
use Rattle.std.proofs.Common.{◌≡◌, ℕ, ◌+◌, ◌/◌, ◌<◌, ◌≤◌, List, [], ◌∷◌, length, get_or, ap₂, Contains, Option, Some, None, Bool, true, false, refl, sym, ap, subst, ◌∙◌, arith, append-nil, MatchOption, MatchBool, IsSome, ◌⊎◌, inl, inr}
use Rattle.std.specs.Bool.{OnTrue, OnFalse}
use Rattle.std.specs.FinMap.{get, insert, get-empty, empty as FinMap_empty}
use Rattle.std.specs.Ordering.{nat_cmp}
use Rattle.snapshot.specs.Groups.{Groups, IsGrouped, legs_of}
use Rattle.snapshot.specs.declared.legs.Leg.{Leg}
use Rattle.buckets.specs.Queue.{Entries}
use Rattle.frontier.specs.Frontier.{TakesAny}
use Rattle.relax.specs.Requests.{requests_of}
use Rattle.relax.specs.Values.{value_or}
use Rattle.deltastep.specs.Search.{top_of, AreReached, IsSearch, IsRelaxedBut, IsRelaxed, IsInBucket, AreInBucket, MeetsRequests, HasQueued, EndsPhase, EmptiesBucket, FitsFrom, ring_buckets, IsBucketEmpty, requests_by, weight}
use Rattle.snapshot.specs.declared.legs.Part.{Part}
use Rattle.frontier.specs.Remembered.{remember_all}
use Rattle.frontier.proofs.Flags.{remember_all-of}
use Rattle.std.proofs.lemmas.Bool.{cases_eq}
use Rattle.snapshot.specs.declared.legs.Part.TheVariants.{Light, Heavy}
use Rattle.frontier.proofs.Members.{Contains-nil}
use Rattle.deltastep.proofs.Queues.{len-taken, get-insert_same, get-insert_other}
use Rattle.deltastep.proofs.Relaxing.{IsRelaxedBut-kept, IsRelaxedBut-met, IsRelaxedBut-taken, AreInBucket-taken, IsSearch-taken, bucket_is, IsBucketEmpty-heavy}

pub match_some : {X : Type 0} (o : Option X) (x : X) (P : Type 0) (Q : X → Type 0) → o ≡ Some x → MatchOption o P Q → Q x
match_some o x P Q e h = subst (λ p. MatchOption p P Q) e h

pub match_none : {X : Type 0} (o : Option X) (P : Type 0) (Q : X → Type 0) → o ≡ None → MatchOption o P Q → P
match_none o P Q e h = subst (λ p. MatchOption p P Q) e h

pub on_true : (b : Bool) (P : Type 0) → b ≡ true → OnTrue b P → P
on_true b P e h = subst (λ p. OnTrue p P) e h

-- what holds where a test succeeds, and what holds where it fails
pub on_true_of : (b : Bool) (P : Type 0) → (b ≡ true → P) → OnTrue b P
on_true_of true P f = f refl
on_true_of false P f = tt

pub on_false_of : (b : Bool) (P : Type 0) → (b ≡ false → P) → OnFalse b P
on_false_of true P f = tt
on_false_of false P f = f refl

pub map_true : (b : Bool) (P Q : Type 0) → (P → Q) → OnTrue b P → OnTrue b Q
map_true true P Q f p = f p
map_true false P Q f p = p

pub map_false : (b : Bool) (P Q : Type 0) → (P → Q) → OnFalse b P → OnFalse b Q
map_false true P Q f p = p
map_false false P Q f p = f p

-- no node came back
pub EndsPhase-none : (groups : Groups) (b : ℕ) (nodes : List ℕ) (old : List (Option ℕ)) (queue : Entries) (new : List (Option ℕ)) (queue' : Entries) → AreInBucket old groups.delta b nodes → IsRelaxedBut groups Light old queue nodes → MeetsRequests (top_of groups) (requests_of groups nodes old Light) old queue new queue' → IsSearch groups new queue' b → ((source : ℕ) → AreReached groups source old → AreReached groups source new) → ((others : List ℕ) → AreInBucket old groups.delta b others → AreInBucket new groups.delta b others) → EndsPhase groups b old queue new queue' []
EndsPhase-none groups b nodes old queue new queue' values light lowered search reached stays = record {
  search = search;
  reached = reached;
  light = IsRelaxedBut-met groups nodes Light old queue new queue' lowered groups.delta b values light;
  heavy = λ owed h. subst (λ xs. IsRelaxedBut groups Heavy new queue' xs) (sym (append-nil owed)) (IsRelaxedBut-kept groups nodes Light old queue new queue' lowered Heavy owed h);
  nodes = λ u c. absurd (Contains-nil u c);
  stays = stays;
}

-- nodes came back, and were taken
pub EndsPhase-some : (groups : Groups) (b : ℕ) (old : List (Option ℕ)) (queue : Entries) (new : List (Option ℕ)) (queue' : Entries) → EndsPhase groups b old queue new queue' [] → HasQueued new queue' groups.delta b → (b' : ℕ) (next : List ℕ) (queue'' : Entries) → TakesAny groups.delta queue' b' next queue'' → EndsPhase groups b old queue new queue'' next
EndsPhase-some groups b old queue new queue' ends queued b' next queue'' takes =
    let is : b' ≡ b = bucket_is groups new queue' b' next queue'' takes b ends.search queued in
    record {
      search = subst (λ n. IsSearch groups new queue'' n) is (IsSearch-taken groups new queue' b' next queue'' takes b ends.search);
      reached = ends.reached;
      light = IsRelaxedBut-taken groups new queue' b' next queue'' takes Light [] ends.light;
      heavy = λ owed h. IsRelaxedBut-taken groups new queue' b' next queue'' takes Heavy owed (subst (λ xs. IsRelaxedBut groups Heavy new queue' xs) (append-nil owed) (ends.heavy owed h));
      nodes = subst (λ n. AreInBucket new groups.delta n next) is (AreInBucket-taken groups new queue' b' next queue'' takes b ends.search);
      stays = ends.stays;
    }

-- where a node came back, the taking that follows takes its bucket
pub TakesAny-back : (groups : Groups) (b : ℕ) (t : List (Option ℕ)) (queue : Entries) (taken : Option ℕ) (nodes : List ℕ) (queue' : Entries) (width : ℕ) → width ≡ groups.delta → IsSearch groups t queue b → HasQueued t queue groups.delta b → MatchOption taken (queue ≡ FinMap_empty) (λ least. TakesAny width queue least nodes queue') → (taken ≡ Some b) × TakesAny groups.delta queue b nodes queue'
TakesAny-back groups b t queue None nodes queue' width e search queued none = absurd (let no : None ≡ Some queued.value = sym (ap (λ (m : Entries). get m queued.node) none ∙ get-empty nat_cmp queued.node) ∙ queued.queued in let absurdity : ⊥ = cc in absurdity)
TakesAny-back groups b t queue (Some least) nodes queue' width e search queued takes =
    let took : TakesAny groups.delta queue least nodes queue' = subst (λ w. TakesAny w queue least nodes queue') e takes in
    let is : least ≡ b = bucket_is groups t queue least nodes queue' took b search queued in
    (ap (λ n. Some n) is, subst (λ n. TakesAny groups.delta queue n nodes queue') is took)

-- a take lowers the weight
pub weight-taken : (top width b : ℕ) (t : List (Option ℕ)) (queue : Entries) (taken : List ℕ) (queue' : Entries) → TakesAny width queue b taken queue' → weight top t queue' < weight top t queue
weight-taken top width b t queue taken queue' takes = omega (arith, len-taken width b queue taken queue' takes)

-- the window of the bucket that was taken is that of the search
pub FitsFrom-taken : (groups : Groups) (accepts : ℕ → Type 0) (width span b b' : ℕ) → width ≡ groups.delta → b' ≡ b → ring_buckets groups.greatest groups.delta ≤ span → ((v : ℕ) → b' ≤ v / width → v / width < b' + span → accepts v) → FitsFrom accepts groups b
FitsFrom-taken groups accepts width span b b' e e' wide fits value low high =
    let f : (v : ℕ) → b ≤ v / groups.delta → v / groups.delta < b + span → accepts v = subst (λ w. (v : ℕ) → b ≤ v / w → v / w < b + span → accepts v) e (subst (λ n. (v : ℕ) → n ≤ v / width → v / width < n + span → accepts v) e' fits) in
    f value low (omega (arith, wide, high))

-- the heavy legs of the remembered nodes are relaxed too
pub EmptiesBucket-relaxed : (groups : Groups) (b : ℕ) (remembered : List ℕ) (old empty : List (Option ℕ)) (queue : Entries) (new : List (Option ℕ)) (queue' : Entries) → IsGrouped groups → EmptiesBucket groups b old empty queue remembered → MeetsRequests (top_of groups) (requests_of groups remembered empty Heavy) empty queue new queue' → IsSearch groups new queue' b → ((source : ℕ) → AreReached groups source empty → AreReached groups source new) → EmptiesBucket groups b old new queue' []
EmptiesBucket-relaxed groups b remembered old empty queue new queue' grouped emptied met search reached = record {
  search = search;
  reached = λ source h. reached source (emptied.reached source h);
  light = IsRelaxedBut-kept groups remembered Heavy empty queue new queue' met Light [] emptied.light;
  heavy = IsRelaxedBut-met groups remembered Heavy empty queue new queue' met groups.delta b emptied.nodes emptied.heavy;
  nodes = λ u c. absurd (Contains-nil u c);
  emptied = IsBucketEmpty-heavy groups grouped remembered Heavy empty queue new queue' b met emptied.nodes refl emptied.emptied;
}

-- after a taking that found nothing, nothing is queued in any bucket
pub IsBucketEmpty-none : (width b : ℕ) (queue : Entries) → queue ≡ FinMap_empty → IsBucketEmpty width b queue
IsBucketEmpty-none width b queue is u x has within =
    let no : None ≡ Some x = sym (ap (λ (m : Entries). get m u) is ∙ get-empty nat_cmp u) ∙ has in
    let absurdity : ⊥ = cc in
    absurdity

pub on_false : (b : Bool) (P : Type 0) → b ≡ false → OnFalse b P → P
on_false b P e h = subst (λ p. OnFalse p P) e h

-- more nodes may owe
pub IsRelaxedBut-more : (groups : Groups) (part : Part) (t : List (Option ℕ)) (queue : Entries) (owed more : List ℕ) → ((u : ℕ) → Contains owed u → Contains more u) → IsRelaxedBut groups part t queue owed → IsRelaxedBut groups part t queue more
IsRelaxedBut-more groups part t queue owed more within but u = elim (but u) as (λ _. IsSome (get queue u) ⊎ (Contains more u ⊎ IsRelaxed groups part t u)) [
  | inl queued ↦ inl queued
  | inr rest ↦ elim rest as (λ _. IsSome (get queue u) ⊎ (Contains more u ⊎ IsRelaxed groups part t u)) [ inl owes ↦ inr (inl (within u owes)) | inr relaxed ↦ inr (inr relaxed) ]
]

-- nodes without legs of a part owe none
pub IsRelaxedBut-without : (groups : Groups) (part : Part) (t : List (Option ℕ)) (queue : Entries) (owed : List ℕ) → ((u : ℕ) → Contains owed u → legs_of groups part u ≡ []) → IsRelaxedBut groups part t queue owed → IsRelaxedBut groups part t queue []
IsRelaxedBut-without groups part t queue owed none but u = elim (but u) as (λ _. IsSome (get queue u) ⊎ (Contains [] u ⊎ IsRelaxed groups part t u)) [
  | inl queued ↦ inl queued
  | inr rest ↦ elim rest as (λ _. IsSome (get queue u) ⊎ (Contains [] u ⊎ IsRelaxed groups part t u)) [ inl owes ↦ inr (inr (λ leg c. absurd (Contains-nil leg (subst (λ legs. Contains legs leg) (none u owes) c)))) | inr relaxed ↦ inr (inr relaxed) ]
]

-- a bucket whose nodes have no light legs is emptied by the taking
pub EmptiesBucket-taken : (groups : Groups) (b : ℕ) (nodes : List ℕ) (t : List (Option ℕ)) (queue : Entries) → ((u : ℕ) → Contains nodes u → legs_of groups Light u ≡ []) → IsSearch groups t queue b → IsRelaxedBut groups Light t queue nodes → IsRelaxedBut groups Heavy t queue nodes → AreInBucket t groups.delta b nodes → IsBucketEmpty groups.delta b queue → EmptiesBucket groups b t t queue nodes
EmptiesBucket-taken groups b nodes t queue none search light heavy values emptied = record {
  search = search;
  reached = λ source h. h;
  light = IsRelaxedBut-without groups Light t queue nodes none light;
  heavy = heavy;
  nodes = values;
  emptied = emptied;
}

pub AreInBucket-remembered : (t : List (Option ℕ)) (width b : ℕ) (nodes more : List ℕ) → AreInBucket t width b nodes → AreInBucket t width b more → AreInBucket t width b (remember_all nodes more)
AreInBucket-remembered t width b nodes more old new u h = elim (remember_all-of nodes more u h) as (λ _. IsInBucket t width b u) [ inl a ↦ old u a | inr c ↦ new u c ]

-- a queue in which one node was put, or none, has nothing in a bucket to which that value does not belong
pub IsBucketEmpty-more : (width b node value : ℕ) (queue queue' : Entries) (lowers : Bool) → MatchBool lowers (queue' ≡ insert queue node value) (queue' ≡ queue) → (lowers ≡ true → value / width ≡ b → ⊥) → IsBucketEmpty width b queue → IsBucketEmpty width b queue'
IsBucketEmpty-more width b node value queue queue' true is out empty u x has within =
    let now : get (insert queue node value) u ≡ Some x = subst (λ (m : Entries). get m u ≡ Some x) is has in
    elim (cases_eq u node) as (λ _. ⊥) [
      | inl e ↦
          let same : Some value ≡ Some x = sym (subst (λ (v : ℕ). get (insert queue node value) v ≡ Some value) (sym e) (get-insert_same queue node value)) ∙ now in
          let value_is : value ≡ x = cc in
          out refl (ap (λ n. n / width) value_is ∙ within)
      | inr ne ↦ empty u x (sym (get-insert_other queue node value u ne) ∙ now) within
    ]
IsBucketEmpty-more width b node value queue queue' false is out empty u x has within = empty u x (subst (λ (m : Entries). get m u ≡ Some x) is has) within

-- the requests of one node are those of its legs
pub requests_of_one : (groups : Groups) (nodes : List ℕ) (t : List (Option ℕ)) (part : Part) (value : ℕ) (legs : List Leg) → 1 ≤ length nodes → length nodes < 2 → value ≡ value_or 0 t (get_or nodes 0 0) → legs ≡ legs_of groups part (get_or nodes 0 0) → requests_by value legs ≡ requests_of groups nodes t part
requests_of_one groups [] t part value legs some few e e' = absurd (omega arith)
requests_of_one groups (u ∷ []) t part value legs some few e e' = ap₂ (λ v ls. requests_by v ls) e e' ∙ sym (append-nil (requests_by (value_or 0 t u) (legs_of groups part u)))
requests_of_one groups (u ∷ (v ∷ nodes)) t part value legs some few e e' = absurd (omega arith)
