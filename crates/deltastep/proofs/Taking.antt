-- Nodes of a bucket that are relaxed one after another.
use Rattle.std.proofs.Common.{◌≡◌, ℕ, ◌+◌, ◌<◌, List, [], ◌∷◌, length, get_or, drop, Option, subst, eqb, arith, Bool, true, false, not}
use Rattle.std.specs.List.{IsDistinct}
use Rattle.std.specs.Bool.{OnTrue, OnFalse}
use Rattle.std.proofs.lemmas.List.{drop_more, drop_all}
use Rattle.std.proofs.lemmas.List.Elements.{Contains-get_or}
use Rattle.std.proofs.lemmas.Map.Keys.{IsDistinct-from_apart}
use Rattle.snapshot.specs.Groups.{Groups}
use Rattle.snapshot.specs.declared.legs.Part.{Part}
use Rattle.snapshot.specs.declared.legs.Part.TheVariants.{Light, Heavy}
use Rattle.buckets.specs.Queue.{Entries}
use Rattle.relax.specs.Requests.{requests_of}
use Rattle.deltastep.specs.Search.{AreInBucket, AreLater, IsBucketEmpty, IsInBucket, IsRelaxedBut, IsSearch, MeetsRequests, top_of}
use Rattle.deltastep.proofs.Relaxing.{IsRelaxedBut-kept, IsRelaxedBut-rest}

-- both parts of a node's legs were relaxed, the light ones first
pub IsRelaxedBut-both : (groups : Groups) (b node : ℕ) (old : List (Option ℕ)) (queue : Entries) (mid : List (Option ℕ)) (queue' : Entries) (new : List (Option ℕ)) (queue'' : Entries)
    → MeetsRequests (top_of groups) (requests_of groups (node ∷ []) old Light) old queue mid queue' → MeetsRequests (top_of groups) (requests_of groups (node ∷ []) mid Heavy) mid queue' new queue''
    → AreInBucket old groups.delta b (node ∷ []) → AreInBucket mid groups.delta b (node ∷ [])
    → (part : Part) (owed : List ℕ) → IsRelaxedBut groups part old queue (node ∷ owed) → IsRelaxedBut groups part new queue'' owed
IsRelaxedBut-both groups b node old queue mid queue' new queue'' light heavy values values' Light owed but =
    IsRelaxedBut-kept groups (node ∷ []) Heavy mid queue' new queue'' heavy Light owed (IsRelaxedBut-rest groups (node ∷ []) Light old queue mid queue' light groups.delta b values owed but)
IsRelaxedBut-both groups b node old queue mid queue' new queue'' light heavy values values' Heavy owed but =
    IsRelaxedBut-rest groups (node ∷ []) Heavy mid queue' new queue'' heavy groups.delta b values' owed (IsRelaxedBut-kept groups (node ∷ []) Light old queue mid queue' light Heavy (node ∷ owed) but)

-- one of the nodes of a bucket
pub AreInBucket-one : (t : List (Option ℕ)) (width b : ℕ) (nodes : List ℕ) (i d : ℕ) → i < length nodes → AreInBucket t width b nodes → AreInBucket t width b (get_or nodes i d ∷ [])
AreInBucket-one t width b nodes i d lt values u (k, within, e) =
    let first : k ≡ 0 = omega arith in
    let is : get_or nodes i d ≡ u = subst (λ n. get_or (get_or nodes i d ∷ []) n u ≡ u) first e in
    subst (λ v. IsInBucket t width b v) is (values (get_or nodes i d) (Contains-get_or nodes i d lt))

-- the node comes first of those that still owe
pub owed_first : (groups : Groups) (part : Part) (t : List (Option ℕ)) (queue : Entries) (nodes : List ℕ) (i d : ℕ) → i < length nodes → IsRelaxedBut groups part t queue (drop i nodes) → IsRelaxedBut groups part t queue (get_or nodes i d ∷ drop (i + 1) nodes)
owed_first groups part t queue nodes i d lt but = subst (λ (l : List ℕ). IsRelaxedBut groups part t queue l) (drop_more nodes i d lt) but

-- once all nodes are relaxed, none owes
pub owed_none : (groups : Groups) (part : Part) (t : List (Option ℕ)) (queue : Entries) (nodes : List ℕ) (i : ℕ) → length nodes ≡ i → IsRelaxedBut groups part t queue (drop i nodes) → IsRelaxedBut groups part t queue []
owed_none groups part t queue nodes i all but = subst (λ (l : List ℕ). IsRelaxedBut groups part t queue l) (drop_all i nodes (omega (arith, all))) but

-- an empty bucket that is the least there may be has all that is queued behind it
pub AreLater-empty : (groups : Groups) (t : List (Option ℕ)) (queue : Entries) (b : ℕ) → IsSearch groups t queue b → IsBucketEmpty groups.delta b queue → AreLater groups.delta b queue
AreLater-empty groups t queue b search empty u x queued = omega (arith, search.above u x queued, empty u x queued)

-- one node is named once
pub IsDistinct-one : (u : ℕ) → IsDistinct eqb (u ∷ [])
IsDistinct-one u = IsDistinct-from_apart eqb (u ∷ []) (λ i j d before within. absurd (omega (arith, before, within)))

-- where no node came back into a bucket that was emptied, all that is queued is behind it
pub AreLater-settled : (groups : Groups) (t : List (Option ℕ)) (queue queue' : Entries) (b : ℕ) (came_back : Bool) → IsSearch groups t queue' b → IsBucketEmpty groups.delta b queue → OnFalse came_back (IsBucketEmpty groups.delta b queue → IsBucketEmpty groups.delta b queue') → OnTrue (not came_back) (AreLater groups.delta b queue')
AreLater-settled groups t queue queue' b true search empty stays = tt
AreLater-settled groups t queue queue' b false search empty stays = AreLater-empty groups t queue' b search (stays empty)

-- a search from some bucket on is one from the first on
pub IsSearch-first : (groups : Groups) (t : List (Option ℕ)) (queue : Entries) (b : ℕ) → IsSearch groups t queue b → IsSearch groups t queue 0
IsSearch-first groups t queue b search = record {
  places = search.places;
  node = search.node;
  below_top = search.below_top;
  queued = search.queued;
  above = λ u x e. omega arith;
}
