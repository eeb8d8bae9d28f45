-- The laws of walks.
use Rattle.std.proofs.Common.{◌≡◌, ℕ, ◌+◌, ◌≤◌, List, [], ◌∷◌, ◌++◌, sym, subst, arith}
use Rattle.std.proofs.lemmas.List.Sums.{sum_by-append}
use Rattle.roadnet.specs.Net.{Net}
use Rattle.roadnet.specs.Walks.{Walk, length_of, length_of_arc}
use Rattle.roadnet.specs.WalkLaws.{WalksJoin, LeastIsOne, LeastOrNoWalk, DifferenceIsBelow, NoWalkOnward}

join : (net : Net) (s u t : ℕ) (v w : List ℕ) → Walk net s u v → Walk net u t w → Walk net s t (v ++ w)
join net s u t [] w first second = subst (λ (x : ℕ). Walk net x t w) (sym first.1) second
join net s u t (k ∷ v) w first second = (first.0, first.1, first.2, first.3, join net first.0.head u t v w first.4 second)

pub walks_join : WalksJoin
walks_join net s u t v w first second = (join net s u t v w first second, sum_by-append (length_of_arc net) v w)

pub least_is_one : LeastIsOne
least_is_one net s t d e a b =
    let d_le : d ≤ length_of net b.walked.0 = a.least b.walked.0 b.walked.1 in
    let e_le : e ≤ length_of net a.walked.0 = b.least a.walked.0 a.walked.1 in
    omega (arith, a.walked.2, b.walked.2)

pub difference_is_below : DifferenceIsBelow
difference_is_below net l s t to_s to_t walk a b w =
    let both : Walk net l t (a.walked.0 ++ walk) × (length_of net (a.walked.0 ++ walk) ≡ length_of net a.walked.0 + length_of net walk) =
    walks_join net l s t a.walked.0 walk a.walked.1 w in
    let most : to_t ≤ length_of net (a.walked.0 ++ walk) = b.least (a.walked.0 ++ walk) both.0 in
    omega (arith, a.walked.2, both.1)

pub no_walk_onward : NoWalkOnward
no_walk_onward net l s t to_s a none walk w = none (a.walked.0 ++ walk) (walks_join net l s t a.walked.0 walk a.walked.1 w).0

pub least_or_no_walk : LeastOrNoWalk
least_or_no_walk net s t d a none = none a.walked.0 a.walked.1
