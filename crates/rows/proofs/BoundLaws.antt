-- The laws of bounds.
use Rattle.std.proofs.Common.{◌≡◌, ℕ, ◌-◌, ◌≤◌, [], refl, arith, ⊎_elim, Contains}
use Rattle.roadnet.specs.Net.{Net, IsNode}
use Rattle.roadnet.specs.Walks.{Least, length_of}
use Rattle.roadnet.proofs.Joined.{difference_is_below, no_walk_onward}
use Rattle.rows.specs.Bounds.{HasDifference, IsBound}
use Rattle.rows.specs.BoundLaws.{BoundIsBelow, ShownIsTrue, BoundIsOne, BoundOrShown, BoundFromLandmark, ShownFromLandmark}

pub bound_is_below : BoundIsBelow
bound_is_below net s t bound walk is w =
    ⊎_elim (λ (none : bound ≡ 0). omega arith)
    (λ (some : (landmark : ℕ) × Contains net.landmarks landmark × HasDifference net s t bound landmark).
    let below : some.2.to_target - some.2.to_source ≤ length_of net walk =
    difference_is_below net some.0 s t some.2.to_source some.2.to_target walk some.2.source some.2.target w in
    let same : bound ≡ some.2.to_target - some.2.to_source = some.2.difference_is in
    omega (arith, below, same)) is.reached

pub shown_is_true : ShownIsTrue
shown_is_true net s t shown = no_walk_onward net shown.landmark s t shown.shows.to_source shown.shows.source shown.shows.target

-- a bound is at most another
at_most : (net : Net) (s t bound other : ℕ) → IsBound net s t bound → IsBound net s t other → bound ≤ other
at_most net s t bound other a b =
    ⊎_elim (λ (none : bound ≡ 0). omega arith)
    (λ (some : (landmark : ℕ) × Contains net.landmarks landmark × HasDifference net s t bound landmark). b.above some.0 bound some.1 some.2) a.reached

pub bound_is_one : BoundIsOne
bound_is_one net s t bound other a b =
    let less : bound ≤ other = at_most net s t bound other a b in
    let more : other ≤ bound = at_most net s t other bound b a in
    omega (arith, less, more)

pub bound_or_shown : BoundOrShown
bound_or_shown net s t bound is shown = is.not_shown shown.landmark shown.among shown.shows

-- the least distance from a node to itself
to_itself : (net : Net) (s : ℕ) → IsNode net s → Least net s s 0
to_itself net s node = record { walked = ([], (node, refl), refl); least = λ walk w. omega arith }

pub bound_from_landmark : BoundFromLandmark
bound_from_landmark net s t bound distance node among least is =
    let most : distance ≤ bound = is.above s distance among (record { to_source = 0; to_target = distance; source = to_itself net s node; target = least; difference_is = omega arith }) in
    let below : bound ≤ length_of net least.walked.0 = bound_is_below net s t bound least.walked.0 is least.walked.1 in
    let same : length_of net least.walked.0 ≡ distance = least.walked.2 in
    omega (arith, most, below, same)

pub shown_from_landmark : ShownFromLandmark
shown_from_landmark net s t node among none = record { landmark = s; among = among; shows = record { to_source = 0; source = to_itself net s node; target = none } }
