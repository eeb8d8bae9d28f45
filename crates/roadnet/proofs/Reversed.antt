-- The laws of a reversed network.
use Rattle.std.proofs.Common.{◌≡◌, ℕ, zero, suc, List, [], ◌∷◌, ◌++◌, map, Some, None, MatchOption, slice_get, refl, sym, ap, subst, arith, reverse}
use Rattle.std.proofs.lemmas.List.{reverse-append, length-map}
use Rattle.std.proofs.lemmas.List.Elements.{All-map}
use Rattle.roadnet.specs.declared.arcs.RoadArc.{RoadArc}
use Rattle.roadnet.specs.Net.{Net, IsNode, IsNetwork, IsArcAmong, arc_at}
use Rattle.roadnet.specs.Walks.{Walk, Least, NoWalk, distance_at, length_of}
use Rattle.roadnet.specs.Reversal.{reversed, reversed_arc, ReversedTwice, WalksReverse, LeastReverses, NoWalkReverses, ReversedRowIsTo}
use Rattle.roadnet.proofs.Apart.{arc_among, length_is, length_of-cons}
use Rattle.roadnet.proofs.Joined.{walks_join}

IsArcAmong-reversed : (nodes : ℕ) (arc : RoadArc) → IsArcAmong nodes arc → IsArcAmong nodes (reversed_arc arc)
IsArcAmong-reversed nodes arc among = record { tail_from = among.head_from; tail_to = among.head_to; head_from = among.tail_from; head_to = among.tail_to; length_to = among.length_to }

pub IsNetwork-reversed : (net : Net) → IsNetwork net → IsNetwork (reversed net)
IsNetwork-reversed net ok = record {
  some_node = ok.some_node;
  nodes_to = ok.nodes_to;
  arcs_to = rw (length-map net.arcs reversed_arc) ok.arcs_to;
  room_to = ok.room_to;
  each_arc = All-map (IsArcAmong net.nodes) reversed_arc net.arcs (λ k d lt. IsArcAmong-reversed net.nodes _ (ok.each_arc k d lt));
  each_landmark = ok.each_landmark;
  ascending = ok.ascending;
  landmarks_to = ok.landmarks_to;
}

-- .. by its parts
pub IsNetwork-reversed_parts : (net : Net) (nodes : ℕ) (arcs : List RoadArc) (landmarks : List ℕ) (room : ℕ) → nodes ≡ net.nodes → arcs ≡ map reversed_arc net.arcs → landmarks ≡ net.landmarks → room ≡ net.room → IsNetwork net → IsNetwork (record { nodes = nodes; arcs = arcs; landmarks = landmarks; room = room })
IsNetwork-reversed_parts net nodes arcs landmarks room same turned marks kept ok = rw (same, turned, marks, kept) (IsNetwork-reversed net ok)

arcs_twice : (arcs : List RoadArc) → map reversed_arc (map reversed_arc arcs) ≡ arcs
arcs_twice [] = refl
arcs_twice (arc ∷ arcs) = ap (λ (l : List RoadArc). arc ∷ l) (arcs_twice arcs)

pub reversed_twice : ReversedTwice
reversed_twice net = ap (λ (arcs : List RoadArc). let n : Net = record { nodes = net.nodes; arcs = arcs; landmarks = net.landmarks; room = net.room } in n) (arcs_twice net.arcs)

slice_get-reversed : (arcs : List RoadArc) (k : ℕ) (arc : RoadArc) → slice_get arcs k ≡ Some arc → slice_get (map reversed_arc arcs) k ≡ Some (reversed_arc arc)
slice_get-reversed [] k arc e = absurd (let absurdity : ⊥ = cc in absurdity)
slice_get-reversed (a ∷ arcs) zero arc e = let same : a ≡ arc = cc in ap (λ (x : RoadArc). Some (reversed_arc x)) same
slice_get-reversed (a ∷ arcs) (suc k) arc e = slice_get-reversed arcs k arc e

arc_at-reversed : (net : Net) (k : ℕ) (arc : RoadArc) → arc_at net k ≡ Some arc → arc_at (reversed net) k ≡ Some (reversed_arc arc)
arc_at-reversed net zero arc at = absurd (let no : None ≡ Some arc = at in let absurdity : ⊥ = cc in absurdity)
arc_at-reversed net (suc k) arc at = slice_get-reversed net.arcs k arc at

pub walks_reverse : WalksReverse
walks_reverse net s t [] ok walk = ((subst (λ x. IsNode net x) walk.1 walk.0, sym walk.1), refl)
walks_reverse net s t (k ∷ walk) ok w =
    let back = reversed net in
    let arc : RoadArc = w.0 in
    let at = arc_at-reversed net k arc w.1 in
    let among = arc_among net k arc ok w.1 in
    let rest = walks_reverse net arc.head t walk ok w.4 in
    let last : Walk back arc.head s (k ∷ []) = (reversed_arc arc, at, w.2, refl, ((among.tail_from, among.tail_to), w.3)) in
    let both = walks_join back t arc.head s (reverse walk) (k ∷ []) rest.0 last in
    let is : reverse (k ∷ walk) ≡ reverse walk ++ k ∷ [] = reverse-append (k ∷ []) walk in
    subst (λ (ks : List ℕ). Walk back t s ks × (length_of back ks ≡ length_of net (k ∷ walk))) (sym is)
    (both.0, omega (arith, both.1, rest.1, length_is net k arc w.1, length_is back k (reversed_arc arc) at, length_of-cons net k walk, length_of-cons back k []))

-- a walk of the reversed network is one of the network
walks_of_reversed : (net : Net) (s t : ℕ) (walk : List ℕ) → IsNetwork net → Walk (reversed net) t s walk → Walk net s t (reverse walk) × (length_of net (reverse walk) ≡ length_of (reversed net) walk)
walks_of_reversed net s t walk ok w =
    subst (λ (n : Net). Walk n s t (reverse walk) × (length_of n (reverse walk) ≡ length_of (reversed net) walk)) (reversed_twice net) (walks_reverse (reversed net) t s walk (IsNetwork-reversed net ok) w)

pub least_reverses : LeastReverses
least_reverses net s t d ok a =
    let back = walks_of_reversed net s t a.walked.0 ok a.walked.1 in
    record {
      walked = (reverse a.walked.0, back.0, omega (arith, back.1, a.walked.2));
      least = λ walk w. let there = walks_reverse net s t walk ok w in omega (arith, there.1, a.least (reverse walk) there.0);
    }

pub no_walk_reverses : NoWalkReverses
no_walk_reverses net s t ok none walk w = none (reverse walk) (walks_reverse net s t walk ok w).0

pub reversed_row_is_to : ReversedRowIsTo
reversed_row_is_to net t row ok of s node =
    elim (distance_at row s) as (λ o. MatchOption o (NoWalk (reversed net) t s) (Least (reversed net) t s) → MatchOption o (NoWalk net s t) (Least net s t)) [
      | None ↦ no_walk_reverses net s t ok
      | Some d ↦ least_reverses net s t d ok
    ] (of.each s node)
