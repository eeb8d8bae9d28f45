-- One route more is answered.
use Rattle.std.proofs.Common.{◌≡◌, ◌∙◌, true, false, refl, ℕ, ◌+◌, ◌<◌, List, [], ◌∷◌, ◌++◌, Option, Some, length, get_or, take, sym, ap, subst, append_assoc, append-nil, arith}
use Rattle.std.specs.Prelude.{IsSome}
use Rattle.std.specs.Io.KnownBytes.{Appends}
use Rattle.std.proofs.KnownBytes.{Appends-trans}
use Rattle.std.proofs.lemmas.List.{take_more, length-take-le}
use Rattle.std.proofs.lemmas.Slice.Zip.{all_zipped_more}
use Rattle.roadnet.specs.Net.{Net}
use Rattle.roadnet.specs.declared.refusals.Refusal.TheVariants.{NoSuchNode}
use Rattle.rows.specs.Replies.{are_nodes, query_refusal_of}
use Rattle.rows.specs.declared.queries.Query.TheVariants.{Dist}
use Rattle.dimacs.specs.declared.lists.pairs.Pair.{Pair}
use Rattle.routes.specs.declared.replies.RouteReply.{RouteReply}
use Rattle.routes.specs.RouteReplies.{IsRightRoute}
use Rattle.printing.specs.RouteLines.{route_lines}
use Rattle.querytexts.specs.Route.{AreRightRoutes, routes_lines}

push_lines : (net : Net) (pairs : List Pair) (replies : List RouteReply) (pair : Pair) (reply : RouteReply) → length replies ≡ length pairs
    → routes_lines net (pairs ++ pair ∷ []) (replies ++ reply ∷ []) ≡ routes_lines net pairs replies ++ route_lines net pair.source pair.target reply
push_lines net [] [] pair reply same = append-nil (route_lines net pair.source pair.target reply)
push_lines net [] (r ∷ rs) pair reply same = absurd (omega (arith, same))
push_lines net (p ∷ ps) [] pair reply same = absurd (omega (arith, same))
push_lines net (p ∷ ps) (r ∷ rs) pair reply same =
    ap (λ l. route_lines net p.source p.target r ++ l) (push_lines net ps rs pair reply (omega (arith, same)))
    ∙ sym (append_assoc (route_lines net p.source p.target r) (routes_lines net ps rs) (route_lines net pair.source pair.target reply))

lines_of_one_more : (net : Net) (pairs : List Pair) (replies : List RouteReply) (i : ℕ) (d : Pair) (e : RouteReply) → i < length pairs → i < length replies
    → routes_lines net (take (i + 1) pairs) (take (i + 1) replies) ≡ routes_lines net (take i pairs) (take i replies) ++ route_lines net (get_or pairs i d).source (get_or pairs i d).target (get_or replies i e)
lines_of_one_more net pairs replies i d e lt lt' =
    let more : take (i + 1) pairs ≡ take i pairs ++ get_or pairs i d ∷ [] = take_more pairs i d lt in
    let more' : take (i + 1) replies ≡ take i replies ++ get_or replies i e ∷ [] = take_more replies i e lt' in
    let long = length-take-le i pairs (omega (arith, lt)) in
    let long' = length-take-le i replies (omega (arith, lt')) in
    let pushed : routes_lines net (take i pairs ++ get_or pairs i d ∷ []) (take i replies ++ get_or replies i e ∷ []) ≡ routes_lines net (take i pairs) (take i replies) ++ route_lines net (get_or pairs i d).source (get_or pairs i d).target (get_or replies i e) =
    push_lines net (take i pairs) (take i replies) (get_or pairs i d) (get_or replies i e) (long' ∙ sym long) in
    rw (more, more') pushed

pub routed_more : (net : Net) (pairs : List Pair) (replies : List RouteReply) (i : ℕ) (d : Pair) (e : RouteReply) (old mid new : Option (List ℕ)) → i < length pairs → i < length replies
    → Appends old mid (routes_lines net (take i pairs) (take i replies)) → Appends mid new (route_lines net (get_or pairs i d).source (get_or pairs i d).target (get_or replies i e))
    → Appends old new (routes_lines net (take (i + 1) pairs) (take (i + 1) replies))
routed_more net pairs replies i d e old mid new lt lt' before here = subst (Appends old new) (sym (lines_of_one_more net pairs replies i d e lt lt')) (Appends-trans old mid new _ _ before here)

-- with a right reply more all are right still
pub right_more : (net : Net) (pairs : List Pair) (replies : List RouteReply) (i : ℕ) (d : Pair) (reply : RouteReply) → i < length pairs → AreRightRoutes net (take i pairs) replies
    → IsRightRoute net (get_or pairs i d).source (get_or pairs i d).target reply → AreRightRoutes net (take (i + 1) pairs) (replies ++ reply ∷ [])
right_more net pairs replies i d reply lt before here =
    subst (λ (ps : List Pair). AreRightRoutes net ps (replies ++ reply ∷ [])) (sym (take_more pairs i d lt))
    (all_zipped_more (λ (p : Pair) (r : RouteReply). IsRightRoute net p.source p.target r) (take i pairs) replies (get_or pairs i d) reply before here)

-- a number that is not a node's is refused, and nothing else is
pub unrouted : (net : Net) (s t : ℕ) → are_nodes net s t ≡ false → query_refusal_of net (Dist s t) ≡ Some NoSuchNode
unrouted net s t other = rw other refl

pub unrefused : (net : Net) (s t : ℕ) → are_nodes net s t ≡ true → IsSome (query_refusal_of net (Dist s t)) → ⊥
unrefused net s t are some = absurd (let never : false ≡ true = rw are at some in cc)
