-- What is known of a query that is not refused, and right replies to it.
use Rattle.std.proofs.Common.{◌≡◌, ℕ, Bool, true, false, ◌&&◌, Option, None, Result, Ok, Err, refl, sym, ◌∙◌, subst, arith}
use Rattle.std.proofs.lemmas.Bool.Decides.{nat_tests}
use Rattle.std.specs.Prelude.{IfOk}
use Rattle.roadnet.specs.declared.refusals.Refusal.{Refusal}
use Rattle.roadnet.specs.declared.refusals.OutOfMemory.{OutOfMemory}
use Rattle.roadnet.specs.Net.{Net, IsNode}
use Rattle.roadnet.specs.Step.{is_node}
use Rattle.rows.specs.declared.queries.Query.{Query}
use Rattle.rows.specs.declared.queries.Query.TheVariants.{Dist, From, Lower}
use Rattle.rows.specs.declared.queries.Reply.{Reply}
use Rattle.rows.specs.declared.queries.Reply.TheVariants.{Length, NoWalk, AtLeast, Refused}
use Rattle.snapshot.specs.Groups.{Groups, IsSnapshotOf}
use Rattle.kept_rows.specs.declared.caches.RowCache.{RowCache}
use Rattle.kept_rows.specs.Cached.{HasRowsOf}
use Rattle.rows.specs.Replies.{IsAnswer, IsDistance, IsRight, are_nodes, query_refusal_of}

passes_node : (net : Net) (x : ℕ) → is_node net x ≡ true → IsNode net x
passes_node net x passes = (grind (arith, nat_tests), grind (arith, nat_tests))

both : (a b : Bool) → (a && b) ≡ true → (a ≡ true) × (b ≡ true)
both true b e = (refl, e)
both false b e = cc

from_nodes : (net : Net) (s t : ℕ) → are_nodes net s t ≡ true → IsNode net s × IsNode net t
from_nodes net s t e = let two = both (is_node net s) (is_node net t) e in (passes_node net s two.0, passes_node net t two.1)

nodes_by : (net : Net) (s t : ℕ) (are : Bool) → are_nodes net s t ≡ are → query_refusal_of net (Dist s t) ≡ None → IsNode net s × IsNode net t
nodes_by net s t true e none = from_nodes net s t e
nodes_by net s t false e none = absurd (let none' = rw e at none in cc)

-- both are nodes
pub nodes_of_dist : (net : Net) (s t : ℕ) → query_refusal_of net (Dist s t) ≡ None → IsNode net s × IsNode net t
nodes_of_dist net s t none = nodes_by net s t (are_nodes net s t) refl none

pub nodes_of_lower : (net : Net) (s t : ℕ) → query_refusal_of net (Lower s t) ≡ None → IsNode net s × IsNode net t
nodes_of_lower net s t none = nodes_of_dist net s t none

from_by : (net : Net) (l t : ℕ) (are : Bool) → are_nodes net l t ≡ are → query_refusal_of net (From l t) ≡ None → IsNode net l × IsNode net t
from_by net l t true e none = from_nodes net l t e
from_by net l t false e none = absurd (let none' = rw e at none in cc)

pub nodes_of_from : (net : Net) (l t : ℕ) → query_refusal_of net (From l t) ≡ None → IsNode net l × IsNode net t
nodes_of_from net l t none = from_by net l t (are_nodes net l t) refl none

no_refusal : (net : Net) (query : Query) (reply : Reply) → IsAnswer net query reply → (query_refusal_of net query ≡ None) → IsRight net query reply
no_refusal net query (Length d) answer none = (none, answer)
no_refusal net query NoWalk answer none = (none, answer)
no_refusal net query (AtLeast d) answer none = (none, answer)
no_refusal net (Dist s t) (Refused refusal) answer none = absurd answer
no_refusal net (From l t) (Refused refusal) answer none = absurd answer
no_refusal net (Lower s t) (Refused refusal) answer none = absurd answer

-- the answer to a query that is not refused is a right reply
pub right_answer : (net : Net) (query : Query) (reply : Reply) → query_refusal_of net query ≡ None → IsAnswer net query reply → IsRight net query reply
right_answer net query reply none answer = no_refusal net query reply answer none

pub right_told : (net : Net) (query : Query) (result : Result Reply OutOfMemory) → query_refusal_of net query ≡ None → IfOk result (IsAnswer net query) → IfOk result (IsRight net query)
right_told net query (Ok reply) none is = right_answer net query reply none is
right_told net query (Err e) none is = tt

-- two nodes are not refused
pub nodes_told : (net : Net) (s t : ℕ) → are_nodes net s t ≡ true → query_refusal_of net (Dist s t) ≡ None
nodes_told net s t e = rw e refl

-- a call that tells no refusal
pub not_refused : (told net : Net) (query : Query) (result : Option Refusal) → told ≡ net → result ≡ query_refusal_of told query → result ≡ None → query_refusal_of net query ≡ None
not_refused told net query result same is none = subst (λ (x : Net). query_refusal_of x query ≡ None) same (sym is ∙ none)

-- what a row tells of each network with these groups is a right reply in this one
pub in_net : (net : Net) (s t version : ℕ) (groups : Groups) (cache : RowCache) (result : Result Reply OutOfMemory) → IsSnapshotOf net groups → HasRowsOf version net cache → query_refusal_of net (Dist s t) ≡ None
    → IfOk result (λ reply. (n : Net) → IsSnapshotOf n groups → HasRowsOf version n cache → IsNode n t → IsDistance n s t reply) → IfOk result (IsRight net (Dist s t))
in_net net s t version groups cache (Ok reply) of has none is = right_answer net (Dist s t) reply none (is net of has (nodes_of_dist net s t none).1)
in_net net s t version groups cache (Err e) of has none is = tt
