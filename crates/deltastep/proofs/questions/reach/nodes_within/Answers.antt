use Rattle.std.proofs.Common.{◌≡◌, ℕ, List, Some, filter, sym, subst}
use Rattle.std.specs.Global.{Vec}
use Rattle.std.proofs.lemmas.Result.{IfOk-weaker}
use Rattle.deltastep.specs.Reach.{AreAllWithin, has_within}
use Rattle.deltastep.proofs.Telling.{AreAllWithin-noted, ArePlaces-noted}
use Rattle.deltastep.proofs.questions.reach.nodes_within.Goals as goal

pub known_among-requires : goal.known_among-requires
known_among-requires c = record { nodes = ArePlaces-noted c.args.values.now c.in-Some.noted.now c.in-Some.ensures }

pub returns-in-Some : goal.returns-in-Some
returns-in-Some c =
    let t = c.args.values.now in
    let limit = c.args.limit in
    IfOk-weaker c.known_among.result (λ (l : Vec ℕ). l.items ≡ filter (has_within t (Some limit)) c.in-Some.noted.now) (λ (l : Vec ℕ). AreAllWithin t limit l.items) (λ l is. subst (λ (xs : List ℕ). AreAllWithin t limit xs) (sym is) (AreAllWithin-noted t limit c.in-Some.noted.now c.in-Some.ensures)) c.known_among.ensures
