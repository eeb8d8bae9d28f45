use Rattle.std.proofs.Common.{◌≡◌, ℕ, sym, ap, subst, ◌∙◌}
use Rattle.std.specs.FinMap.{empty}
use Rattle.std.specs.Global.{Vec}
use Rattle.buckets.specs.Queue.{Entries}
use Rattle.frontier.specs.Frontier.{TakesAny}
use Rattle.frontier.specs.Live.{all_queued, queued}
use Rattle.frontier.proofs.Bags.{TakesAny-near, all_queued-near, matched_none, matched_some}
use Rattle.frontier.proofs.lazy.LazyRingFrontier.take_least_into.Goals as goal

pub returns-in-Some-clause-taken : goal.returns-in-Some-clause-taken
returns-in-Some-clause-taken g c =
    let s = c.args.self.now in
    let n = c.take_near.new.self in
    let e = c.take_near.ensures in
    let nodes = c.take_near.new.nodes.items in
    let takes : TakesAny s.ring.delta (queued s.ring.delta s.ring.lists.items (g.V.SearchValues.values s.tentative)) c.in-Some.bucket nodes (queued n.ring.delta n.ring.lists.items (g.V.SearchValues.values n.tentative)) =
    matched_some c.in_ok-bucket.field-0 c.in-Some.bucket (queued s.ring.delta s.ring.lists.items (g.V.SearchValues.values s.tentative) ≡ empty) (λ b. TakesAny s.ring.delta (queued s.ring.delta s.ring.lists.items (g.V.SearchValues.values s.tentative)) b nodes (queued n.ring.delta n.ring.lists.items (g.V.SearchValues.values n.tentative))) c.in-Some.is c.in_ok-bucket.ensures.taken in
    TakesAny-near (g.V.SearchValues.values s.tentative) (g.V.SearchValues.values n.tentative) s.ring.delta n.ring.delta s.bound s.ring.lists.items n.ring.lists.items s.bag.items n.bag.items s.kept c.in-Some.bucket nodes e.width e.tentative (ap (λ (l : Vec (ℕ × ℕ)). l.items) e.bag) takes

pub returns-in-Some-2-clause-taken : goal.returns-in-Some-2-clause-taken
returns-in-Some-2-clause-taken g c =
    let s = c.args.self.now in
    let n = c.take_near.new.self in
    let e = c.take_near.ensures in
    let r = c.deal.new.ring in
    let bag = c.deal.new.bag.items in
    let m = c.take_near-2.new.self in
    let f = c.take_near-2.ensures in
    let nodes = c.take_near-2.new.nodes.items in
    let same : queued n.ring.delta n.ring.lists.items (g.V.SearchValues.values n.tentative) ≡ queued s.ring.delta s.ring.lists.items (g.V.SearchValues.values s.tentative) = matched_none c.in_ok-bucket.field-0 (queued n.ring.delta n.ring.lists.items (g.V.SearchValues.values n.tentative) ≡ queued s.ring.delta s.ring.lists.items (g.V.SearchValues.values s.tentative)) (λ _. Unit {0}) c.in-None.is c.in_ok-bucket.ensures.same in
    let first : all_queued n.ring.delta n.ring.lists.items n.bag.items (g.V.SearchValues.values n.tentative) ≡ all_queued s.ring.delta s.ring.lists.items s.bag.items (g.V.SearchValues.values s.tentative) = all_queued-near (g.V.SearchValues.values s.tentative) (g.V.SearchValues.values n.tentative) s.ring.delta n.ring.delta s.ring.lists.items n.ring.lists.items s.bag.items n.bag.items e.width e.tentative (ap (λ (l : Vec (ℕ × ℕ)). l.items) e.bag) same in
    let dealt : all_queued r.delta r.lists.items bag (g.V.SearchValues.values n.tentative) ≡ all_queued s.ring.delta s.ring.lists.items s.bag.items (g.V.SearchValues.values s.tentative) = c.in_ok-deal-in-None.ensures.same ∙ first in
    let width : r.delta ≡ s.ring.delta = c.deal.ensures.width ∙ e.width in
    let takes : TakesAny r.delta (queued r.delta r.lists.items (g.V.SearchValues.values n.tentative)) c.in-Some-2.bucket nodes (queued m.ring.delta m.ring.lists.items (g.V.SearchValues.values m.tentative)) =
    matched_some c.in_ok-bucket-2.field-0 c.in-Some-2.bucket (queued r.delta r.lists.items (g.V.SearchValues.values n.tentative) ≡ empty) (λ b. TakesAny r.delta (queued r.delta r.lists.items (g.V.SearchValues.values n.tentative)) b nodes (queued m.ring.delta m.ring.lists.items (g.V.SearchValues.values m.tentative))) c.in-Some-2.is c.in_ok-bucket-2.ensures.taken in
    let all : TakesAny r.delta (all_queued r.delta r.lists.items bag (g.V.SearchValues.values n.tentative)) c.in-Some-2.bucket nodes (all_queued m.ring.delta m.ring.lists.items m.bag.items (g.V.SearchValues.values m.tentative)) =
    TakesAny-near (g.V.SearchValues.values n.tentative) (g.V.SearchValues.values m.tentative) r.delta m.ring.delta c.deal.new.bound r.lists.items m.ring.lists.items bag m.bag.items c.deal.ensures.kept c.in-Some-2.bucket nodes f.width f.tentative (ap (λ (l : Vec (ℕ × ℕ)). l.items) f.bag) takes in
    subst (λ (was : Entries). TakesAny s.ring.delta was c.in-Some-2.bucket nodes (all_queued m.ring.delta m.ring.lists.items m.bag.items (g.V.SearchValues.values m.tentative))) dealt
    (subst (λ (w : ℕ). TakesAny w (all_queued r.delta r.lists.items bag (g.V.SearchValues.values n.tentative)) c.in-Some-2.bucket nodes (all_queued m.ring.delta m.ring.lists.items m.bag.items (g.V.SearchValues.values m.tentative))) width all)

pub returns-in-None-2-clause-taken : goal.returns-in-None-2-clause-taken
returns-in-None-2-clause-taken g c =
    let s = c.args.self.now in
    let n = c.take_near.new.self in
    let e = c.take_near.ensures in
    let r = c.deal.new.ring in
    let bag = c.deal.new.bag.items in
    let m = c.take_near-2.new.self in
    let nodes = c.take_near-2.new.nodes.items in
    let same : queued n.ring.delta n.ring.lists.items (g.V.SearchValues.values n.tentative) ≡ queued s.ring.delta s.ring.lists.items (g.V.SearchValues.values s.tentative) = matched_none c.in_ok-bucket.field-0 (queued n.ring.delta n.ring.lists.items (g.V.SearchValues.values n.tentative) ≡ queued s.ring.delta s.ring.lists.items (g.V.SearchValues.values s.tentative)) (λ _. Unit {0}) c.in-None.is c.in_ok-bucket.ensures.same in
    let first : all_queued n.ring.delta n.ring.lists.items n.bag.items (g.V.SearchValues.values n.tentative) ≡ all_queued s.ring.delta s.ring.lists.items s.bag.items (g.V.SearchValues.values s.tentative) = all_queued-near (g.V.SearchValues.values s.tentative) (g.V.SearchValues.values n.tentative) s.ring.delta n.ring.delta s.ring.lists.items n.ring.lists.items s.bag.items n.bag.items e.width e.tentative (ap (λ (l : Vec (ℕ × ℕ)). l.items) e.bag) same in
    let none : queued r.delta r.lists.items (g.V.SearchValues.values n.tentative) ≡ empty = matched_none c.in_ok-bucket-2.field-0 (queued r.delta r.lists.items (g.V.SearchValues.values n.tentative) ≡ empty) (λ b. TakesAny r.delta (queued r.delta r.lists.items (g.V.SearchValues.values n.tentative)) b nodes (queued m.ring.delta m.ring.lists.items (g.V.SearchValues.values m.tentative))) c.in-None-2.is c.in_ok-bucket-2.ensures.taken in
    sym first ∙ (sym c.in_ok-deal-in-None.ensures.same ∙ c.in_ok-deal-in-None.ensures.some none)

pub returns-in-None-2-clause-kept : goal.returns-in-None-2-clause-kept
returns-in-None-2-clause-kept g c =
    let s = c.args.self.now in
    let n = c.take_near.new.self in
    let e = c.take_near.ensures in
    let r = c.deal.new.ring in
    let bag = c.deal.new.bag.items in
    let m = c.take_near-2.new.self in
    let f = c.take_near-2.ensures in
    let same : queued n.ring.delta n.ring.lists.items (g.V.SearchValues.values n.tentative) ≡ queued s.ring.delta s.ring.lists.items (g.V.SearchValues.values s.tentative) = matched_none c.in_ok-bucket.field-0 (queued n.ring.delta n.ring.lists.items (g.V.SearchValues.values n.tentative) ≡ queued s.ring.delta s.ring.lists.items (g.V.SearchValues.values s.tentative)) (λ _. Unit {0}) c.in-None.is c.in_ok-bucket.ensures.same in
    let first : all_queued n.ring.delta n.ring.lists.items n.bag.items (g.V.SearchValues.values n.tentative) ≡ all_queued s.ring.delta s.ring.lists.items s.bag.items (g.V.SearchValues.values s.tentative) = all_queued-near (g.V.SearchValues.values s.tentative) (g.V.SearchValues.values n.tentative) s.ring.delta n.ring.delta s.ring.lists.items n.ring.lists.items s.bag.items n.bag.items e.width e.tentative (ap (λ (l : Vec (ℕ × ℕ)). l.items) e.bag) same in
    let same' : queued m.ring.delta m.ring.lists.items (g.V.SearchValues.values m.tentative) ≡ queued r.delta r.lists.items (g.V.SearchValues.values n.tentative) = matched_none c.in_ok-bucket-2.field-0 (queued m.ring.delta m.ring.lists.items (g.V.SearchValues.values m.tentative) ≡ queued r.delta r.lists.items (g.V.SearchValues.values n.tentative)) (λ _. Unit {0}) c.in-None-2.is c.in_ok-bucket-2.ensures.same in
    all_queued-near (g.V.SearchValues.values n.tentative) (g.V.SearchValues.values m.tentative) r.delta m.ring.delta r.lists.items m.ring.lists.items bag m.bag.items f.width f.tentative (ap (λ (l : Vec (ℕ × ℕ)). l.items) f.bag) same' ∙ (c.in_ok-deal-in-None.ensures.same ∙ first)

pub invariant_of-self : goal.invariant_of-self
invariant_of-self g c = record { none = c.deal.ensures.spare; within = c.deal.ensures.placed c.take_near.new.self.within; kept = c.deal.ensures.kept; room = c.deal.ensures.room }
