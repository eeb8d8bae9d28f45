use Rattle.std.proofs.Common.{◌≡◌, ◌<◌, ℕ, Some, Option, unwrap_or, set, subst, sym, arith}
use Rattle.relax.specs.Values.{value_at}
use Rattle.frontier.specs.Live.{AreEntriesKept}
use Rattle.frontier.proofs.Bags.{AreKept-lowered, IsNowhere-lower, all_queued-lowered, is_at_most-lowered}
use Rattle.frontier.proofs.lazy.LazyRingFrontier.lower.Goals as goal

-- the value was not set
pub invariant_of-self : goal.invariant_of-self
invariant_of-self g c = let s = c.args.self.now in record { none = s.none; within = s.within; kept = rw c.in_err-set.ensures.same s.kept; room = s.room }

-- the value was set, and the entry was put, or was not
pub invariant_of-self-2 : goal.invariant_of-self-2
invariant_of-self-2 g c =
    let s = c.args.self.now in
    let v = g.V.SearchValues.values s.tentative in
    let n = c.put.new.ring in
    let t = set v c.args.node (Some c.args.value) in
    let lower : (x : ℕ) → value_at v c.args.node ≡ Some x → c.args.value < x = λ x e. subst (λ (o : Option ℕ). c.args.value < unwrap_or o c.args.top) e (subst (λ (o : Option ℕ). c.args.value < unwrap_or o c.args.top) c.value.ensures.value (c.is_lower.ensures.lower c.if-not-is_lower.false)) in
    let within = c.requires.node.1 in
    let before : AreEntriesKept t s.ring.delta s.bound s.ring.lists.items s.bag.items = AreKept-lowered v s.ring.delta s.bound s.ring.lists.items s.bag.items s.kept c.args.node c.args.value within lower in
    let after : AreEntriesKept t s.ring.delta s.bound n.lists.items c.put.new.bag.items = c.put.ensures.kept t before (record {
      node = c.requires.node.0;
      above = is_at_most-lowered v s.ring.delta s.bound s.ring.lists.items s.bag.items s.kept c.args.node c.args.value within lower;
      nowhere = IsNowhere-lower v s.ring.delta s.bound s.ring.lists.items s.bag.items s.kept c.args.node c.args.value within lower;
    }) in
    record {
      none = s.none;
      within = c.put.ensures.placed s.within;
      kept = rw c.in_ok-set.ensures.set (subst (λ (w : ℕ). AreEntriesKept t w s.bound n.lists.items c.put.new.bag.items) (sym c.put.ensures.width) after);
      room = omega (arith, s.room, c.put.ensures.last, c.put.ensures.size);
    }

pub returns-clause-queued : goal.returns-clause-queued
returns-clause-queued g c =
    let s = c.args.self.now in
    let v = g.V.SearchValues.values s.tentative in
    let lower : (x : ℕ) → value_at v c.args.node ≡ Some x → c.args.value < x = λ x e. subst (λ (o : Option ℕ). c.args.value < unwrap_or o c.args.top) e (subst (λ (o : Option ℕ). c.args.value < unwrap_or o c.args.top) c.value.ensures.value (c.is_lower.ensures.lower c.if-not-is_lower.false)) in
    rw (c.in_ok-set.ensures.set, c.put.ensures.width) (all_queued-lowered v s.ring.delta s.bound s.ring.lists.items s.bag.items s.kept c.args.node c.args.value c.requires.node.1 lower c.put.new.ring.lists.items c.put.new.bag.items (c.in_ok-put.ensures.dealt (set v c.args.node (Some c.args.value))))
