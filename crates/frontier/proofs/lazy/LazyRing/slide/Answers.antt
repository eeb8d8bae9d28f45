use Rattle.std.proofs.Common.{◌≡◌, ◌≤◌, [], sym, ◌∙◌, eqb-true, vec_len, arith}
use Rattle.frontier.proofs.Bags.{AreKept-slid, none_long}
use Rattle.frontier.proofs.lazy.LazyRing.slide.Goals as goal

pub invariant_of-self : goal.invariant_of-self
invariant_of-self g c =
    let s = c.args.self.now in
    let zero_long : vec_len s.bag ≡ 0 = eqb-true (vec_len s.bag) 0 (sym c.is_empty.ensures ∙ c.if-is_empty.true) in
    let bare : s.bag.items ≡ [] = none_long s.bag.items (sym s.bag.ok.0 ∙ zero_long) in
    let more : s.bound ≤ c.max-self.result = omega (arith, c.max-self.ensures) in
    record {
      none = s.none;
      within = s.within;
      kept = AreKept-slid (g.V.SearchValues.values s.tentative) s.ring.delta s.bound c.max-self.result s.ring.lists.items s.bag.items s.kept bare more;
      room = omega (arith, s.room, c.max-self.ensures, c.reach.ensures);
    }
