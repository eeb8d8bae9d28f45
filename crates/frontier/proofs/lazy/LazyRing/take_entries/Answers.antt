use Rattle.std.proofs.Common.{◌≡◌, ◌<◌, ◌++◌, ℕ, List, get_or, length, ap, subst, sym, ◌∙◌, arith}
use Rattle.std.proofs.lemmas.List.Elements.{Contains-get_or}
use Rattle.frontier.specs.Entries.{TakesFirst, entries_at}
use Rattle.std.specs.Global.{Vec}
use Rattle.frontier.specs.Frontier.{TakesAny}
use Rattle.frontier.specs.Live.{AreEntriesKept, live_nodes, queued}
use Rattle.frontier.proofs.Bags.{AreKept-fewer, AreKept-same}
use Rattle.frontier.proofs.Live.{AreEntriesOf-taken, queued-none, queued-dead, stays, TakesAny-taken, taken_nodes}
use Rattle.frontier.proofs.EntryLists.{AreInPlace-next, TakesFirst-next}
use Rattle.frontier.proofs.lazy.LazyRing.take_entries.Goals as goal

pub invariant_of-self : goal.invariant_of-self
invariant_of-self g c =
    let s = c.args.self.now in
    record {
      none = ap (λ (l : Vec (ℕ × ℕ)). l.items) c.in_default.ensures.unused ∙ s.none;
      within = rw (c.in_default.ensures.none, c.in_default.ensures.last, c.take.ensures.width) s.within;
      kept = subst (λ (w : ℕ). AreEntriesKept (g.V.SearchValues.values s.tentative) w s.bound c.take.new.self.lists.items s.bag.items) (sym c.take.ensures.width) (AreKept-same (g.V.SearchValues.values s.tentative) s.ring.delta s.bound s.ring.lists.items s.bag.items s.kept c.take.new.self.lists.items (λ p. ap (λ (l : Vec (Vec (ℕ × ℕ))). entries_at l.items p) c.in_default.ensures.none));
      room = omega (arith, s.room, c.in_default.ensures.last, c.take.ensures.size);
    }

pub returns-in_default-clause-taken : goal.returns-in_default-clause-taken
returns-in_default-clause-taken g c =
    let s = c.args.self.now in
    queued-none s.ring.delta (g.V.SearchValues.values s.tentative) s.ring.lists.items c.in_default.ensures.taken

pub add_live-added-requires : goal.add_live-added-requires
add_live-added-requires g c =
    let s = c.args.self.now in
    let takes : TakesFirst s.ring.delta s.ring.lists.items c.take.new.self.lists.items c.in-Some.bucket c.take.new.entries.items = TakesFirst-next s.ring.last c.in-Some.bucket s.ring.lists.items c.take.new.self.lists.items c.take.new.entries.items c.take.ensures.size c.in-Some.ensures.taken s.ring.delta s.within in
    record {
      nodes = rw c.deref.ensures.value (λ k d lt. taken_nodes s.ring.delta s.ring.last c.in-Some.bucket s.ring.lists.items c.take.new.self.lists.items (g.V.SearchValues.values s.tentative) c.take.new.entries.items c.take.ensures.size s.within s.kept.stand c.in-Some.ensures.taken.window.0 takes (get_or c.take.new.entries.items k d) (Contains-get_or c.take.new.entries.items k d lt));
    }

pub invariant_of-self-2 : goal.invariant_of-self-2
invariant_of-self-2 g c =
    let s = c.args.self.now in
    let takes : TakesFirst s.ring.delta s.ring.lists.items c.take.new.self.lists.items c.in-Some.bucket c.take.new.entries.items = TakesFirst-next s.ring.last c.in-Some.bucket s.ring.lists.items c.take.new.self.lists.items c.take.new.entries.items c.take.ensures.size c.in-Some.ensures.taken s.ring.delta s.within in
    record {
      none = c.clear.ensures.items;
      within = rw (c.in-Some.ensures.last, c.take.ensures.width) (AreInPlace-next s.ring.last c.in-Some.bucket s.ring.lists.items c.take.new.self.lists.items c.take.new.entries.items c.take.ensures.size c.in-Some.ensures.taken s.ring.delta s.within);
      kept = subst (λ (w : ℕ). AreEntriesKept (g.V.SearchValues.values s.tentative) w s.bound c.take.new.self.lists.items s.bag.items) (sym c.take.ensures.width) (AreKept-fewer (g.V.SearchValues.values s.tentative) s.ring.delta s.bound s.ring.lists.items c.take.new.self.lists.items s.bag.items s.kept
          (AreEntriesOf-taken s.ring.delta s.ring.last c.in-Some.bucket s.ring.lists.items c.take.new.self.lists.items (g.V.SearchValues.values s.tentative) c.take.new.entries.items c.take.ensures.size s.within s.kept.stand c.in-Some.ensures.taken.window.0 takes)
          (λ p e there. (stays s.ring.delta s.ring.last c.in-Some.bucket s.ring.lists.items c.take.new.self.lists.items (g.V.SearchValues.values s.tentative) c.take.new.entries.items c.take.ensures.size s.within s.kept.stand c.in-Some.ensures.taken.window.0 takes p e there).0));
      room = omega (arith, s.room, c.in-Some.ensures.taken.window.0, c.in-Some.ensures.last, c.take.ensures.size);
    }

pub returns-clause-taken : goal.returns-clause-taken
returns-clause-taken g c some =
    let s = c.args.self.now in
    let takes : TakesFirst s.ring.delta s.ring.lists.items c.take.new.self.lists.items c.in-Some.bucket c.take.new.entries.items = TakesFirst-next s.ring.last c.in-Some.bucket s.ring.lists.items c.take.new.self.lists.items c.take.new.entries.items c.take.ensures.size c.in-Some.ensures.taken s.ring.delta s.within in
    let is : c.add_live-added.new.nodes.items ≡ live_nodes (g.V.SearchValues.values s.tentative) c.take.new.entries.items = c.in_ok-added.ensures.added ∙ (ap (λ (l : List ℕ). l ++ live_nodes (g.V.SearchValues.values s.tentative) c.deref.result.now) c.requires.none ∙ ap (λ (l : List (ℕ × ℕ)). live_nodes (g.V.SearchValues.values s.tentative) l) c.deref.ensures.value) in
    let there : 0 < length (live_nodes (g.V.SearchValues.values s.tentative) c.take.new.entries.items) = subst (λ (l : List ℕ). 0 < length l) is some in
    let was : TakesAny s.ring.delta (queued s.ring.delta s.ring.lists.items (g.V.SearchValues.values s.tentative)) c.in-Some.bucket (live_nodes (g.V.SearchValues.values s.tentative) c.take.new.entries.items) (queued s.ring.delta c.take.new.self.lists.items (g.V.SearchValues.values s.tentative)) = TakesAny-taken s.ring.delta s.ring.last c.in-Some.bucket s.ring.lists.items c.take.new.self.lists.items (g.V.SearchValues.values s.tentative) c.take.new.entries.items c.take.ensures.size s.within s.kept.stand c.in-Some.ensures.taken.window.0 takes there in
    subst (λ w. TakesAny s.ring.delta (queued s.ring.delta s.ring.lists.items (g.V.SearchValues.values s.tentative)) c.in-Some.bucket c.add_live-added.new.nodes.items (queued w c.take.new.self.lists.items (g.V.SearchValues.values s.tentative))) (sym c.take.ensures.width)
    (subst (λ (l : List ℕ). TakesAny s.ring.delta (queued s.ring.delta s.ring.lists.items (g.V.SearchValues.values s.tentative)) c.in-Some.bucket l (queued s.ring.delta c.take.new.self.lists.items (g.V.SearchValues.values s.tentative))) (sym is) was)

pub returns-clause-dead : goal.returns-clause-dead
returns-clause-dead g c none =
    let s = c.args.self.now in
    let takes : TakesFirst s.ring.delta s.ring.lists.items c.take.new.self.lists.items c.in-Some.bucket c.take.new.entries.items = TakesFirst-next s.ring.last c.in-Some.bucket s.ring.lists.items c.take.new.self.lists.items c.take.new.entries.items c.take.ensures.size c.in-Some.ensures.taken s.ring.delta s.within in
    let is : c.add_live-added.new.nodes.items ≡ live_nodes (g.V.SearchValues.values s.tentative) c.take.new.entries.items = c.in_ok-added.ensures.added ∙ (ap (λ (l : List ℕ). l ++ live_nodes (g.V.SearchValues.values s.tentative) c.deref.result.now) c.requires.none ∙ ap (λ (l : List (ℕ × ℕ)). live_nodes (g.V.SearchValues.values s.tentative) l) c.deref.ensures.value) in
    ap (λ w. queued w c.take.new.self.lists.items (g.V.SearchValues.values s.tentative)) c.take.ensures.width
    ∙ queued-dead s.ring.delta s.ring.last c.in-Some.bucket s.ring.lists.items c.take.new.self.lists.items (g.V.SearchValues.values s.tentative) c.take.new.entries.items c.take.ensures.size s.within s.kept.stand c.in-Some.ensures.taken.window.0 takes (sym is ∙ none)
