use Rattle.std.proofs.Common.{◌≤◌, ◌<◌, ℕ, List, Contains, IsSome, length, subst, sym, arith}
use Rattle.std.proofs.lemmas.List.Elements.{All-contains}
use Rattle.relax.specs.Values.{value_at, value_or}
use Rattle.frontier.specs.Live.{AreJustQueued, IsBag, all_queued}
use Rattle.frontier.proofs.Resumed.{AreKept-standing, AreJustQueued-standing, IsBag-standing}
use Rattle.frontier.proofs.EntryLists.{AreInPlace-none}
use Rattle.frontier.proofs.lazy.LazyRing.resumed.Goals as goal

pub invariant_of-result : goal.invariant_of-result
invariant_of-result g c =
    let t = g.V.SearchValues.values c.args.tentative in
    let nodes = c.args.nodes.now in
    let each : (u : ℕ) → Contains nodes u → (1 ≤ u) × IsSome (value_at t u) × (value_or 0 t u < 18446744073709551615) = λ u here. let value = All-contains (λ (v : ℕ). IsSome (value_at t v) × (value_or 0 t v < 18446744073709551615)) nodes u c.requires.values here in ((All-contains (λ (v : ℕ). (1 ≤ v) × (v < length t)) nodes u c.requires.nodes here).0, value.0, value.1) in
    record {
      none = c.new.ensures.items;
      within = AreInPlace-none c.args.ring.delta c.args.ring.last c.args.ring.lists.items c.requires.none;
      kept = AreKept-standing t c.args.ring.delta c.args.ring.lists.items c.in_ok-bag.bag.items c.requires.none (subst (λ (l : List (ℕ × ℕ)). IsBag t c.args.ring.delta 0 l) (sym c.in_ok-bag.ensures.entries) (IsBag-standing t nodes each c.args.ring.delta c.requires.once));
      room = omega arith;
    }

pub returns-clause-queued : goal.returns-clause-queued
returns-clause-queued g c =
    let t = g.V.SearchValues.values c.args.tentative in
    let nodes = c.args.nodes.now in
    let each : (u : ℕ) → Contains nodes u → (1 ≤ u) × IsSome (value_at t u) × (value_or 0 t u < 18446744073709551615) = λ u here. let value = All-contains (λ (v : ℕ). IsSome (value_at t v) × (value_or 0 t v < 18446744073709551615)) nodes u c.requires.values here in ((All-contains (λ (v : ℕ). (1 ≤ v) × (v < length t)) nodes u c.requires.nodes here).0, value.0, value.1) in
    subst (λ (l : List (ℕ × ℕ)). AreJustQueued t nodes (all_queued c.args.ring.delta c.args.ring.lists.items l t)) (sym c.in_ok-bag.ensures.entries) (AreJustQueued-standing t nodes each c.args.ring.delta c.args.ring.lists.items c.requires.none)
