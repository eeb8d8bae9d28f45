use Rattle.std.proofs.Common.{◌≡◌, ◌≤◌, ◌<◌, ◌+◌, ◌/◌, ℕ, List, Contains, length, min, get_or, sym, ap, subst, ◌∙◌}
use Rattle.std.specs.FinMap.{empty}
use Rattle.std.specs.Global.{Vec}
use Rattle.std.proofs.lemmas.List.Elements.{Contains-get_or}
use Rattle.frontier.specs.Live.{AreDead, AreEntriesDealt, AreEntriesKept, IsLeastLive, queued}
use Rattle.frontier.proofs.Bags.{AreKept-cleared, all_queued-dead, all_queued-dealt, all_queued-empty, bag_nodes, least_below, least_from, queued-least}
use Rattle.frontier.proofs.lazy.deal.Goals as goal

pub least_live-requires : goal.least_live-requires
least_live-requires g c =
    let bag = c.args.bag.now.items in
    record { nodes = rw c.deref.ensures.value (λ k d lt. bag_nodes (g.V.SearchValues.values c.args.tentative.now) c.args.ring.now.delta c.args.bound.now bag c.requires.kept.rest (get_or bag k d) (Contains-get_or bag k d lt)) }

pub returns-in_default-clause-kept : goal.returns-in_default-clause-kept
returns-in_default-clause-kept g c = AreKept-cleared (g.V.SearchValues.values c.args.tentative.now) c.args.ring.now.delta c.args.bound.now c.args.ring.now.lists.items c.args.bag.now.items c.clear.new.self.items c.requires.kept c.clear.ensures.items

pub returns-in_default-clause-same : goal.returns-in_default-clause-same
returns-in_default-clause-same g c =
    let t = (g.V.SearchValues.values c.args.tentative.now) in
    let ring = c.args.ring.now in
    let dead : AreDead t c.args.bag.now.items = subst (λ (l : List (ℕ × ℕ)). AreDead t l) c.deref.ensures.value c.in_default.ensures in
    all_queued-empty t ring.delta ring.lists.items c.clear.new.self.items c.requires.none c.clear.ensures.items ∙ sym (all_queued-dead t ring.delta ring.lists.items c.args.bag.now.items c.requires.none dead)

pub returns-in_default-clause-some : goal.returns-in_default-clause-some
returns-in_default-clause-some g c _ = all_queued-empty (g.V.SearchValues.values c.args.tentative.now) c.args.ring.now.delta c.args.ring.now.lists.items c.clear.new.self.items c.requires.none c.clear.ensures.items

pub deal_all-dealt-requires-clause-nodes : goal.deal_all-dealt-requires-clause-nodes
deal_all-dealt-requires-clause-nodes g c =
    let bag = c.args.bag.now.items in
    let is : c.deref-2.result.now ≡ c.args.bag.now.items = c.deref-2.ensures.value ∙ ap (λ (l : Vec (ℕ × ℕ)). l.items) c.swap.ensures.y_after in
    rw is (λ k d lt. bag_nodes (g.V.SearchValues.values c.args.tentative.now) c.args.ring.now.delta c.args.bound.now bag c.requires.kept.rest (get_or bag k d) (Contains-get_or bag k d lt))

pub deal_all-dealt-requires-clause-from : goal.deal_all-dealt-requires-clause-from
deal_all-dealt-requires-clause-from g c e there live =
    let ring = c.args.ring.now in
    let t = (g.V.SearchValues.values c.args.tentative.now) in
    let is : c.deref-2.result.now ≡ c.args.bag.now.items = c.deref-2.ensures.value ∙ ap (λ (l : Vec (ℕ × ℕ)). l.items) c.swap.ensures.y_after in
    let least_is : IsLeastLive t c.args.bag.now.items c.in-Some.least = subst (λ (l : List (ℕ × ℕ)). IsLeastLive t l c.in-Some.least) c.deref.ensures.value c.in-Some.ensures in
    let wide : c.empty.new.self.delta ≡ ring.delta = c.empty.ensures.fresh.wide in
    let width : c.begin_at.new.self.delta ≡ ring.delta = c.begin_at.ensures.width ∙ wide in
    let last : c.begin_at.new.self.last ≡ c.in-Some.least / ring.delta = c.begin_at.ensures.last ∙ ap (λ (d : ℕ). c.in-Some.least / d) (c.from.ensures ∙ (c.delta.ensures.value ∙ wide)) in
    let low : c.in-Some.least / ring.delta ≤ e.1 / ring.delta = least_from t ring.delta c.in-Some.least c.args.bag.now.items ring.positive least_is e (subst (λ (l : List (ℕ × ℕ)). Contains l e) is there) live in
    subst (λ (n : ℕ). n ≤ e.1 / c.begin_at.new.self.delta) (sym last) (subst (λ (d : ℕ). c.in-Some.least / ring.delta ≤ e.1 / d) (sym width) low)

pub deal_all-dealt-requires-clause-small : goal.deal_all-dealt-requires-clause-small
deal_all-dealt-requires-clause-small g c =
    let bag = c.args.bag.now.items in
    let is : c.deref-2.result.now ≡ c.args.bag.now.items = c.deref-2.ensures.value ∙ ap (λ (l : Vec (ℕ × ℕ)). l.items) c.swap.ensures.y_after in
    rw is (λ k d lt. c.requires.kept.rest.small (get_or bag k d) (Contains-get_or bag k d lt))

pub returns-clause-same : goal.returns-clause-same
returns-clause-same g c =
    let t = (g.V.SearchValues.values c.args.tentative.now) in
    let ring = c.args.ring.now in
    let bag = c.args.bag.now.items in
    let n = c.deal_all-dealt.new.ring in
    let b = c.deal_all-dealt.new.bag in
    let is : c.deref-2.result.now ≡ c.args.bag.now.items = c.deref-2.ensures.value ∙ ap (λ (l : Vec (ℕ × ℕ)). l.items) c.swap.ensures.y_after in
    let width : n.delta ≡ ring.delta = c.deal_all-dealt.ensures.width ∙ (c.begin_at.ensures.width ∙ c.empty.ensures.fresh.wide) in
    let dealt : AreEntriesDealt t ring.delta bag (length bag) n.lists.items b.items = subst (λ (l : List (ℕ × ℕ)). AreEntriesDealt t ring.delta l (length l) n.lists.items b.items) is (subst (λ (d : ℕ). AreEntriesDealt t d c.deref-2.result.now (length c.deref-2.result.now) n.lists.items b.items) width c.in_ok-dealt.ensures.dealt) in
    rw width (all_queued-dealt t ring.delta ring.lists.items n.lists.items bag b.items c.requires.none dealt)

pub returns-clause-some : goal.returns-clause-some
returns-clause-some g c over =
    let t = (g.V.SearchValues.values c.args.tentative.now) in
    let ring = c.args.ring.now in
    let bag = c.args.bag.now.items in
    let n = c.deal_all-dealt.new.ring in
    let b = c.deal_all-dealt.new.bag in
    let begun = c.begin_at.new.self in
    let is : c.deref-2.result.now ≡ c.args.bag.now.items = c.deref-2.ensures.value ∙ ap (λ (l : Vec (ℕ × ℕ)). l.items) c.swap.ensures.y_after in
    let least_is : IsLeastLive t c.args.bag.now.items c.in-Some.least = subst (λ (l : List (ℕ × ℕ)). IsLeastLive t l c.in-Some.least) c.deref.ensures.value c.in-Some.ensures in
    let wide : c.empty.new.self.delta ≡ ring.delta = c.empty.ensures.fresh.wide in
    let last : begun.last ≡ c.in-Some.least / ring.delta = c.begin_at.ensures.last ∙ ap (λ (d : ℕ). c.in-Some.least / d) (c.from.ensures ∙ (c.delta.ensures.value ∙ wide)) in
    let width : n.delta ≡ ring.delta = c.deal_all-dealt.ensures.width ∙ (c.begin_at.ensures.width ∙ wide) in
    let dealt : AreEntriesDealt t ring.delta bag (length bag) n.lists.items b.items = subst (λ (l : List (ℕ × ℕ)). AreEntriesDealt t ring.delta l (length l) n.lists.items b.items) is (subst (λ (d : ℕ). AreEntriesDealt t d c.deref-2.result.now (length c.deref-2.result.now) n.lists.items b.items) width c.in_ok-dealt.ensures.dealt) in
    let kept : AreEntriesKept t ring.delta c.reach.result n.lists.items b.items = subst (λ (d : ℕ). AreEntriesKept t d c.reach.result n.lists.items b.items) width c.deal_all-dealt.ensures.kept in
    let to : c.reach.result ≡ min (c.in-Some.least / ring.delta + length begun.lists.items) 18446744073709551615 = subst (λ (k : ℕ). c.reach.result ≡ min (k + length begun.lists.items) 18446744073709551615) last c.reach.ensures in
    let near : c.in-Some.least / ring.delta < c.reach.result = least_below t ring.delta c.args.bound.now c.in-Some.least (length begun.lists.items) c.reach.result bag c.requires.kept.rest least_is begun.some to in
    let over' : queued ring.delta n.lists.items t ≡ empty = subst (λ (d : ℕ). queued d n.lists.items t ≡ empty) width over in
    absurd (queued-least t ring.delta ring.lists.items n.lists.items bag b.items c.requires.none dealt c.reach.result c.in-Some.least kept least_is near over')
