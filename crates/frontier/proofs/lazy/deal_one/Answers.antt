use Rattle.std.proofs.Common.{◌≡◌, true, sym, ◌∙◌}
use Rattle.frontier.specs.Live.{is_live}
use Rattle.frontier.proofs.Bags.{is_at_most-live}
use Rattle.frontier.proofs.Live.{live_has}
use Rattle.frontier.proofs.lazy.deal_one.Goals as goal

pub put-requires-clause-from : goal.put-requires-clause-from
put-requires-clause-from g c = c.requires.from (live_has (g.V.SearchValues.values c.args.tentative.now) (c.args.node, c.args.value) (sym c.has_value.ensures ∙ c.if-not-has_value.false))

pub returns-clause-kept : goal.returns-clause-kept
returns-clause-kept g c =
    let t = (g.V.SearchValues.values c.args.tentative.now) in
    let live : is_live t (c.args.node, c.args.value) ≡ true = sym c.has_value.ensures ∙ c.if-not-has_value.false in
    c.put.ensures.kept t c.requires.kept (record { node = c.requires.node.0; above = is_at_most-live t (c.args.node, c.args.value) live; nowhere = c.requires.lone })

pub returns-clause-dealt : goal.returns-clause-dealt
returns-clause-dealt g c = c.in_ok-put.ensures.dealt (g.V.SearchValues.values c.args.tentative.now)
