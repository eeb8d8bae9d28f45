use Rattle.std.specs.Prelude.{vec_items}
use Rattle.dimacs.specs.Listed.{listed, text_of_items}
use Rattle.dimacs.proofs.TextEnds.{read_ended, said_by_lines}
use Rattle.dimacs.proofs.lists.listed.read_items.Goals as goal

pub returns-clause-read : goal.returns-clause-read
returns-clause-read g c =
    read_ended (text_of_items (listed g.I.NodeItem.word g.I.NodeItem.LETTER g.I.NodeItem.quantities g.K.NodeCount.nodes) g.I.NodeItem.says) _ _ _
    c.in_ok-ended.ended _ c.in_ok-ended.ensures.read c.items_at_end.ensures.ends

pub returns-clause-said : goal.returns-clause-said
returns-clause-said g c =
    said_by_lines (text_of_items (listed g.I.NodeItem.word g.I.NodeItem.LETTER g.I.NodeItem.quantities g.K.NodeCount.nodes) g.I.NodeItem.says) _
    vec_items c.in_ok-ended.ended c.items_at_end.result c.in_ok-ended.ensures.lines c.items_at_end.ensures.ends
