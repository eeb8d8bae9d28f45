use Rattle.std.proofs.Common.{◌∙◌, sym}
use Rattle.dimacs.proofs.GroupCodes.{shut_of}
use Rattle.scripts.proofs.script_texts.EventLinesTakeLines.take_line.Goals as goal

pub take_within-requires-clause-within : goal.take_within-requires-clause-within
take_within-requires-clause-within c = sym c.is_open.ensures ∙ c.if-is_open.true

pub take_event-requires-clause-outside : goal.take_event-requires-clause-outside
take_event-requires-clause-outside c = shut_of c.is_open.result c.args.self.now.open c.is_open.ensures c.if-is_open.false
