use Rattle.std.proofs.Common.{rules}
use Rattle.relax.proofs.Words.{none_of_words}
use Rattle.relax.proofs.tentative.Tentative.new.Goals as goal

pub returns : goal.returns
returns c = record { none = none_of_words c.args.nodes c.in_ok-vec.field-0.items (search rules) }
