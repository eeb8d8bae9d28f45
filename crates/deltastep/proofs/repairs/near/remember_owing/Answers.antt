use Rattle.std.proofs.Common.{sym, inl, arith}
use Rattle.deltastep.proofs.Owing.{HaveValues-more, has_here, keeps_more}
use Rattle.deltastep.proofs.repairs.near.remember_owing.Goals as goal

pub owes-requires-clause-small : goal.owes-requires-clause-small
owes-requires-clause-small c = omega (arith, c.requires.search.below_top c.args.node c.in-Some.value (sym c.in-Some.ensures.value), c.requires.small)

pub returns-clause-valued : goal.returns-clause-valued
returns-clause-valued c = HaveValues-more c.args.tentative.now c.args.owing.now.nodes c.add.new.self.nodes c.args.node c.in-Some.value c.in_ok-add.ensures.added c.in-Some.ensures.value

pub returns-clause-keeps : goal.returns-clause-keeps
returns-clause-keeps c = keeps_more c.args.owing.now.nodes c.add.new.self.nodes c.args.node c.in_ok-add.ensures.added

pub returns-clause-looked : goal.returns-clause-looked
returns-clause-looked c = inl (has_here c.args.owing.now.nodes c.add.new.self.nodes c.args.node c.in_ok-add.ensures.added)
