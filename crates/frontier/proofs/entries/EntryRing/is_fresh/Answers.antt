use Rattle.std.proofs.Common.{arith}
use Rattle.frontier.proofs.EntryLists.{none_marked}
use Rattle.frontier.proofs.entries.EntryRing.is_fresh.Goals as goal

pub returns-in_default : goal.returns-in_default
returns-in_default c =
    let s = c.args.self.now in
    record {
      wide = omega arith;
      first = omega arith;
      enough = omega (arith, c.size.ensures.value);
      none = λ p. none_marked s.lists.items s.marks s.marked p (c.in_default.ensures p (omega arith));
    }
