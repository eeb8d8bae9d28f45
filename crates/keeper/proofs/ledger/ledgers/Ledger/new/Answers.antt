use Rattle.std.proofs.Common.{rules, ◌-◌, inl, refl, length, ap, sym, ◌∙◌, arith}
use Rattle.machine.proofs.Counted.{none_behind}
use Rattle.store.proofs.StateKept.{works_if_calm, left_durable}
use Rattle.keeper.proofs.Held.{at_base}
use Rattle.keeper.proofs.ledger.ledgers.Ledger.new.Goals as goal

pub invariant_of-result : goal.invariant_of-result
invariant_of-result g c = (
  search rules,
  search rules,
  λ came.
      let s = c.args.store in
      let honest = c.version-opened.ensures.honest came in
      let works = works_if_calm s c.requires.calm in
      let only = c.version-opened.ensures.only honest works in (
        honest,
        record {
          only = λ _. only;
          each_left = λ d was. record {
            version = s.version;
            left = inl refl;
            network = s.network;
            network_is = at_base c.of-base.result.value s.network _ c.new.result.items (c.of-base.ensures ∙ c.network-2.ensures) c.new.ensures.items;
            stands = left_durable s (g.D.Disk.content s.disk) (g.D.Disk.left s.disk) only (c.version-opened.ensures.stands came works) d was;
          };
        },
      ),
  search rules,
  sym (none_behind (c.version-opened.result - c.version-opened.result) c.new.result.items (omega (arith, ap length c.new.ensures.items))),
  sym (none_behind (c.args.store.version - c.version-opened.result) c.new.result.items (omega (arith, ap length c.new.ensures.items))),
)
