use Rattle.std.proofs.Common.{◌≡◌, ◌∙◌, length, sym, ap, arith}
use Rattle.chunked.proofs.OfTables.{list_long}
use Rattle.chunked.proofs.lists.SharedList.tables.Goals as goal

pub returns : goal.returns
returns g c =
    let size : length c.args.self.now ≡ c.self.inside.len = ap length (sym c.self.view_is) ∙ list_long c.self.inside.tables.items c.self.inside.len c.self.invariant in
    record {
      items = rw (c.deref.ensures.value, size) c.self.view_is;
      room = omega (arith, size, c.self.invariant, ap length c.deref.ensures.value);
    }
