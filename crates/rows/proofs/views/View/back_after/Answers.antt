use Rattle.std.proofs.Common.{◌≡◌, length, refl, sym}
use Rattle.rows.proofs.Numbering.{leads_on}
use Rattle.rows.proofs.views.View.back_after.Goals as goal

pub returns-then-len : goal.returns-then-len
returns-then-len c =
    let many : length c.args.newer.now.arcs ≡ length c.args.self.now.network.arcs = sym (rw (c.len.ensures, c.len-2.ensures, c.arcs.ensures.value, c.arcs-2.ensures.value, c.network-older.ensures) at c.if-len.true) in
    leads_on c.args.self.now.network c.args.newer.now c.in-Some.back.value c.requires many (c.in-Some.ensures c.in-Some.back refl)
