use Rattle.std.proofs.Common.{◌≡◌, ◌∙◌, length, ap, sym}
use Rattle.rows.proofs.Numbering.{leads_on}
use Rattle.suppositions.proofs.supposed.back_since.Goals as goal

pub returns-then-len : goal.returns-then-len
returns-then-len c x is =
    let one : c.len.result ≡ length c.args.before.now.arcs = c.len.ensures ∙ ap length c.arcs.ensures.value in
    let other : c.len-2.result ≡ length c.args.after.now.arcs = c.len-2.ensures ∙ ap length c.arcs-2.ensures.value in
    leads_on c.args.before.now c.args.after.now x.value c.requires.ends (sym other ∙ (sym c.if-len.true ∙ one)) (c.requires.back x is)
