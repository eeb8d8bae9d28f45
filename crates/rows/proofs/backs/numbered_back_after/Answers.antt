use Rattle.std.proofs.Common.{◌≡◌, ◌∙◌, drop, length, ap, sym, arith}
use Rattle.snapshot.proofs.Unchanged.{no_fewer}
use Rattle.rows.specs.Backs.{numbered_from}
use Rattle.rows.proofs.Numbering.{laid-among, leads_further}
use Rattle.rows.proofs.backs.numbered_back_after.Goals as goal

pub numbered_arcs-requires : goal.numbered_arcs-requires
numbered_arcs-requires c = omega (arith, c.len.ensures, ap length c.arcs.ensures.value, no_fewer c.args.older.now c.args.newer.now c.requires.ends)

pub with_arcs-requires : goal.with_arcs-requires
with_arcs-requires c =
    let nodes : c.args.newer.now.nodes ≡ c.args.back.now.nodes = c.requires.ends.nodes ∙ sym c.requires.back.nodes in
    rw (c.deref.ensures.value, c.in_ok-laid.ensures, ← nodes) (record { arcs = laid-among c.args.newer.now c.len.result c.nodes-nodes.ensures.network })

pub returns-in-Some : goal.returns-in-Some
returns-in-Some c =
    let first : c.len.result ≡ length c.args.older.now.arcs = c.len.ensures ∙ ap length c.arcs.ensures.value in
    let is = c.deref.ensures.value ∙ (c.in_ok-laid.ensures ∙ ap (λ n. drop n (numbered_from 1 c.args.newer.now.arcs)) first) in
    leads_further c.args.older.now c.args.newer.now c.nodes-nodes.ensures.network c.requires.ends c.args.back.now c.in-Some.more c.requires.back c.deref.result.now is
    (rw c.in-Some.is at c.in_ok-more.ensures.nodes) (rw c.in-Some.is at c.in_ok-more.ensures.short) (rw c.in-Some.is at c.in_ok-more.ensures.legs)
