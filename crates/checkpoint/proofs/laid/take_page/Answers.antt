use Rattle.std.proofs.Common.{◌≡◌, ◌∙◌, ◌+◌, ◌-◌, ◌*◌, ◌^◌, ◌<◌, ◌≤◌, inr, Err, length, ap, sym, arith}
use Rattle.std.specs.Prelude.{min}
use Rattle.roadnet.specs.declared.refusals.Refusal.TheVariants.{Damaged}
use Rattle.pages.specs.Layout.{EndsOf, page_number, places_in_use}
use Rattle.storefile.specs.Judging.{spelled_at}
use Rattle.checkpoint.proofs.Places.{laid_put, laid_as}
use Rattle.checkpoint.proofs.SoFar.{arcs_told, ends_count}
use Rattle.checkpoint.proofs.laid.take_page.Goals as goal

pub returns-in_default-found-clause-refused : goal.returns-in_default-found-clause-refused
returns-in_default-found-clause-refused c =
    let few : c.args.header.now.nodes < 2 ^ 32 = omega (arith, c.requires.header.nodes_to) in
    inr (arcs_told c.args.header.now.nodes c.ends_on_page-count.result (places_in_use 511 c.args.i (length c.args.arcs.now - c.args.header.now.arcs)) (page_number c.args.header.now (EndsOf c.args.slot c.args.i)) c.args.page.now c.in-Ok.found few c.ends_on_page-count.ensures c.in-Ok.ensures
    ∙ ap (spelled_at (page_number c.args.header.now (EndsOf c.args.slot c.args.i))) c.in_default-found.is ∙ ap (λ k. Err (Damaged k)) (sym c.end_page.ensures))

pub returns-clause-first : goal.returns-clause-first
returns-clause-first c =
    let within : c.args.header.now.arcs + c.min.result ≤ length c.args.arcs.now = omega (arith, c.min.ensures, c.requires.from) in
    (laid_put c.args.header.now.arcs c.min.result c.args.arcs.now c.put_ends.new.arcs c.ends.result.now within c.put_ends.ensures.ends).first

pub returns-clause-spelled : goal.returns-clause-spelled
returns-clause-spelled c =
    let few : c.args.header.now.nodes < 2 ^ 32 = omega (arith, c.requires.header.nodes_to) in
    let within : c.args.header.now.arcs + c.min.result ≤ length c.args.arcs.now = omega (arith, c.min.ensures, c.requires.from) in
    let put = laid_put c.args.header.now.arcs c.min.result c.args.arcs.now c.put_ends.new.arcs c.ends.result.now within c.put_ends.ensures.ends in
    let last : c.min.result + length c.ends.result.now ≡ min (511 * (c.args.i + 1)) (length c.args.arcs.now - c.args.header.now.arcs) =
    omega (arith, ap length c.ends.ensures, ends_count c.args.header.now.nodes c.ends_on_page-count.result c.args.page.now c.in-Ok.found c.in-Some.spelled c.in-Ok.ensures c.in-Some.is, c.ends_on_page-count.ensures, c.min.ensures) in
    record {
      ends = c.in-Some.spelled;
      said_is = arcs_told c.args.header.now.nodes c.ends_on_page-count.result (places_in_use 511 c.args.i (length c.args.arcs.now - c.args.header.now.arcs)) (page_number c.args.header.now (EndsOf c.args.slot c.args.i)) c.args.page.now c.in-Ok.found few c.ends_on_page-count.ensures c.in-Ok.ensures
          ∙ ap (spelled_at (page_number c.args.header.now (EndsOf c.args.slot c.args.i))) c.in-Some.is;
      put = laid_as c.args.header.now.arcs c.min.result (min (511 * c.args.i) (length c.args.arcs.now - c.args.header.now.arcs)) (min (511 * (c.args.i + 1)) (length c.args.arcs.now - c.args.header.now.arcs)) c.args.arcs.now c.put_ends.new.arcs c.ends.result.now c.in-Some.spelled put c.min.ensures last c.ends.ensures;
    }
