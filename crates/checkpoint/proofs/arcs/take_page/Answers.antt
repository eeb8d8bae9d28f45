use Rattle.std.proofs.Common.{◌∙◌, ◌+◌, ◌++◌, inr, Err, ap, sym, arith}
use Rattle.std.specs.Prelude.{map}
use Rattle.roadnet.specs.declared.refusals.Refusal.TheVariants.{Damaged}
use Rattle.pages.specs.Spelling.{ends_of}
use Rattle.pages.specs.Layout.{places_in_use}
use Rattle.storefile.specs.Judging.{spelled_at}
use Rattle.checkpoint.proofs.SoFar.{arcs_told}
use Rattle.checkpoint.proofs.arcs.take_page.Goals as goal

pub returns-in_default-found-clause-refused : goal.returns-in_default-found-clause-refused
returns-in_default-found-clause-refused c =
    inr (arcs_told c.args.header.now.nodes c.arcs_on_page.result (places_in_use 511 c.args.i c.args.header.now.arcs) (1 + c.args.i) c.args.page.now c.in-Ok.found (omega arith) c.arcs_on_page.ensures c.in-Ok.ensures
    ∙ ap (spelled_at (1 + c.args.i)) c.in_default-found.is ∙ ap (λ k. Err (Damaged k)) (sym c.arc_page.ensures))

pub returns-clause-spelled : goal.returns-clause-spelled
returns-clause-spelled c = record {
  ends = c.in-Some.spelled;
  said_is = arcs_told c.args.header.now.nodes c.arcs_on_page.result (places_in_use 511 c.args.i c.args.header.now.arcs) (1 + c.args.i) c.args.page.now c.in-Ok.found (omega arith) c.arcs_on_page.ensures c.in-Ok.ensures
      ∙ ap (spelled_at (1 + c.args.i)) c.in-Some.is;
  put = c.in-Ok-put_arcs.ensures ∙ ap (λ es. map ends_of c.args.arcs.now.items ++ es) c.ends.ensures;
}
