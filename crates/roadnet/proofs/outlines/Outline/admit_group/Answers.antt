use Rattle.std.proofs.Common.{◌∙◌, List, Option, sym, subst}
use Rattle.roadnet.specs.declared.commands.Command.{Command}
use Rattle.roadnet.specs.declared.refusals.Refusal.{Refusal}
use Rattle.roadnet.specs.Judging.{IsVerdict}
use Rattle.roadnet.specs.Step.{first_refusal}
use Rattle.roadnet.proofs.Outlined.{same_first_refusal}
use Rattle.roadnet.proofs.outlines.Outline.admit_group.Goals as goal

pub returns : goal.returns
returns c net of =
    let there = c.self.invariant in
    subst (λ (o : Option Refusal). IsVerdict o c.admit_one.result) (sym (same_first_refusal net there.0 c.args.group.now (of ∙ sym (there.2 ∙ c.self.view_is))))
    (subst (λ (cs : List Command). IsVerdict (first_refusal there.0 cs) c.admit_one.result) c.commands.ensures.value (c.admit_one.ensures there.0 there.1 (there.2 ∙ c.self.view_is)))
