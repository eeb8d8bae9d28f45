use Rattle.std.proofs.Common.{◌∙◌, sym, ap, subst}
use mathlib.Core.List.{IsPrefix}
use Rattle.published.specs.Showing.{Showing}
use Rattle.published.proofs.Steps.{sees}
use Rattle.published.proofs.publishers.show.Goals as goal

pub publish_as-requires : goal.publish_as-requires
publish_as-requires g c next is =
    let now = c.args.writer.desk.shown.value in
    let h = c.requires.pending in
    sees _ _ now next (h.0 ∙ sym (ap (λ (x : Showing). x.shown.origin) is)) (subst (λ (x : Showing). IsPrefix now.shown.groups x.shown.groups) (sym is) h.1)
