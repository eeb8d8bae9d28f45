use Rattle.std.proofs.Common.{◌≡◌, ◌∙◌, sym, ap, subst}
use mathlib.Core.List.{IsPrefix}
use Rattle.history.proofs.Beginnings.{prefix_self}
use Rattle.published.specs.Showing.{Showing}
use Rattle.published.specs.Rules.{last_of}
use Rattle.published.proofs.Steps.{sees}
use Rattle.published.proofs.publishers.Publisher.new.Goals as goal

pub publish_as-writer-requires : goal.publish_as-writer-requires
publish_as-writer-requires g c next is =
    let now = c.in-Ok-new-2.writer.desk.shown.value in
    let same : next ≡ now = is ∙ ap (λ l. last_of now l) c.in-Ok-new-2.ensures.1 in
    sees _ _ now next (ap (λ (x : Showing). x.shown.origin) (sym same)) (subst (λ (x : Showing). IsPrefix now.shown.groups x.shown.groups) (sym same) (prefix_self now.shown.groups))
