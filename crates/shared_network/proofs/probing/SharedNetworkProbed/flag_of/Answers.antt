use Rattle.std.proofs.Common.{◌∙◌, ap, sym, refl}
use Rattle.std.specs.Prelude.{Option, option_map}
use Rattle.roadnet.specs.declared.arcs.RoadArc.{RoadArc}
use Rattle.roadnet.specs.Outlines.{outline_of}
use Rattle.roadnet.proofs.Outlined.{opened_in}
use Rattle.shared_network.proofs.probing.SharedNetworkProbed.flag_of.Goals as goal

pub returns-in-Some : goal.returns-in-Some
returns-in-Some c net ok of =
    opened_in net (outline_of c.args.self.now) c.args.k of
    ∙ (sym (opened_in c.args.self.now (outline_of c.args.self.now) c.args.k refl)
    ∙ ap (λ (o : Option RoadArc). option_map (λ arc. arc.opened) o) (sym c.arc.ensures ∙ c.in-Some.is))

pub returns-in-None : goal.returns-in-None
returns-in-None c net ok of =
    opened_in net (outline_of c.args.self.now) c.args.k of
    ∙ (sym (opened_in c.args.self.now (outline_of c.args.self.now) c.args.k refl)
    ∙ ap (λ (o : Option RoadArc). option_map (λ arc. arc.opened) o) (sym c.arc.ensures ∙ c.in-None.is))
