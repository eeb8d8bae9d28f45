use Rattle.std.proofs.Common.{◌∙◌, sym, refl}
use Rattle.roadnet.specs.Outlines.{outline_of}
use Rattle.roadnet.proofs.Outlined.{opened_in}
use Rattle.roadnet.proofs.networks.NetworkProbed.flag_of.Goals as goal

pub returns : goal.returns
returns c net ok of = opened_in net (outline_of c.args.self.now) c.args.k of ∙ sym (opened_in c.args.self.now (outline_of c.args.self.now) c.args.k refl) ∙ sym c.is_open.ensures
