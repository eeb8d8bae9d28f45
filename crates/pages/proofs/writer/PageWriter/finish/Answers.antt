use Rattle.std.proofs.Common.{◌∙◌, ap}
use Rattle.pages.specs.Spelling.{page_of}
use Rattle.pages.proofs.Padding.{finished}
use Rattle.pages.proofs.writer.PageWriter.finish.Goals as goal

pub returns : goal.returns
returns c = finished c.self.inside.used c.self.inside.page c.self.invariant ∙ ap page_of c.self.view_is
