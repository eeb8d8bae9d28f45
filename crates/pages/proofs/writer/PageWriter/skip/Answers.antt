use Rattle.std.proofs.Common.{length, ◌≡◌, ◌++◌, take, arith, ap, ◌∙◌}
use Rattle.std.proofs.lemmas.List.{length-take}
use Rattle.pages.specs.Spelling.{IsBlankFrom, zeros}
use Rattle.pages.proofs.Padding.{skipped}
use Rattle.pages.proofs.writer.PageWriter.skip.Goals as goal

pub invariant_of-self : goal.invariant_of-self
invariant_of-self c =
    let is : IsBlankFrom c.self.inside.used c.self.inside.page = c.self.invariant in
    let view : take c.self.inside.used c.self.inside.page ≡ c.args.self.now = c.self.view_is in
    let len : length c.args.self.now ≡ c.self.inside.used = omega (arith, is.within, is.size, ap length view, length-take c.self.inside.used c.self.inside.page) in
    (skipped c.self.inside.used c.args.count c.self.inside.page is (omega arith)).1

pub returns : goal.returns
returns c =
    let is : IsBlankFrom c.self.inside.used c.self.inside.page = c.self.invariant in
    let view : take c.self.inside.used c.self.inside.page ≡ c.args.self.now = c.self.view_is in
    let len : length c.args.self.now ≡ c.self.inside.used = omega (arith, is.within, is.size, ap length view, length-take c.self.inside.used c.self.inside.page) in
    (skipped c.self.inside.used c.args.count c.self.inside.page is (omega arith)).0 ∙ ap (λ xs. xs ++ zeros c.args.count) view
