use Rattle.std.proofs.Common.{length, ◌≡◌, ◌++◌, take, arith, ap, ◌∙◌}
use Rattle.std.proofs.lemmas.List.{length-take}
use Rattle.pages.specs.Spelling.{IsBlankFrom}
use Rattle.pages.proofs.Padding.{written}
use Rattle.pages.proofs.writer.PageWriter.put_bytes.Goals as goal

pub invariant_of-self : goal.invariant_of-self
invariant_of-self c =
    let is : IsBlankFrom c.self.inside.used c.self.inside.page = c.self.invariant in
    let view : take c.self.inside.used c.self.inside.page ≡ c.args.self.now = c.self.view_is in
    let len : length c.args.self.now ≡ c.self.inside.used = omega (arith, is.within, is.size, ap length view, length-take c.self.inside.used c.self.inside.page) in
    (written c.self.inside.used c.self.inside.page c.args.bytes.now c.copy_from_slice.new.self _ is (omega arith) (omega arith) c.copy_from_slice.ensures.after).1

pub returns : goal.returns
returns c =
    let is : IsBlankFrom c.self.inside.used c.self.inside.page = c.self.invariant in
    let view : take c.self.inside.used c.self.inside.page ≡ c.args.self.now = c.self.view_is in
    let len : length c.args.self.now ≡ c.self.inside.used = omega (arith, is.within, is.size, ap length view, length-take c.self.inside.used c.self.inside.page) in
    (written c.self.inside.used c.self.inside.page c.args.bytes.now c.copy_from_slice.new.self _ is (omega arith) (omega arith) c.copy_from_slice.ensures.after).0 ∙ ap (λ xs. xs ++ c.args.bytes.now) view
