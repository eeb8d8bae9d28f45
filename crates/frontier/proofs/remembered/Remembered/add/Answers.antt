use Rattle.std.proofs.Common.{◌≡◌, ◌∙◌, ◌++◌, ◌∷◌, [], ℕ, Global, List, Vec, false, map, sym, rules}
use Rattle.roadnet.specs.Members.{is_member}
use Rattle.frontier.proofs.Flags.{AreFlags-push}
use Rattle.frontier.proofs.remembered.Remembered.add.Goals as goal

pub invariant_of-self-2 : goal.invariant_of-self-2
invariant_of-self-2 c =
    let items : Vec ℕ Global → List ℕ = λ (page : Vec ℕ Global). page.items in
    let new : is_member c.args.node c.self.inside.nodes.items ≡ false = sym (c.self.invariant.flag c.args.node) ∙ (sym c.is_up.ensures ∙ c.if-is_up.false) in
    let pushed : c.push.new.self.items ≡ c.self.inside.nodes.items ++ c.args.node ∷ [] = search rules in
    rw pushed (AreFlags-push (map items c.self.inside.flags.pages.items) (map items c.raise.new.self.pages.items) c.self.inside.nodes.items c.args.node c.raise.ensures.up (λ u ne. c.raise.ensures.others u ne ∙ c.in-Ok.ensures.flags u) new c.self.invariant)
