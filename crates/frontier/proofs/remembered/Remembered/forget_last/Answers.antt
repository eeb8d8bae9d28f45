use Rattle.std.proofs.Common.{◌≡◌, ℕ, Global, List, Vec, arith, map, subst, true}
use Rattle.std.proofs.lemmas.List.{length-map}
use Rattle.frontier.specs.Flags.{flag_at}
use Rattle.frontier.specs.Remembered.{AreFlags}
use Rattle.frontier.proofs.Flags.{AreFlags-pop, last_up, up_page, up_word}
use Rattle.frontier.proofs.remembered.Remembered.forget_last.Goals as goal

pub lower-requires : goal.lower-requires
lower-requires c =
    let items : Vec ℕ Global → List ℕ = λ (page : Vec ℕ Global). page.items in
    let pages = map items c.self.inside.flags.pages.items in
    let up : flag_at pages c.in-Some.node ≡ true = last_up pages c.pop.new.self.items c.in-Some.node (subst (AreFlags pages) c.in-Some.ensures.items c.self.invariant) in
    record {
      within = omega (arith, up_page pages c.in-Some.node up, length-map c.self.inside.flags.pages.items items);
      room = up_word pages c.in-Some.node up;
    }

pub invariant_of-self-2 : goal.invariant_of-self-2
invariant_of-self-2 c =
    let items : Vec ℕ Global → List ℕ = λ (page : Vec ℕ Global). page.items in
    let pages = map items c.self.inside.flags.pages.items in
    AreFlags-pop pages (map items c.lower.new.self.pages.items) c.pop.new.self.items c.in-Some.node c.lower.ensures.down c.lower.ensures.others (subst (AreFlags pages) c.in-Some.ensures.items c.self.invariant)
