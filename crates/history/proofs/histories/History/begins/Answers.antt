use Rattle.std.proofs.Common.{◌≡◌, ◌∙◌, ap, sym, subst, arith, List, refl}
use mathlib.Core.List.{IsPrefix}
use Rattle.history.specs.declared.entries.Link.{Link}
use Rattle.history.specs.Chains.{chain}
use Rattle.history.specs.Origins.{Origin, Beginning}
use Rattle.history.proofs.Beginnings.{taken_begins, taken_count, match_leb}
use Rattle.history.proofs.Chains.{chain_begins}
use Rattle.history.proofs.histories.History.begins.Goals as goal

pub returns : goal.returns
returns c =
    let a = chain c.self.inside.root c.self.inside.seen.log in
    let b = chain c.front.inside.root c.front.inside.seen.log in
    let both = chain c.self.inside.root c.learn.new.self.log in
    let same : c.front.inside.root ≡ c.self.inside.root =
    ap (λ (x : Beginning). x.origin.history.pen) c.front.view_is ∙ (ap (λ (o : Origin). o.history.pen) c.requires ∙ sym (ap (λ (x : Beginning). x.origin.history.pen) c.self.view_is)) in
    let seen : IsPrefix c.self.inside.seen.log c.learn.new.self.log = subst (λ (l : List Link). IsPrefix l c.learn.new.self.log) (ap (λ s. s.log) c.again-both.ensures) c.learn.ensures.2 in
    let this : IsPrefix a both = chain_begins c.self.inside.root c.self.inside.root c.self.inside.seen.log c.learn.new.self.log refl seen in
    let that : IsPrefix b both = chain_begins c.front.inside.root c.self.inside.root c.front.inside.seen.log c.learn.new.self.log same c.learn.ensures.3 in
    let counted = c.self.invariant.1 in
    let taken = taken_count b c.front.inside.count c.front.invariant.1 in
    rw (← c.self.view_is, ← c.front.view_is)
    (match_leb c.front.inside.count c.self.inside.count _ refl
    (λ le. taken_begins b a both c.front.inside.count that this c.front.invariant.1 (omega arith))
    (λ lt. omega arith))
