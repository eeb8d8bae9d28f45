use Rattle.std.proofs.Common.{◌≡◌, ◌∙◌, ap, sym, subst, arith, List, refl}
use mathlib.Core.List.{IsPrefix}
use Rattle.history.specs.declared.entries.Link.{Link}
use Rattle.history.specs.Chains.{chain}
use Rattle.history.specs.Origins.{Origin, Beginning}
use Rattle.history.proofs.Beginnings.{taken_shorter, taken_count, match_leb}
use Rattle.history.proofs.Chains.{chain_begins}
use Rattle.history.proofs.fronts.Front.begins.Goals as goal

pub returns : goal.returns
returns c =
    let a = chain c.self.inside.root c.self.inside.seen.log in
    let b = chain c.other.inside.root c.other.inside.seen.log in
    let both = chain c.self.inside.root c.learn.new.self.log in
    let same : c.other.inside.root ≡ c.self.inside.root =
    ap (λ (x : Beginning). x.origin.history.pen) c.other.view_is ∙ (ap (λ (o : Origin). o.history.pen) c.requires ∙ sym (ap (λ (x : Beginning). x.origin.history.pen) c.self.view_is)) in
    let seen : IsPrefix c.self.inside.seen.log c.learn.new.self.log = subst (λ (l : List Link). IsPrefix l c.learn.new.self.log) (ap (λ s. s.log) c.again-both.ensures) c.learn.ensures.2 in
    let this : IsPrefix a both = chain_begins c.self.inside.root c.self.inside.root c.self.inside.seen.log c.learn.new.self.log refl seen in
    let that : IsPrefix b both = chain_begins c.other.inside.root c.self.inside.root c.other.inside.seen.log c.learn.new.self.log same c.learn.ensures.3 in
    let mine = taken_count a c.self.inside.count c.self.invariant.1 in
    let theirs = taken_count b c.other.inside.count c.other.invariant.1 in
    rw (← c.self.view_is, ← c.other.view_is)
    (match_leb c.self.inside.count c.other.inside.count _ refl
    (λ le. taken_shorter a b both c.self.inside.count c.other.inside.count this that le c.self.invariant.1 c.other.invariant.1)
    (λ lt. (taken_shorter b a both c.other.inside.count c.self.inside.count that this (omega arith) c.other.invariant.1 c.self.invariant.1, omega arith)))
