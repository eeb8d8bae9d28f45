use Rattle.std.proofs.Common.{◌≡◌, ◌∙◌, ap, sym, subst, List, refl}
use mathlib.Core.List.{IsPrefix}
use Rattle.history.specs.declared.entries.Link.{Link}
use Rattle.history.specs.Chains.{chain}
use Rattle.history.specs.Origins.{Origin, Beginning}
use Rattle.history.proofs.Beginnings.{taken_in_whole, acknowledged_in_whole}
use Rattle.history.proofs.Chains.{chain_begins, chain_legal}
use Rattle.history.proofs.histories.Whole.holds.Goals as goal

pub returns-clause-groups : goal.returns-clause-groups
returns-clause-groups c =
    let a = chain c.self.inside.root c.self.inside.seen.log in
    let b = chain c.front.inside.root c.front.inside.seen.log in
    let both = chain c.self.inside.root c.learn.new.self.log in
    let same : c.front.inside.root ≡ c.self.inside.root =
    ap (λ (x : Beginning). x.origin.history.pen) c.front.view_is ∙ (ap (λ (o : Origin). o.history.pen) c.requires ∙ sym (ap (λ (x : Beginning). x.origin.history.pen) c.self.view_is)) in
    let seen : IsPrefix c.self.inside.seen.log c.learn.new.self.log = subst (λ (l : List Link). IsPrefix l c.learn.new.self.log) (ap (λ s. s.log) c.again-both.ensures) c.learn.ensures.2 in
    let this : IsPrefix a both = chain_begins c.self.inside.root c.self.inside.root c.self.inside.seen.log c.learn.new.self.log refl seen in
    let that : IsPrefix b both = chain_begins c.front.inside.root c.self.inside.root c.front.inside.seen.log c.learn.new.self.log same c.learn.ensures.3 in
    rw (← c.self.view_is, ← c.front.view_is)
    (taken_in_whole b a both c.front.inside.count that this c.self.invariant (chain_legal c.self.inside.root c.learn.new.self.log))

pub returns-clause-acknowledged : goal.returns-clause-acknowledged
returns-clause-acknowledged c =
    let a = chain c.self.inside.root c.self.inside.seen.log in
    let b = chain c.front.inside.root c.front.inside.seen.log in
    let both = chain c.self.inside.root c.learn.new.self.log in
    let same : c.front.inside.root ≡ c.self.inside.root =
    ap (λ (x : Beginning). x.origin.history.pen) c.front.view_is ∙ (ap (λ (o : Origin). o.history.pen) c.requires ∙ sym (ap (λ (x : Beginning). x.origin.history.pen) c.self.view_is)) in
    let seen : IsPrefix c.self.inside.seen.log c.learn.new.self.log = subst (λ (l : List Link). IsPrefix l c.learn.new.self.log) (ap (λ s. s.log) c.again-both.ensures) c.learn.ensures.2 in
    let this : IsPrefix a both = chain_begins c.self.inside.root c.self.inside.root c.self.inside.seen.log c.learn.new.self.log refl seen in
    let that : IsPrefix b both = chain_begins c.front.inside.root c.self.inside.root c.front.inside.seen.log c.learn.new.self.log same c.learn.ensures.3 in
    rw (← c.self.view_is, ← c.front.view_is)
    (acknowledged_in_whole b a both that this c.self.invariant (chain_legal c.self.inside.root c.learn.new.self.log))
