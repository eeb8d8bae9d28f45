use Rattle.std.proofs.Common.{◌≡◌, ◌∙◌, ap, subst, sym, arith, List}
use mathlib.Core.List.{IsPrefix}
use Rattle.history.specs.declared.entries.Link.{Link}
use Rattle.history.specs.Chains.{chain}
use Rattle.history.specs.Origins.{Origin, Beginning}
use Rattle.history.proofs.Beginnings.{begun_more, origin_begun, fits_longer, taken_of_longer, acknowledged_prefix}
use Rattle.history.proofs.Chains.{chain_begins}
use Rattle.history.proofs.fronts.Front.joined.Goals as goal

pub invariant_of-result : goal.invariant_of-result
invariant_of-result c =
    let a = chain c.self.inside.root c.self.inside.seen.log in
    let b = chain c.other.inside.root c.other.inside.seen.log in
    let both = chain c.again-root.result c.learn.new.self.log in
    let same : c.other.inside.root ≡ c.self.inside.root =
    ap (λ (x : Beginning). x.origin.history.pen) c.other.view_is ∙ (ap (λ (o : Origin). o.history.pen) c.requires ∙ sym (ap (λ (x : Beginning). x.origin.history.pen) c.self.view_is)) in
    let seen : IsPrefix c.self.inside.seen.log c.learn.new.self.log = subst (λ (l : List Link). IsPrefix l c.learn.new.self.log) (ap (λ s. s.log) c.again-both.ensures) c.learn.ensures.2 in
    let this : IsPrefix a both = chain_begins c.self.inside.root c.again-root.result c.self.inside.seen.log c.learn.new.self.log (sym c.again-root.ensures) seen in
    let that : IsPrefix b both = chain_begins c.other.inside.root c.again-root.result c.other.inside.seen.log c.learn.new.self.log (same ∙ sym c.again-root.ensures) c.learn.ensures.3 in
    let mine = fits_longer a both c.self.inside.count this c.self.invariant.1 in
    let theirs = fits_longer b both c.other.inside.count that c.other.invariant.1 in
    (begun_more a both this c.self.invariant.0, omega (arith, mine, theirs))

pub returns-clause-this : goal.returns-clause-this
returns-clause-this c =
    let a = chain c.self.inside.root c.self.inside.seen.log in
    let b = chain c.other.inside.root c.other.inside.seen.log in
    let both = chain c.again-root.result c.learn.new.self.log in
    let same : c.other.inside.root ≡ c.self.inside.root =
    ap (λ (x : Beginning). x.origin.history.pen) c.other.view_is ∙ (ap (λ (o : Origin). o.history.pen) c.requires ∙ sym (ap (λ (x : Beginning). x.origin.history.pen) c.self.view_is)) in
    let seen : IsPrefix c.self.inside.seen.log c.learn.new.self.log = subst (λ (l : List Link). IsPrefix l c.learn.new.self.log) (ap (λ s. s.log) c.again-both.ensures) c.learn.ensures.2 in
    let this : IsPrefix a both = chain_begins c.self.inside.root c.again-root.result c.self.inside.seen.log c.learn.new.self.log (sym c.again-root.ensures) seen in
    let that : IsPrefix b both = chain_begins c.other.inside.root c.again-root.result c.other.inside.seen.log c.learn.new.self.log (same ∙ sym c.again-root.ensures) c.learn.ensures.3 in
    rw (← c.self.view_is)
    (taken_of_longer a both c.self.inside.count c.max.result this (omega arith) c.self.invariant.1 (invariant_of-result c).1)

pub returns-clause-that : goal.returns-clause-that
returns-clause-that c =
    let a = chain c.self.inside.root c.self.inside.seen.log in
    let b = chain c.other.inside.root c.other.inside.seen.log in
    let both = chain c.again-root.result c.learn.new.self.log in
    let same : c.other.inside.root ≡ c.self.inside.root =
    ap (λ (x : Beginning). x.origin.history.pen) c.other.view_is ∙ (ap (λ (o : Origin). o.history.pen) c.requires ∙ sym (ap (λ (x : Beginning). x.origin.history.pen) c.self.view_is)) in
    let seen : IsPrefix c.self.inside.seen.log c.learn.new.self.log = subst (λ (l : List Link). IsPrefix l c.learn.new.self.log) (ap (λ s. s.log) c.again-both.ensures) c.learn.ensures.2 in
    let this : IsPrefix a both = chain_begins c.self.inside.root c.again-root.result c.self.inside.seen.log c.learn.new.self.log (sym c.again-root.ensures) seen in
    let that : IsPrefix b both = chain_begins c.other.inside.root c.again-root.result c.other.inside.seen.log c.learn.new.self.log (same ∙ sym c.again-root.ensures) c.learn.ensures.3 in
    rw (← c.other.view_is)
    (taken_of_longer b both c.other.inside.count c.max.result that (omega arith) c.other.invariant.1 (invariant_of-result c).1)

pub returns-clause-acknowledged : goal.returns-clause-acknowledged
returns-clause-acknowledged c =
    let a = chain c.self.inside.root c.self.inside.seen.log in
    let b = chain c.other.inside.root c.other.inside.seen.log in
    let both = chain c.again-root.result c.learn.new.self.log in
    let same : c.other.inside.root ≡ c.self.inside.root =
    ap (λ (x : Beginning). x.origin.history.pen) c.other.view_is ∙ (ap (λ (o : Origin). o.history.pen) c.requires ∙ sym (ap (λ (x : Beginning). x.origin.history.pen) c.self.view_is)) in
    let seen : IsPrefix c.self.inside.seen.log c.learn.new.self.log = subst (λ (l : List Link). IsPrefix l c.learn.new.self.log) (ap (λ s. s.log) c.again-both.ensures) c.learn.ensures.2 in
    let this : IsPrefix a both = chain_begins c.self.inside.root c.again-root.result c.self.inside.seen.log c.learn.new.self.log (sym c.again-root.ensures) seen in
    let that : IsPrefix b both = chain_begins c.other.inside.root c.again-root.result c.other.inside.seen.log c.learn.new.self.log (same ∙ sym c.again-root.ensures) c.learn.ensures.3 in
    rw (← c.self.view_is, ← c.other.view_is)
    (acknowledged_prefix a both this, acknowledged_prefix b both that)

pub returns-clause-origin : goal.returns-clause-origin
returns-clause-origin c =
    let a = chain c.self.inside.root c.self.inside.seen.log in
    let b = chain c.other.inside.root c.other.inside.seen.log in
    let both = chain c.again-root.result c.learn.new.self.log in
    let same : c.other.inside.root ≡ c.self.inside.root =
    ap (λ (x : Beginning). x.origin.history.pen) c.other.view_is ∙ (ap (λ (o : Origin). o.history.pen) c.requires ∙ sym (ap (λ (x : Beginning). x.origin.history.pen) c.self.view_is)) in
    let seen : IsPrefix c.self.inside.seen.log c.learn.new.self.log = subst (λ (l : List Link). IsPrefix l c.learn.new.self.log) (ap (λ s. s.log) c.again-both.ensures) c.learn.ensures.2 in
    let this : IsPrefix a both = chain_begins c.self.inside.root c.again-root.result c.self.inside.seen.log c.learn.new.self.log (sym c.again-root.ensures) seen in
    let that : IsPrefix b both = chain_begins c.other.inside.root c.again-root.result c.other.inside.seen.log c.learn.new.self.log (same ∙ sym c.again-root.ensures) c.learn.ensures.3 in
    let book = c.learn.ensures.0 ∙ ap (λ s. s.book) c.again-both.ensures in
    let pen = c.again-root.ensures in
    rw (← c.self.view_is) (origin_begun _ _ a both (λ i. record { book = book i; pen = pen i }) this c.self.invariant.0)
