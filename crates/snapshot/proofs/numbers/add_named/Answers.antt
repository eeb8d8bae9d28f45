use Rattle.std.proofs.Common.{◌≡◌, ◌∙◌, [], ◌∷◌, Some, None, arith, sym}
use Rattle.std.proofs.lemmas.List.Elements.{Contains-append_right}
use Rattle.snapshot.proofs.numbers.add_named.Goals as goal

pub returns-in_ok-push-clause-named : goal.returns-in_ok-push-clause-named
returns-in_ok-push-clause-named c k small h =
    let both : Some c.in-Some.arc ≡ Some k = sym c.in-Some.is ∙ c.named.ensures k small h in
    let same : c.in-Some.arc ≡ k = cc in
    rw c.in_ok-push.ensures.items (Contains-append_right c.args.numbers.now.items (c.in-Some.arc ∷ []) k (0, omega arith, same))

pub returns-in_default-clause-named : goal.returns-in_default-clause-named
returns-in_default-clause-named c k small h =
    let none : c.named.result ≡ None = c.in_default.is in
    let some : c.named.result ≡ Some k = c.named.ensures k small h in
    absurd (let absurdity : ⊥ = cc in absurdity)
