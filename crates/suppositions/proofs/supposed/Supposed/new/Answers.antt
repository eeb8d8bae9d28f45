use Rattle.std.proofs.Common.{rules, ◌≡◌, [], ◌∷◌, List, Some, None, subst}
use Rattle.roadnet.specs.declared.commands.Command.{Command}
use Rattle.roadnet.specs.Step.{after, first_refusal}
use Rattle.roadnet.proofs.EndsKept.{ends_stay}
use Rattle.suppositions.proofs.Admitted.{led_admitted}
use Rattle.suppositions.proofs.supposed.Supposed.new.Goals as goal

pub returns-in_err-groups-clause-refused : goal.returns-in_err-groups-clause-refused
returns-in_err-groups-clause-refused c =
    let led : after c.args.network.now (c.args.group.now ∷ []) ≡ Some c.in_ok-after.after = subst (λ (gs : List (List Command)). after c.args.network.now gs ≡ Some c.in_ok-after.after) c.one.ensures c.in_ok-after.ensures.ok in
    let none : first_refusal c.args.network.now c.args.group.now ≡ None = led_admitted c.args.network.now c.in_ok-after.after c.args.group.now led in
    search rules

pub back_since-back-requires-clause-ends : goal.back_since-back-requires-clause-ends
back_since-back-requires-clause-ends c =
    ends_stay c.args.network.now c.in_ok-after.after (c.args.group.now ∷ []) (subst (λ (gs : List (List Command)). after c.args.network.now gs ≡ Some c.in_ok-after.after) c.one.ensures c.in_ok-after.ensures.ok)
