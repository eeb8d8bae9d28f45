-- A group that leads somewhere is admitted.
use Rattle.std.proofs.Common.{◌≡◌, ◌∙◌, [], ◌∷◌, List, Option, Some, None, refl, ap, sym}
use Rattle.std.specs.Prelude.{option_and_then, MatchOption}
use Rattle.roadnet.specs.declared.commands.Command.{Command}
use Rattle.roadnet.specs.declared.refusals.Refusal.{Refusal}
use Rattle.roadnet.specs.Net.{Net}
use Rattle.roadnet.specs.Step.{after, first_refusal, step_group}
use Rattle.roadnet.proofs.Stepped.{group_admitted}

pub led_admitted : (net next : Net) (group : List Command) → after net (group ∷ []) ≡ Some next → first_refusal net group ≡ None
led_admitted net next group led = told (first_refusal net group) (group_admitted net group)
  where
    told : (o : Option Refusal) → MatchOption o ((new : Net) × (step_group net group ≡ Some new)) (λ refusal. step_group net group ≡ None) → o ≡ None
    told None h = refl
    told (Some refusal) h = absurd (let absurdity : ⊥ = (let e : None ≡ Some next = sym (ap (option_and_then (λ (n : Net). Some n)) h) ∙ led in cc) in absurdity)
