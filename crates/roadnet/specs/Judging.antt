-- The answer to a command that is judged.
use Rattle.std.specs.Prelude.{◌≡◌, Option, None, Some, Result, MatchResult}
use Rattle.roadnet.specs.declared.refusals.Refusal.{Refusal}

-- the answer where this refusal is due, or none
abbrev pub IsVerdict : {T : Type 0} → Option Refusal → Result T Refusal → Type 0
IsVerdict due result = MatchResult result (λ _. due ≡ None) (λ refusal. due ≡ Some refusal)
