-- Requests that can lower a value: to meet these alone, in their order, is to meet all.
--     lowers top tentative r             whether the request asks for less than is known
--     sifted top tentative requests      the requests that do
use Rattle.std.specs.Prelude.{ℕ, nat_lt, Bool, List, Option}
use Rattle.std.specs.List.{filter}
use Rattle.relax.specs.Values.{value_or}

abbrev pub lowers : ℕ → List (Option ℕ) → ℕ × ℕ → Bool
lowers top tentative r = nat_lt r.1 (value_or top tentative r.0)

abbrev pub sifted : ℕ → List (Option ℕ) → List (ℕ × ℕ) → List (ℕ × ℕ)
sifted top tentative requests = filter (lowers top tentative) requests
