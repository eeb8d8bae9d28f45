-- A ledger that has just begun.
use Rattle.std.proofs.Common.{◌≡◌, ℕ, [], refl, sym, subst, arith}
use Rattle.std.proofs.lemmas.List.Elements.{All-nil}
use Rattle.roadnet.specs.Net.{Net}
use Rattle.machine.specs.Machine.{Machine, Sizes, start}
use Rattle.storetexts.specs.Outcomes.{IsGroupSettled}
use Rattle.storetexts.specs.Applying.{GroupsTaken}

pub none_come : (net there : Net) (version at unchecked : ℕ) (sizes : Sizes) (m : Machine) → m ≡ start sizes there at unchecked → there ≡ net → at ≡ version → GroupsTaken net version [] [] 0 m
none_come net there version at unchecked sizes m is same counted =
    subst (GroupsTaken net version [] [] 0) (sym is) (record { base_is = same; version_is = counted; come = tt; accepted_is = refl; told_to = omega arith; settled = All-nil (IsGroupSettled at) })
