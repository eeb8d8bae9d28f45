-- The arcs of a store that was opened, looked at; or why they are not.
use Rattle.std.proofs.Common.{◌≡◌, ℕ, List, Option, Result, Ok, Err, false, true, sym, subst}
use Rattle.std.specs.Prelude.{OnOk, IfErr}
use Rattle.std.specs.Io.KnownBytes.{Appends}
use Rattle.roadnet.specs.declared.refusals.Refusal.{Refusal}
use Rattle.roadnet.specs.declared.refusals.Refusal.TheVariants.{Write}
use Rattle.roadnet.specs.Net.{Net}
use Rattle.printing.specs.Looks.{look_lines}
use Rattle.printing.specs.declared.failed.Failed.{Failed}
use Rattle.printing.specs.declared.failed.Failed.TheVariants.{Code}
use Rattle.printing.specs.declared.looks.Look.{Look}
use Rattle.store.specs.State.{HasVersion}
use Rattle.storetexts.specs.Asked.{IsStoreUnopened}
use Rattle.storetexts.specs.Shown.{IsStoreShown, IsRefusedShow}

pub unopened : (Honest : Type 0) (file : List ℕ) (refusal : Refusal) → IsStoreUnopened Honest file refusal → IsRefusedShow Honest file (Code refusal)
unopened Honest file Write may = absurd (let never : false ≡ true = may.0 in cc)
unopened Honest file _ may = may

module _ (Honest : Type 0) (file : List ℕ) (net : Net) (version : ℕ) (stands : Honest → HasVersion file net version) where
  pub shown_so : (r : Result (Unit {0}) Failed) (look : Look) (old new : Option (List ℕ)) → OnOk r (Appends old new (look_lines net version look)) → OnOk r (IsStoreShown Honest file look old new)
  shown_so (Ok done) look old new written = record { net = net; version = version; stands = stands; holds = written }
  shown_so (Err failed) look old new written = tt

  pub write_refused : (r : Result (Unit {0}) Failed) → IfErr r (λ failed. failed ≡ Code Write) → IfErr r (IsRefusedShow Honest file)
  write_refused (Ok done) is = tt
  write_refused (Err failed) is =
      let some : IsRefusedShow Honest file (Code Write) = record { net = net; version = version; stands = stands; holds = tt } in
      subst (IsRefusedShow Honest file) (sym is) some
