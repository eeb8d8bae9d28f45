-- Two texts of one job that are the standard input.
use Rattle.std.proofs.Common.{◌≡◌, ◌⊎◌, ℕ, Bool, true, false, List, refl, inl, inr, ⊎_elim}
use Rattle.std.specs.Bool.{Decides}
use Rattle.words.specs.declared.jobs.PairTexts.{PairTexts}
use Rattle.words.specs.declared.jobs.PairTexts.TheVariants.{Listed, Table}
use Rattle.words.specs.Words.{ComesTwice, IsInput}

one_of_two : (pairs : PairTexts) → ComesTwice false pairs → ComesTwice true pairs
one_of_two (Listed pairs) twice = absurd twice
one_of_two (Table sources targets) twice = inl twice.0

module _ (network : List ℕ) (pairs : PairTexts) where
  -- the network and a text of pairs, or both texts of pairs
  abbrev pub IsTwice : Type 0
  IsTwice = (IsInput network × ComesTwice true pairs) ⊎ ComesTwice false pairs

  pub network_and_pairs : (is_network result : Bool) → Decides is_network (IsInput network) → Decides result (ComesTwice is_network pairs) → Decides result IsTwice
  network_and_pairs true result told twice = (
    λ e. inl (told.0 refl, twice.0 e),
    λ either. ⊎_elim (λ (one : IsInput network × ComesTwice true pairs). twice.1 one.1) (λ (two : ComesTwice false pairs). twice.1 (one_of_two pairs two)) either,
  )
  network_and_pairs false result told twice = (
    λ e. inr (twice.0 e),
    λ either. ⊎_elim (λ (one : IsInput network × ComesTwice true pairs). absurd (let no : false ≡ true = told.1 one.0 in cc)) (λ (two : ComesTwice false pairs). twice.1 two) either,
  )
