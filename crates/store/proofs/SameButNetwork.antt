-- The pages of a store, where a call left all but the network alone, and that as it was.
use Rattle.std.proofs.Common.{◌≡◌, ◌≤◌, false, length, sym, subst}
use Rattle.std.specs.Prelude.{IfSome}
use Rattle.std.proofs.Props.{props}
use Rattle.disk.specs.declared.disk.Disk.{Ghosts}
use Rattle.roadnet.specs.Net.{Net}
use Rattle.pages.specs.declared.content.Format.TheVariants.{Two}
use Rattle.storefile.specs.Standing.{HasFitStoreNumbers}
use Rattle.store.specs.declared.paged.state.Paged.{Paged}
use Rattle.store.specs.Resting.{IsAtRest}
use Rattle.store.specs.Going.{FitsStore, FrozenGoesOn}

module _ {D : Type 0} {disk : Ghosts D} where
  -- what is known of the pages, with this network in place of theirs
  abbrev pub HasNumbers : Paged D disk → Type 0
  HasNumbers s = HasFitStoreNumbers s.found.header s.found.epoch s.found.version s.found.next_sequence s.found.unchecked

  abbrev pub Rests : Paged D disk → Type 0
  Rests s = s.broken ≡ false → disk.honest s.disk → IsAtRest (disk.content s.disk) (disk.left s.disk) s.found.header

  abbrev pub FitsGoing : Paged D disk → Type 0
  FitsGoing s = IfSome s.going (λ g. FitsStore s.found.header s.found.slot s.found.epoch s.found.version s.found.next_sequence s.found.unchecked g.next g.committed)

  abbrev pub GoesOnTo : Paged D disk → Net → Type 0
  GoesOnTo s net =
      s.broken ≡ false → disk.honest s.disk → ∥ IfSome s.going (λ g. FrozenGoesOn (disk.content s.disk) s.found.header g net s.found.version s.found.next_sequence) ∥₁

  numbers_one : (s : Paged D disk) → IsProp (HasNumbers s)
  numbers_one s = Prim.hlevel props

  today_one : (s : Paged D disk) → IsProp (s.found.header.format ≡ Two)
  today_one s = Prim.hlevel props

  arcs_one : (s : Paged D disk) → IsProp (s.found.header.arcs ≤ length s.found.network.arcs)
  arcs_one s = Prim.hlevel props

  rests_one : (s : Paged D disk) → IsProp (Rests s)
  rests_one s = Prim.hlevel props

  fits_one : (s : Paged D disk) → IsProp (FitsGoing s)
  fits_one s = Prim.hlevel props

  going_one : (s : Paged D disk) → IsProp (GoesOnTo s s.found.network)
  going_one s = Prim.hlevel props

  at_its_own : (s : Paged D disk) (numbers : HasNumbers s) (today : s.found.header.format ≡ Two) (from : s.found.header.arcs ≤ length s.found.network.arcs) (rests : Rests s) (fits : FitsGoing s) (on : GoesOnTo s s.found.network)
      → ◌≡◌ {A = Paged D disk} (record s { numbers = numbers; today = today; arcs_from = from; rests = rests; fits = fits; goes_on = on }) s
  at_its_own s numbers today from rests fits on = λ i. record s {
    numbers = numbers_one s numbers s.numbers i;
    today = today_one s today s.today i;
    arcs_from = arcs_one s from s.arcs_from i;
    rests = rests_one s rests s.rests i;
    fits = fits_one s fits s.fits i;
    goes_on = going_one s on s.goes_on i;
  }

  -- What is known of pages is known in one way, so with the same network they are the same.
  pub same_but_network : (s : Paged D disk) (net : Net) → net ≡ s.found.network
      → (numbers : HasNumbers s) (today : s.found.header.format ≡ Two) (from : s.found.header.arcs ≤ length net.arcs) (rests : Rests s) (fits : FitsGoing s) (on : GoesOnTo s net)
      → ◌≡◌ {A = Paged D disk} (record s { found = record s.found { network = net }; numbers = numbers; today = today; arcs_from = from; rests = rests; fits = fits; goes_on = on }) s
  same_but_network s net is =
      subst (λ (n : Net). (numbers : HasNumbers s) (today : s.found.header.format ≡ Two) (from : s.found.header.arcs ≤ length n.arcs) (rests : Rests s) (fits : FitsGoing s) (on : GoesOnTo s n)
      → ◌≡◌ {A = Paged D disk} (record s { found = record s.found { network = n }; numbers = numbers; today = today; arcs_from = from; rests = rests; fits = fits; goes_on = on }) s)
      (sym is) (at_its_own s)
