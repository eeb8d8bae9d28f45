-- A store brought to a new map: the maps of two texts, the network, and the store that is made of it.
use Rattle.std.proofs.Common.{◌≡◌, ◌∙◌, inl, inr, ℕ, ◌≤◌, false, true, List, length, Option, None, Some, Result, Ok, Err, refl, ap, arith}
use Rattle.std.specs.Prelude.{IfSome, IfErr, OnOk}
use Rattle.std.specs.Io.KnownBytes.{Appends}
use Rattle.std.proofs.lemmas.Bool.{ne_eqb, le-ltb}
use Rattle.roadnet.specs.declared.refusals.Refusal.{Refusal}
use Rattle.roadnet.specs.declared.refusals.Refusal.TheVariants.{Write, NotEmpty, TooLarge, OutOfMemory, OtherNetwork}
use Rattle.roadnet.specs.Net.{Net, IsRoomFor}
use Rattle.pages.specs.declared.content.Format.TheVariants.{Two}
use Rattle.storefile.specs.StoreFile.{page, Stored}
use Rattle.storefile.specs.Judging.{opened}
use Rattle.storefile.specs.Standing.{Standing, standing_in}
use Rattle.storefile.proofs.Whole.{opened_is}
use Rattle.store.specs.Migrating.{room_of, roomed}
use Rattle.store.specs.State.{Told, HasTold}
use Rattle.dimacs.specs.Content.{content}
use Rattle.dimacs.specs.Texts.{Source}
use Rattle.printing.specs.declared.failed.Failed.{Failed}
use Rattle.printing.specs.declared.failed.Failed.TheVariants.{Code}
use Rattle.printing.specs.Failing.{CountsWrites}
use Rattle.upgrades.specs.declared.counts.Counts.{Counts}
use Rattle.storetexts.specs.Created.{IsNewStore, IsOfMaking}
use Rattle.storetexts.specs.Refused.{IfDone, IfNoDevice, IfNoMemory, IfNotEmpty}
use Rattle.storetexts.specs.Upgraded.{AreMapsOf, AreRefusedMaps, IsOfMaps, IsRefusedUpgrade, IsUpgradeBy, IsUpgradeOf, IsUpgradedStore, MayRefuseStored, TellsUpgrade, fit_pages, upgrade_lines}

-- ---- the maps
pub maps_told : (a b : Option (List ℕ)) (room : Option ℕ) (old map new : Net) → IfSome a (λ n. content n ≡ Ok old) → IfSome b (λ n. content n ≡ Ok map) → IsRoomFor map (room_of map room) → new ≡ roomed map room
    → IfSome a (λ first. IfSome b (λ second. AreMapsOf first second room old new))
maps_told None b room old map new old_is map_is fits is = tt
maps_told (Some n) None room old map new old_is map_is fits is = tt
maps_told (Some n) (Some m) room old map new old_is map_is fits is = record { old_is = old_is; map = map; map_is = map_is; fits = fits; new_is = is }

pub room_refused : (a b : Option (List ℕ)) (room : Option ℕ) (before after : Source) (old map : Net) (refusal : Refusal) → IfSome a (λ n. content n ≡ Ok old) → IfSome b (λ n. content n ≡ Ok map) → refusal ≡ TooLarge
    → ¬ IsRoomFor map (room_of map room) → IfSome a (λ first. IfSome b (λ second. AreRefusedMaps first second room before after (Code refusal)))
room_refused None b room before after old map refusal old_is map_is large unfit = tt
room_refused (Some n) None room before after old map refusal old_is map_is large unfit = tt
room_refused (Some n) (Some m) room before after old map refusal old_is map_is large unfit =
    rw large (record { net = old; network_is = old_is; holds = record { net = map; network_is = map_is; holds = unfit } })

module _ (failed : Failed) (of : IsOfMaps failed) where
  pub maps_undone : (P : Type 0) → IfDone (Err failed) P
  maps_undone P = go failed of
    where
      go : (f : Failed) → IsOfMaps f → IfDone (Err f) P
      go (Code Write) h = absurd h
      go _ h = tt

  pub maps_not_empty : (P : Type 0) → IfNotEmpty failed P
  maps_not_empty P = go failed of
    where
      go : (f : Failed) → IsOfMaps f → IfNotEmpty f P
      go (Code NotEmpty) h = absurd h
      go _ h = tt

  pub maps_counts : (n : ℕ) → CountsWrites {X = Unit {0}} n n (Err failed)
  maps_counts n = go failed of
    where
      go : (f : Failed) → IsOfMaps f → CountsWrites {X = Unit {0}} n n (Err f)
      go (Code Write) h = absurd h
      go _ h = refl

pub maps_refused : (Honest : Type 0) (file : List ℕ) (a b : Option (List ℕ)) (room : Option ℕ) (before after : Source) (failed : Failed) → IfSome a (λ first. IfSome b (λ second. AreRefusedMaps first second room before after failed))
    → IfSome a (λ first. IfSome b (λ second. IsRefusedUpgrade Honest file first second room before after failed))
maps_refused Honest file None b room before after failed h = tt
maps_refused Honest file (Some n) None room before after failed h = tt
maps_refused Honest file (Some n) (Some m) room before after failed h = inl h

-- ---- where only a write failed, nothing is said of the disk
module _ (X : Type 0) where
  pub write_not_empty : (r : Result (Unit {0}) Failed) → IfErr r (λ failed. failed ≡ Code Write) → IfErr r (λ failed. IfNotEmpty failed X)
  write_not_empty (Ok done) is = tt
  write_not_empty (Err failed) is = rw is tt

  pub write_no_memory : (r : Result (Unit {0}) Failed) → IfErr r (λ failed. failed ≡ Code Write) → IfErr r (λ failed. IfNoMemory failed X)
  write_no_memory (Ok done) is = tt
  write_no_memory (Err failed) is = rw is tt

  pub write_no_device : (r : Result (Unit {0}) Failed) → IfErr r (λ failed. failed ≡ Code Write) → IfErr r (λ failed. IfNoDevice failed X)
  write_no_device (Ok done) is = tt
  write_no_device (Err failed) is = rw is tt

-- ---- the journal's pages
opened_so : (r : Result (Stored × Net) Refusal) (x : Standing) → standing_in r ≡ Some x → (y : Stored × Net) × (r ≡ Ok y) × (y.0.header ≡ x.header)
opened_so (Ok y) x e = (y, refl, cc)
opened_so (Err d) x e = absurd cc

pub journal_fits : (file : List ℕ) (told : Told) → HasTold file told → fit_pages told.journal_pages ≡ told.journal_pages
journal_fits file told stands =
    let found = opened_so (opened file) stands.standing stands.is in
    let fits = (opened_is Two (length file) (page file) found.0 found.1).0.header.fits in
    let pages : found.0.0.header.journal_pages ≡ told.journal_pages = ap (λ h. h.journal_pages) found.2 ∙ ap (λ (t : Told). t.journal_pages) stands.told_is in
    go told.journal_pages (let low = fits.some_page in omega (arith, low, pages)) (let high = fits.pages_to in omega (arith, high, pages))
  where
    go : (n : ℕ) → 1 ≤ n → n ≤ 65536 → fit_pages n ≡ n
    go n low high = rw (ne_eqb n 0 (λ e. omega (arith, low, e)), le-ltb 65536 n high) refl

-- ---- the upgrade
module _ (Honest : Type 0) (file : List ℕ) where
  pub stored_undone : (old : Net) (refusal : Refusal) (P : Type 0) → MayRefuseStored Honest file old refusal → IfDone (Err (Code refusal)) P
  stored_undone old Write P (inl unopened) = absurd (let never : false ≡ true = unopened.0 in cc)
  stored_undone old Write P (inr (stored, stands, inl other)) = absurd (let same : Write ≡ OtherNetwork = other.0 in let absurdity : ⊥ = cc in absurdity)
  stored_undone old Write P (inr (stored, stands, inr memory)) = absurd (let same : Write ≡ OutOfMemory = memory.0 in let absurdity : ⊥ = cc in absurdity)
  stored_undone old _ P h = tt

  pub stored_not_empty : (old : Net) (refusal : Refusal) (P : Type 0) → MayRefuseStored Honest file old refusal → IfNotEmpty (Code refusal) P
  stored_not_empty old NotEmpty P (inl unopened) = absurd (let never : false ≡ true = unopened.0 in cc)
  stored_not_empty old NotEmpty P (inr (stored, stands, inl other)) = absurd (let same : NotEmpty ≡ OtherNetwork = other.0 in let absurdity : ⊥ = cc in absurdity)
  stored_not_empty old NotEmpty P (inr (stored, stands, inr memory)) = absurd (let same : NotEmpty ≡ OutOfMemory = memory.0 in let absurdity : ⊥ = cc in absurdity)
  stored_not_empty old _ P h = tt

  pub stored_counts : (old : Net) (refusal : Refusal) (n : ℕ) → MayRefuseStored Honest file old refusal → CountsWrites {X = Unit {0}} n n (Err (Code refusal))
  stored_counts old Write n (inl unopened) = absurd (let never : false ≡ true = unopened.0 in cc)
  stored_counts old Write n (inr (stored, stands, inl other)) = absurd (let same : Write ≡ OtherNetwork = other.0 in let absurdity : ⊥ = cc in absurdity)
  stored_counts old Write n (inr (stored, stands, inr memory)) = absurd (let same : Write ≡ OutOfMemory = memory.0 in let absurdity : ⊥ = cc in absurdity)
  stored_counts old _ n h = refl

  pub stored_refused : (a b : Option (List ℕ)) (room : Option ℕ) (before after : Source) (old new : Net) (refusal : Refusal) → IfSome a (λ first. IfSome b (λ second. AreMapsOf first second room old new))
      → MayRefuseStored Honest file old refusal → IfSome a (λ first. IfSome b (λ second. IsRefusedUpgrade Honest file first second room before after (Code refusal)))
  stored_refused None b room before after old new refusal maps h = tt
  stored_refused (Some n) None room before after old new refusal maps h = tt
  stored_refused (Some n) (Some m) room before after old new refusal maps h = inr (inl (old, new, maps, h))

  module _ (room : Option ℕ) (old new made : Net) (counts : Counts) (pages : ℕ) (upgrade : IsUpgradeBy Honest file old new made counts pages) where
    upgrade_of : (n m : List ℕ) → AreMapsOf n m room old new → IsUpgradeOf Honest file n m room made counts pages
    upgrade_of n m maps = record { old = old; new = new; maps = maps; upgrade = upgrade }

    pub upgraded_store : (r : Result (Unit {0}) Failed) (a b : Option (List ℕ)) (content : List ℕ) (left : List ℕ → Type 0) → IfSome a (λ first. IfSome b (λ second. AreMapsOf first second room old new))
        → IfDone r (IsNewStore made pages content left) → IfDone r (IfSome a (λ first. IfSome b (λ second. IsUpgradedStore Honest file first second room content left)))
    upgraded_store r a b content left maps store = done_weaker r (known a b maps) store
      where
        done_weaker : (r : Result (Unit {0}) Failed) {P Q : Type 0} → (P → Q) → IfDone r P → IfDone r Q
        done_weaker (Ok done) f h = f h
        done_weaker (Err (Code Write)) f h = f h
        done_weaker (Err failed) f h = tt

        known : (x y : Option (List ℕ)) → IfSome x (λ first. IfSome y (λ second. AreMapsOf first second room old new)) → IsNewStore made pages content left
            → IfSome x (λ first. IfSome y (λ second. IsUpgradedStore Honest file first second room content left))
        known None y is there = tt
        known (Some n) None is there = tt
        known (Some n) (Some m) is there = record { made = made; counts = counts; journal_pages = pages; upgrade = upgrade_of n m is; store = there }

    pub told_upgrade : (r : Result (Unit {0}) Failed) (a b : Option (List ℕ)) (was is : Option (List ℕ)) → IfSome a (λ first. IfSome b (λ second. AreMapsOf first second room old new))
        → OnOk r (Appends was is (upgrade_lines counts)) → OnOk r (IfSome a (λ first. IfSome b (λ second. TellsUpgrade Honest file first second room was is)))
    told_upgrade (Err failed) a b was is maps written = tt
    told_upgrade (Ok done) None b was is maps written = tt
    told_upgrade (Ok done) (Some n) None was is maps written = tt
    told_upgrade (Ok done) (Some n) (Some m) was is maps written = record { made = made; counts = counts; journal_pages = pages; upgrade = upgrade_of n m maps; written = written }

    pub making_refused : (r : Result (Unit {0}) Failed) (a b : Option (List ℕ)) (before after : Source) → IfSome a (λ first. IfSome b (λ second. AreMapsOf first second room old new))
        → IfErr r IsOfMaking → IfErr r (λ failed. IfSome a (λ first. IfSome b (λ second. IsRefusedUpgrade Honest file first second room before after failed)))
    making_refused (Ok done) a b before after maps h = tt
    making_refused (Err failed) None b before after maps h = tt
    making_refused (Err failed) (Some n) None before after maps h = tt
    making_refused (Err failed) (Some n) (Some m) before after maps h = inr (inr (made, counts, pages, upgrade_of n m maps, h))
