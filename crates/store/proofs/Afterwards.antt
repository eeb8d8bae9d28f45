-- What is told of a content that a stop left.
use Rattle.std.proofs.Common.{◌≡◌, ℕ, List, length, Some, refl, sym, ◌∙◌, subst}
use Rattle.roadnet.specs.Net.{Net}
use Rattle.pages.specs.Layout.{slot_pages}
use Rattle.storefile.specs.StoreFile.{StandsTidyFor}
use Rattle.storefile.specs.Standing.{Standing, standing_of, IsTidyAt}
use Rattle.storefile.proofs.Rests.{standing_is}
use Rattle.store.specs.Committing.{HasTidyStanding}

-- A content that a stop left, once it is opened: what is told is what the content stood for, it has those sizes, and it is tidy.
pub reopened : (journal_pages checkpoint_pages : ℕ) (c : List ℕ) (net : Net) (version : ℕ) (x : Standing) → StandsTidyFor journal_pages checkpoint_pages c net version → standing_of c ≡ Some x
    → (x.network ≡ net) × (x.version ≡ version) × HasTidyStanding c x × (x.header.journal_pages ≡ journal_pages) × (slot_pages x.header ≡ checkpoint_pages)
reopened journal_pages checkpoint_pages c net version x stood told =
    let s = stood.0 in
    let y : Standing = record { header = s.header; slot = s.slot; epoch = s.epoch; network = net; version = version; next = stood.1; unchecked = length s.unchecked } in
    let is : standing_of c ≡ Some y =
    standing_is c s.header s.slot s.epoch net version stood.1 (length s.unchecked) (record { stored = s; stands = stood.2.stands; header_is = refl; format_is = stood.5; slot_is = refl; epoch_is = refl; unchecked_is = refl }) in
    let both : Some y ≡ Some x = sym is ∙ told in
    let same : y ≡ x = cc in
    let tidy : IsTidyAt c y.header y.next = stood.2.tidy in
    let got : (x.network ≡ net) × (x.version ≡ version) × IsTidyAt c x.header x.next × (x.header.journal_pages ≡ journal_pages) × (slot_pages x.header ≡ checkpoint_pages) =
    subst (λ (z : Standing). (z.network ≡ net) × (z.version ≡ version) × IsTidyAt c z.header z.next × (z.header.journal_pages ≡ journal_pages) × (slot_pages z.header ≡ checkpoint_pages)) same (refl, refl, tidy, stood.3, stood.4) in
    (got.0, got.1, (told, got.2), got.3, got.4)
