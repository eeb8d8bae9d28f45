-- What opening a file tells, and what the file is stored as.
use Rattle.std.proofs.Common.{◌≡◌, ℕ, ◌+◌, ◌≤◌, List, [], ◌∷◌, length, Option, Some, Result, Ok, Err, refl, sym, ◌∙◌, ap, subst, arith, length-append}
use Rattle.std.specs.List.{flat_map}
use Rattle.roadnet.specs.declared.commands.Command.{Command}
use Rattle.roadnet.specs.declared.refusals.Refusal.{Refusal}
use Rattle.roadnet.specs.Net.{Net}
use Rattle.pages.specs.declared.header.Header.{Header}
use Rattle.pages.specs.declared.content.Format.{Format}
use Rattle.pages.specs.declared.content.Format.TheVariants.{Two}
use Rattle.pages.specs.declared.content.Slot.{Slot}
use Rattle.storefile.specs.StoreFile.{page, Stored, HoldsJournal, groups_of, next_sequence}
use Rattle.storefile.specs.Judging.{opened, opened_in}
use Rattle.storefile.specs.Standing.{IsStoredAs, Standing, standing_in, standing_of, HasFitStoreNumbers}
use Rattle.pages.specs.Grouping.{records_in}
use Rattle.storefile.proofs.Opening.{opened_whole}
use Rattle.storefile.proofs.Whole.{opened_is}

abbrev standing_by : Stored × Net → Standing
standing_by x = record { header = x.0.header; slot = x.0.slot; epoch = x.0.epoch; network = x.1; version = x.0.version + length (groups_of x.0); next = next_sequence x.0; unchecked = length x.0.unchecked }

told : (r : Result (Stored × Net) Refusal) (x : Standing) → standing_in r ≡ Some x → (y : Stored × Net) × (r ≡ Ok y) × (standing_by y ≡ x)
told (Ok y) x e = (y, refl, cc)
told (Err d) x e = absurd cc

-- A file is stored as opening it tells.
pub stored_as : (file : List ℕ) (x : Standing) → standing_of file ≡ Some x → IsStoredAs file x.header x.slot x.epoch x.network x.version x.next x.unchecked
stored_as file x e =
    let t = told (opened file) x e in
    let is = opened_is Two (length file) (page file) t.0 t.1 in
    subst (λ (y : Standing). IsStoredAs file y.header y.slot y.epoch y.network y.version y.next y.unchecked) t.2
    (record { stored = t.0.0; stands = record { is = is.0; gives = record { network = is.1; version_is = refl }; next_is = refl }; header_is = refl; format_is = is.2; slot_is = refl; epoch_is = refl; unchecked_is = refl })

same : (h h' : Header) (slot slot' : Slot) (epoch epoch' : ℕ) (net : Net) (v v' q q' u u' : ℕ) → h ≡ h' → slot ≡ slot' → epoch ≡ epoch' → v ≡ v' → q ≡ q' → u ≡ u'
    → ◌≡◌ {A = Option Standing} (Some (record { header = h; slot = slot; epoch = epoch; network = net; version = v; next = q; unchecked = u })) (Some (record { header = h'; slot = slot'; epoch = epoch'; network = net; version = v'; next = q'; unchecked = u' }))
same h h' slot slot' epoch epoch' net v v' q q' u u' a b c d e f = rw (a, b, c, d, e, f) refl

-- Opening tells as what a file is stored.
pub standing_is : (file : List ℕ) (h : Header) (slot : Slot) (epoch : ℕ) (net : Net) (version next unchecked : ℕ) → IsStoredAs file h slot epoch net version next unchecked
    → standing_of file ≡ Some (record { header = h; slot = slot; epoch = epoch; network = net; version = version; next = next; unchecked = unchecked })
standing_is file h slot epoch net version next unchecked held =
    let s = held.stored in
    ap standing_in (ap (λ (f : Format). opened_in f file) (sym held.format_is) ∙ opened_whole (length file) (page file) held.stored net held.stands.is held.stands.gives.network)
    ∙ same s.header h s.slot slot s.epoch epoch net _ version _ next _ unchecked held.header_is held.slot_is held.epoch_is (sym held.stands.gives.version_is) (sym held.stands.next_is) (sym held.unchecked_is)

-- what has no empty group and some record has a group
some_group : (gs : List (List Command)) → 1 ≤ length (records_in gs) → 1 ≤ length gs
some_group [] some = some
some_group (g ∷ gs) some = omega arith

-- each page holds a group at least
pages_to : (pages : ℕ → List ℕ) (h : Header) (q v : ℕ) (css : List (List (List Command))) → HoldsJournal pages h q v css → length css ≤ length (flat_map (λ cs. cs) css)
pages_to pages h q v [] holds = omega arith
pages_to pages h q v (cs ∷ css) holds =
    let rest = pages_to pages h (q + 1) (v + length cs) css holds.2 in
    omega (arith, rest, some_group cs holds.1.fits.records.some, length-append cs (flat_map (λ xs. xs) css))

-- The numbers of what a file is stored as are within what its pages can spell.
pub fit_numbers : (file : List ℕ) (h : Header) (slot : Slot) (epoch : ℕ) (net : Net) (version next unchecked : ℕ) → IsStoredAs file h slot epoch net version next unchecked → HasFitStoreNumbers h epoch version next unchecked
fit_numbers file h slot epoch net version next unchecked held =
    let s = held.stored in
    let is = held.stands.is in
    let many = pages_to (page file) held.stored.header held.stored.sequence held.stored.version held.stored.unchecked held.stands.is.journal in
    let numbers = held.stands.is.held.head_is.fits.numbers in
    subst (λ (x : Header). HasFitStoreNumbers x epoch version next unchecked) held.header_is (record {
      header = held.stands.is.header.fits;
      version_to = omega (arith, held.stands.gives.version_is, held.stands.is.versions_to);
      next_to = omega (arith, held.stands.gives.version_is, held.stands.next_is, many, numbers.sequence_to);
      epoch_to = omega (arith, held.stands.next_is, held.unchecked_is, held.epoch_is, numbers.epoch_to);
      unchecked_to = omega (arith, held.unchecked_is, held.stands.is.few);
      unchecked_from = omega (arith, held.unchecked_is, held.stands.next_is);
    })
