-- Rows that are kept for all who ask a desk.
use Rattle.std.proofs.Common.{◌≡◌, ◌∙◌, ℕ, ◌+◌, ◌<◌, ◌≤◌, nat_le, nat_eq, true, List, [], ◌∷◌, ◌++◌, Option, None, Some, length, take, drop, slice_index_or, refl, sym, ap, subst, arith}
use Rattle.std.proofs.lemmas.Bool.Decides.{nat_tests}
use Rattle.std.proofs.lemmas.List.{length-append, get_or_at, get_or_read}
use Rattle.std.proofs.lemmas.List.Elements.{All-append, All-push, All-nil, All-take, All-drop}
use Rattle.std.specs.Prelude.{unwrap_or}
use mathlib.Core.List.{IsPrefix}
use Rattle.roadnet.specs.declared.groups.Group.{Group}
use Rattle.roadnet.specs.Net.{Net}
use Rattle.roadnet.specs.Reversal.{reversed}
use Rattle.roadnet.specs.Step.{after}
use Rattle.roadnet.specs.Walks.{RowOf}
use Rattle.snapshot.specs.Groups.{Groups, IsSnapshotOf}
use Rattle.rows.specs.Backs.{LeadsBack}
use Rattle.rows.specs.Views.{Viewed}
use Rattle.history.specs.Origins.{Origin, Beginning}
use Rattle.history.proofs.Beginnings.{prefix_whole}
use Rattle.desk.specs.Readings.{IsViewAfter}
use Rattle.desk.specs.Shelves.{AreRowsIn, IsShelfOf, IsOfShelf, IsBackOf, IsTurnedOf, IsAfter, IsAskedAt, IsKeptRowAt, HasRow}
use Rattle.desk.specs.declared.handles.shelves.KeptRow.{KeptRow}

-- a new shelf of a view has no row
pub new_shelf : (origin : Origin) (front : Beginning) (rows : List KeptRow) → front.origin ≡ origin → rows ≡ [] → IsShelfOf origin (Some front) rows
new_shelf origin front rows of none = (of, λ net is. subst (AreRowsIn net) (sym none) (All-nil (λ kept. RowOf net kept.source kept.distances)))

-- ---- which view is the later one
prefix_long : {A : Type 0} (xs ys : List A) → IsPrefix xs ys → length xs ≤ length ys
prefix_long xs ys begins = let long = sym (ap length begins.1) ∙ length-append xs begins.0 in omega (arith, long)

-- a view that begins the shelf's is no earlier one only where it is the same
pub latest_begun : (front : Beginning) (groups : List Group) → IsPrefix groups front.groups → nat_eq (length front.groups) (length groups) ≡ nat_le (length front.groups) (length groups)
latest_begun front groups begins = let within = prefix_long groups front.groups begins in grind (arith, nat_tests)

pub same_groups : (front : Beginning) (groups : List Group) → IsPrefix groups front.groups → nat_eq (length front.groups) (length groups) ≡ true → front.groups ≡ groups
same_groups front groups begins same = sym (prefix_whole groups front.groups begins (grind (arith, nat_tests)))

pub latest_later : (front : Beginning) (groups : List Group) → length front.groups < length groups → true ≡ nat_le (length front.groups) (length groups)
latest_later front groups shorter = grind (arith, nat_tests)

-- ---- rows of the shelf
one_net : (one other : Net) → Some one ≡ Some other → one ≡ other
one_net one other same = ap (λ (net : Option Net). unwrap_or net other) same

-- a kept row is one of the view that was looked at
pub row_found : (origin : Origin) (groups : Option Beginning) (rows : List KeptRow) (known : List Group) (view : Viewed) (source place : ℕ) (kept : KeptRow) → IsShelfOf origin groups rows → IsAfter groups known
    → IsViewAfter origin known view → IsKeptRowAt source rows place → kept ≡ slice_index_or rows place kept → RowOf view.network source kept.distances
row_found origin None rows known view source place kept shelf at view_after there is = absurd at
row_found origin (Some front) rows known view source place kept shelf at view_after there is =
    let network : after origin.base front.groups ≡ Some view.network = ap (after origin.base) at ∙ view_after.network in
    let row : RowOf view.network (slice_index_or rows place kept).source (slice_index_or rows place kept).distances = shelf.1 view.network network place kept there.0 in
    let same : RowOf view.network (slice_index_or rows place kept).source kept.distances = subst (λ (k : KeptRow). RowOf view.network (slice_index_or rows place kept).source k.distances) (sym is) row in
    subst (λ (s : ℕ). RowOf view.network s kept.distances) (there.1 kept) same

-- a row that stands somewhere is one of the shelf
pub of_shelf : (origin : Origin) (groups : Option Beginning) (rows : List KeptRow) (place : ℕ) (kept : KeptRow) → IsShelfOf origin groups rows → place < length rows → kept ≡ slice_index_or rows place kept → IsOfShelf origin groups kept
of_shelf origin None rows place kept shelf within is = absurd (let none = ap length shelf in omega (arith, none))
of_shelf origin (Some front) rows place kept shelf within is = λ net network.
    subst (λ (k : KeptRow). RowOf net k.source k.distances) (sym is) (shelf.1 net network place kept within)

-- a new row of the view that the shelf is of
pub new_of_shelf : (origin : Origin) (groups : Option Beginning) (known : List Group) (view : Viewed) (kept : KeptRow) → IsAfter groups known → IsViewAfter origin known view → RowOf view.network kept.source kept.distances
    → IsOfShelf origin groups kept
new_of_shelf origin None known view kept at view_after row = absurd at
new_of_shelf origin (Some front) known view kept at view_after row = λ net network.
    let same : view.network ≡ net = one_net view.network net (sym (ap (after origin.base) at ∙ view_after.network) ∙ network) in
    subst (λ (n : Net). RowOf n kept.source kept.distances) same row

-- the arcs that are kept are those of the view that was looked at
pub turned_found : (origin : Origin) (groups : Option Beginning) (known : List Group) (view : Viewed) (back : Groups) → IsTurnedOf origin groups back → IsAfter groups known → IsViewAfter origin known view → IsSnapshotOf (reversed view.network) back
turned_found origin None known view back turned at view_after = absurd at
turned_found origin (Some front) known view back turned at view_after = turned view.network (ap (after origin.base) at ∙ view_after.network)

-- and those of that view may be kept
pub new_turned : (origin : Origin) (groups : Option Beginning) (known : List Group) (view : Viewed) (back : Groups) → IsAfter groups known → IsViewAfter origin known view → IsSnapshotOf (reversed view.network) back → IsTurnedOf origin groups back
new_turned origin None known view back at view_after turned = absurd at
new_turned origin (Some front) known view back at view_after turned = λ net network.
    let same : view.network ≡ net = one_net view.network net (sym (ap (after origin.base) at ∙ view_after.network) ∙ network) in
    subst (λ (n : Net). IsSnapshotOf (reversed n) back) same turned

-- so it is with the arcs that have their numbers
pub back_found : (origin : Origin) (groups : Option Beginning) (known : List Group) (view : Viewed) (back : Groups) → IsBackOf origin groups back → IsAfter groups known → IsViewAfter origin known view → LeadsBack view.network back
back_found origin None known view back leads at view_after = absurd at
back_found origin (Some front) known view back leads at view_after = leads view.network (ap (after origin.base) at ∙ view_after.network)

pub new_back : (origin : Origin) (groups : Option Beginning) (known : List Group) (view : Viewed) (back : Groups) → IsAfter groups known → IsViewAfter origin known view → LeadsBack view.network back → IsBackOf origin groups back
new_back origin None known view back at view_after leads = absurd at
new_back origin (Some front) known view back at view_after leads = λ net network.
    let same : view.network ≡ net = one_net view.network net (sym (ap (after origin.base) at ∙ view_after.network) ∙ network) in
    subst (λ (n : Net). LeadsBack n back) same leads

-- without the row at a place it is a shelf still
pub shelf_without : (origin : Origin) (groups : Option Beginning) (rows : List KeptRow) (place : ℕ) → place < length rows → IsShelfOf origin groups rows → IsShelfOf origin groups (take place rows ++ drop (place + 1) rows)
shelf_without origin None rows place within shelf = absurd (let none = ap length shelf in omega (arith, none))
shelf_without origin (Some front) rows place within shelf = (
  shelf.0,
  λ net network.
      let P : KeptRow → Type 0 = λ kept. RowOf net kept.source kept.distances in
      All-append P (take place rows) (drop (place + 1) rows) (All-take P place rows (shelf.1 net network)) (All-drop P (place + 1) rows (shelf.1 net network)),
)

-- with a row of it more, too
pub shelf_with : (origin : Origin) (groups : Option Beginning) (rows : List KeptRow) (kept : KeptRow) → IsShelfOf origin groups rows → IsOfShelf origin groups kept → IsShelfOf origin groups (rows ++ kept ∷ [])
shelf_with origin None rows kept shelf row = absurd row
shelf_with origin (Some front) rows kept shelf row = (shelf.0, λ net network. All-push (λ (k : KeptRow). RowOf net k.source k.distances) rows kept (shelf.1 net network) (row net network))

-- the row that was put last is there
pub has_last : (rows : List KeptRow) (kept : KeptRow) → HasRow kept.source (rows ++ kept ∷ [])
has_last rows kept = (length rows, (omega (arith, length-append rows (kept ∷ [])), λ any. ap (λ (k : KeptRow). k.source) (get_or_at rows kept [] any (length rows) refl)))

pub asked_at : (asked : List (ℕ × ℕ)) (place version source : ℕ) (key : ℕ × ℕ) → place < length asked → key ≡ slice_index_or asked place key → key ≡ (version, source) → IsAskedAt version source asked place
asked_at asked place version source key within is same = (within, λ any. sym (get_or_read asked place key within is any) ∙ same)

pub row_at : (rows : List KeptRow) (place source : ℕ) (kept : KeptRow) → place < length rows → kept ≡ slice_index_or rows place kept → kept.source ≡ source → IsKeptRowAt source rows place
row_at rows place source kept within is same = (within, λ any. ap (λ (k : KeptRow). k.source) (sym (get_or_read rows place kept within is any)) ∙ same)
