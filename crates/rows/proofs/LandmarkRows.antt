-- The rows of landmarks, as they are made and read.
use Rattle.std.proofs.Common.{◌≡◌, ◌∙◌, ℕ, ◌+◌, ◌<◌, List, [], ◌∷◌, ◌++◌, map, length, get_or, take, sym, ap, subst, arith}
use Rattle.std.proofs.lemmas.List.{take_more, map-append, length-map, get_or-map}
use Rattle.roadnet.specs.Net.{Net}
use Rattle.roadnet.specs.Walks.{RowOf}
use Rattle.rows.specs.Views.{IsRowAt, AreLandmarkRows}
use Rattle.rows.specs.declared.landmark_rows.Row.{Row}

-- One row more is made.

pub landmarks_more : (landmarks : List ℕ) (i d : ℕ) (rows : List Row) (row : Row) → i < length landmarks
    → map (λ (r : Row). r.landmark) rows ≡ take i landmarks → row.landmark ≡ get_or landmarks i d → map (λ (r : Row). r.landmark) (rows ++ row ∷ []) ≡ take (i + 1) landmarks
landmarks_more landmarks i d rows row lt before here =
    map-append (λ (r : Row). r.landmark) rows (row ∷ [])
    ∙ ap (λ (ls : List ℕ). ls ++ row.landmark ∷ []) before
    ∙ ap (λ (l : ℕ). take i landmarks ++ l ∷ []) here
    ∙ sym (take_more landmarks i d lt)

-- The row at a place is that of the landmark at it.
pub landmark_at : (version : ℕ) (net : Net) (rows : List Row) (i : ℕ) (row : Row) → AreLandmarkRows version net rows → i < length rows → row ≡ get_or rows i row
    → (i < length net.landmarks) × RowOf net (get_or net.landmarks i 0) row.distances
landmark_at version net rows i row are lt is =
    let as_many : length (map (λ (r : Row). r.landmark) rows) ≡ length rows = length-map rows (λ (r : Row). r.landmark) in
    let same : length (map (λ (r : Row). r.landmark) rows) ≡ length net.landmarks = ap (λ (ls : List ℕ). length ls) are.landmarks in
    let at : get_or (map (λ (r : Row). r.landmark) rows) i 0 ≡ (get_or rows i row).landmark = get_or-map (λ (r : Row). r.landmark) rows i row 0 lt in
    let there : get_or net.landmarks i 0 ≡ (get_or rows i row).landmark = sym (ap (λ (ls : List ℕ). get_or ls i 0) are.landmarks) ∙ at in
    let of : IsRowAt version net (get_or rows i row) = are.each i row lt in
    let its : RowOf net (get_or net.landmarks i 0) (get_or rows i row).distances = subst (λ (l : ℕ). RowOf net l (get_or rows i row).distances) (sym there) of.distances in
    (omega (arith, as_many, same), subst (λ (r : Row). RowOf net (get_or net.landmarks i 0) r.distances) (sym is) its)
