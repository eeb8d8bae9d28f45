-- One row more of a table.
use Rattle.std.proofs.Common.{◌≡◌, ◌∙◌, ℕ, ◌+◌, ◌<◌, List, [], ◌∷◌, ◌++◌, length, get_or, take, ap, sym, append-nil}
use Rattle.std.proofs.lemmas.Grind.{flat_map-append}
use Rattle.std.proofs.lemmas.List.{take_more}
use Rattle.dimacs.specs.declared.lists.pairs.Pair.{Pair}
use Rattle.querytexts.specs.Table.{pairs_from, pairs_between}

pub row_more : (sources targets : List ℕ) (i d : ℕ) → i < length sources
    → pairs_between (take (i + 1) sources) targets ≡ pairs_between (take i sources) targets ++ pairs_from (get_or sources i d) targets
row_more sources targets i d lt =
    ap (λ (list : List ℕ). pairs_between list targets) (take_more sources i d lt)
    ∙ flat_map-append (λ source. pairs_from source targets) (take i sources) (get_or sources i d ∷ [])
    ∙ ap (λ (list : List Pair). pairs_between (take i sources) targets ++ list) (append-nil (pairs_from (get_or sources i d) targets))

-- a row is added
pub rows_grow : (sources targets : List ℕ) (i d : ℕ) (before after : List Pair) → i < length sources → before ≡ pairs_between (take i sources) targets
    → after ≡ before ++ pairs_from (get_or sources i d) targets → after ≡ pairs_between (take (i + 1) sources) targets
rows_grow sources targets i d before after lt was is = is ∙ ap (λ (list : List Pair). list ++ pairs_from (get_or sources i d) targets) was ∙ sym (row_more sources targets i d lt)
