-- One landmark more is read.
use Rattle.std.proofs.Common.{◌≡◌, ◌∙◌, ℕ, ◌+◌, ◌-◌, ◌<◌, ◌≤◌, ◌⊎◌, inl, inr, max, List, [], ◌∷◌, ◌++◌, length, take, get_or, Option, None, Some, refl, sym, subst, arith, ⊎_elim, Contains}
use Rattle.std.specs.Prelude.{MatchOption}
use Rattle.std.proofs.lemmas.List.{take_more, take_all}
use Rattle.std.proofs.lemmas.Bool.{cases_lt}
use Rattle.std.proofs.lemmas.List.Elements.{Contains-append_left, Contains-push, Contains-push_cases, Contains-get_or}
use Rattle.roadnet.specs.Net.{Net, IsNode}
use Rattle.roadnet.specs.Walks.{Least, NoWalk, RowOf, distance_at}
use Rattle.roadnet.proofs.Joined.{least_is_one, least_or_no_walk}
use Rattle.rows.specs.Bounds.{ShowsNoWalk, HasDifference, IsBoundBy, IsShown}
use Rattle.kept_rows.specs.Told.{difference_of, told_by_row}

max_cases : (a b : ℕ) → (max a b ≡ a) ⊎ (max a b ≡ b)
max_cases a b = ⊎_elim (λ (lt : a < b). inr (omega arith)) (λ (le : b ≤ a). inl (omega arith)) (cases_lt a b)

none_among : (landmark : ℕ) → Contains [] landmark → ⊥
none_among landmark among = omega (arith, among.1)

module _ (net : Net) (s t : ℕ) where
  -- before any landmark is read
  pub none_read : IsBoundBy [] net s t 0
  none_read = record {
    not_shown = λ landmark among shows. none_among landmark among;
    above = λ landmark difference among has. absurd (none_among landmark among);
    reached = inl refl;
  }

  module _ (landmarks : List ℕ) (bound : ℕ) (l difference : ℕ) where
    -- with what one landmark more tells
    joined : IsBoundBy landmarks net s t bound → ¬ ShowsNoWalk net s t l → ((d : ℕ) → HasDifference net s t d l → d ≤ difference)
        → (difference ≡ 0) ⊎ HasDifference net s t difference l → IsBoundBy (landmarks ++ l ∷ []) net s t (max bound difference)
    joined is unshown most here = record {
      not_shown = λ x among shows. ⊎_elim (λ (old : Contains landmarks x). is.not_shown x old shows)
          (λ (new : l ≡ x). unshown (subst (ShowsNoWalk net s t) (sym new) shows)) (Contains-push_cases landmarks l x among);
      above = λ x d among has. ⊎_elim (λ (old : Contains landmarks x). let le : d ≤ bound = is.above x d old has in omega (arith, le))
          (λ (new : l ≡ x). let le : d ≤ difference = most d (subst (HasDifference net s t d) (sym new) has) in omega (arith, le)) (Contains-push_cases landmarks l x among);
      reached = ⊎_elim
          (λ (first : max bound difference ≡ bound). ⊎_elim (λ (zero : bound ≡ 0). inl (first ∙ zero))
          (λ (some : (x : ℕ) × Contains landmarks x × HasDifference net s t bound x). inr (some.0, Contains-append_left landmarks (l ∷ []) some.0 some.1, subst (λ (b : ℕ). HasDifference net s t b some.0) (sym first) some.2)) is.reached)
          (λ (second : max bound difference ≡ difference). ⊎_elim (λ (zero : difference ≡ 0). inl (second ∙ zero))
          (λ (some : HasDifference net s t difference l). inr (l, Contains-push landmarks l, subst (λ (b : ℕ). HasDifference net s t b l) (sym second) some)) here)
          (max_cases bound difference);
    }

    by_entries : (to_s to_t : Option ℕ) → MatchOption to_s (NoWalk net l s) (Least net l s) → MatchOption to_t (NoWalk net l t) (Least net l t)
        → difference_of to_s to_t ≡ Some difference → IsBoundBy landmarks net s t bound → IsBoundBy (landmarks ++ l ∷ []) net s t (max bound difference)
    by_entries None to_t none any told is =
        let zero : difference ≡ 0 = cc in
        joined is (λ shows. least_or_no_walk net l s shows.to_source shows.source none)
        (λ d has. absurd (least_or_no_walk net l s has.to_source has.source none)) (inl zero)
    by_entries (Some a) None least none told is = cc
    by_entries (Some a) (Some b) source target told is =
        let same : b - a ≡ difference = cc in
        joined is (λ shows. least_or_no_walk net l t b target shows.target)
        (λ d has. let to_s : has.to_source ≡ a = least_is_one net l s has.to_source a has.source source in
        let to_t : has.to_target ≡ b = least_is_one net l t has.to_target b has.target target in
        let is_d : d ≡ has.to_target - has.to_source = has.difference_is in
        omega (arith, to_s, to_t, is_d, same))
        (inr (record { to_source = a; to_target = b; source = source; target = target; difference_is = sym same }))

    pub one_more_read : (row : List (Option ℕ)) → IsNode net s → IsNode net t → RowOf net l row → told_by_row row s t ≡ Some difference
        → IsBoundBy landmarks net s t bound → IsBoundBy (landmarks ++ l ∷ []) net s t (max bound difference)
    one_more_read row node_s node_t row_of told is = by_entries (distance_at row s) (distance_at row t) (row_of.each s node_s) (row_of.each t node_t) told is

  module _ (l : ℕ) where
    shown_by_entries : (to_s to_t : Option ℕ) → MatchOption to_s (NoWalk net l s) (Least net l s) → MatchOption to_t (NoWalk net l t) (Least net l t)
        → difference_of to_s to_t ≡ None → ShowsNoWalk net s t l
    shown_by_entries None to_t none any told = cc
    shown_by_entries (Some a) None least none told = record { to_source = a; source = least; target = none }
    shown_by_entries (Some a) (Some b) source target told = cc

    pub shown_by_row : (row : List (Option ℕ)) → IsNode net s → IsNode net t → RowOf net l row → told_by_row row s t ≡ None → ShowsNoWalk net s t l
    shown_by_row row node_s node_t row_of told = shown_by_entries (distance_at row s) (distance_at row t) (row_of.each s node_s) (row_of.each t node_t) told

  -- the landmark at a place of the network's is read
  pub place_read : (i d bound difference : ℕ) (row : List (Option ℕ)) → i < length net.landmarks → IsNode net s → IsNode net t → RowOf net (get_or net.landmarks i d) row
      → told_by_row row s t ≡ Some difference → IsBoundBy (take i net.landmarks) net s t bound → IsBoundBy (take (i + 1) net.landmarks) net s t (max bound difference)
  place_read i d bound difference row lt node_s node_t row_of told is =
      subst (λ (ls : List ℕ). IsBoundBy ls net s t (max bound difference)) (sym (take_more net.landmarks i d lt))
      (one_more_read (take i net.landmarks) bound (get_or net.landmarks i d) difference row node_s node_t row_of told is)

  pub place_shows : (i d : ℕ) (row : List (Option ℕ)) → i < length net.landmarks → IsNode net s → IsNode net t → RowOf net (get_or net.landmarks i d) row
      → told_by_row row s t ≡ None → IsShown net s t
  place_shows i d row lt node_s node_t row_of told = record {
    landmark = get_or net.landmarks i d;
    among = Contains-get_or net.landmarks i d lt;
    shows = shown_by_row (get_or net.landmarks i d) row node_s node_t row_of told;
  }

  pub all_read : (i bound : ℕ) → length net.landmarks ≤ i → IsBoundBy (take i net.landmarks) net s t bound → IsBoundBy net.landmarks net s t bound
  all_read i bound le is = subst (λ (ls : List ℕ). IsBoundBy ls net s t bound) (take_all i net.landmarks le) is
