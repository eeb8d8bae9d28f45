use Rattle.std.proofs.Common.{◌∙◌, ℕ, sym, subst, true≢false, Result}
use Rattle.std.specs.Prelude.{MatchResult}
use Rattle.roadnet.specs.Members.{IsPlaceOf, IsPlaceFor}
use Rattle.roadnet.proofs.Members.{place_from_search}
use Rattle.rows.proofs.views.place_of.Goals as goal

pub unreachable-requires : goal.unreachable-requires
unreachable-requires c =
    let found = place_from_search c.args.landmark c.args.landmarks.now c.binary_search.result c.requires.ascending c.binary_search.ensures.position in
    let absent : IsPlaceFor c.args.landmark c.args.landmarks.now c.in_default.field-0 = subst (λ (r : Result ℕ ℕ). MatchResult r (IsPlaceOf c.args.landmark c.args.landmarks.now) (IsPlaceFor c.args.landmark c.args.landmarks.now)) c.in_default.is found in
    true≢false (sym c.requires.member ∙ absent.found)
