-- Which refusal the parts of a network get, from the tests one after another.
use Rattle.std.proofs.Common.{◌⊎◌, inl, inr, not, ◌&&◌, ◌||◌, true≢false, ◌≡◌, ◌∙◌, ℕ, ◌<◌, ◌≤◌, Bool, true, false, List, Some, None, length, get_or, refl, ap, sym, arith, ltb, le_refl, ⊎_elim}
use Rattle.std.specs.List.{All, list_any}
use Rattle.std.proofs.lemmas.Bool.Decides.{nat_tests}
use Rattle.std.proofs.lemmas.List.Folds.{list_any_at}
use Rattle.roadnet.specs.declared.arcs.RoadArc.{RoadArc}
use Rattle.roadnet.specs.declared.refusals.Refusal.{Refusal}
use Rattle.roadnet.specs.declared.refusals.Refusal.TheVariants.{NumberRange, TooLarge, LengthRange, NoSuchNode, TooManyLandmarks, OutOfMemory}
use Rattle.roadnet.specs.Members.{set_of}
use Rattle.roadnet.specs.Net.{IsNetwork}
use Rattle.std.proofs.lemmas.Bool.{cases_lt}
use Rattle.roadnet.specs.Made.{is_node_among, is_node_count, has_long_arc, has_stray_end, has_stray_landmark, flaw_of, MayRefuseParts}
use Rattle.roadnet.proofs.Members.{All-set_of, IsStrictlyIncreasing-set_of}

test_lt : (a b : ℕ) → a < b → ltb a b ≡ true
test_lt a b h = grind (arith, nat_tests)

test_ge : (a b : ℕ) → b ≤ a → ltb a b ≡ false
test_ge a b h = grind (arith, nat_tests)

-- a test that no element passes
none_passes : {X : Type 0} (p : X → Bool) (xs : List X) → list_any p xs ≡ false → All (λ x. p x ≡ false) xs
none_passes p xs none k d lt =
    elim (p (get_or xs k d)) as (λ b. p (get_or xs k d) ≡ b → b ≡ false) [
      | true ↦ λ e. absurd (true≢false (sym (list_any_at p xs k d lt e) ∙ none))
      | false ↦ λ e. refl
    ] refl

or_false : (a b : Bool) → (a || b) ≡ false → (a ≡ false) × (b ≡ false)
or_false true b e = absurd (true≢false e)
or_false false b e = (refl, e)

pub neither : (a b : Bool) → a ≡ false → b ≡ false → (a || b) ≡ false
neither a b no_a no_b = rw (no_a, no_b) refl

among : (nodes x : ℕ) → not (is_node_among nodes x) ≡ false → (1 ≤ x) × (x ≤ nodes)
among nodes x e = (grind (arith, nat_tests), grind (arith, nat_tests))

both_among : (nodes x y : ℕ) → not (is_node_among nodes x && is_node_among nodes y) ≡ false → ((1 ≤ x) × (x ≤ nodes)) × ((1 ≤ y) × (y ≤ nodes))
both_among nodes x y e =
    elim (is_node_among nodes x) as (λ b. is_node_among nodes x ≡ b → not (b && is_node_among nodes y) ≡ false → ((1 ≤ x) × (x ≤ nodes)) × ((1 ≤ y) × (y ≤ nodes))) [
      | true ↦ λ first second. (among nodes x (ap not first), among nodes y second)
      | false ↦ λ first second. absurd (true≢false second)
    ] refl e

not_long : (length : ℕ) → ltb 2147483647 length ≡ false → length ≤ 2147483647
not_long length e = grind (arith, nat_tests)

count_bounds : (nodes : ℕ) → is_node_count nodes ≡ true → (1 ≤ nodes) × (nodes ≤ 33554432)
count_bounds nodes e = (grind (arith, nat_tests), grind (arith, nat_tests))

module _ (nodes : ℕ) (arcs : List RoadArc) (landmarks : List ℕ) where
  pub flaw-count : is_node_count nodes ≡ false → flaw_of nodes arcs landmarks ≡ Some NumberRange
  flaw-count count = rw count refl

  pub flaw-arcs : is_node_count nodes ≡ true → 67108864 < length arcs → flaw_of nodes arcs landmarks ≡ Some TooLarge
  flaw-arcs count many = rw (count, test_lt 67108864 (length arcs) many) refl

  pub flaw-long : is_node_count nodes ≡ true → length arcs ≤ 67108864 → has_long_arc arcs ≡ true → flaw_of nodes arcs landmarks ≡ Some LengthRange
  flaw-long count few long = rw (count, test_ge 67108864 (length arcs) few, long) refl

  pub flaw-stray : is_node_count nodes ≡ true → length arcs ≤ 67108864 → has_long_arc arcs ≡ false → (has_stray_end nodes arcs || has_stray_landmark nodes landmarks) ≡ true → flaw_of nodes arcs landmarks ≡ Some NoSuchNode
  flaw-stray count few long stray = rw (count, test_ge 67108864 (length arcs) few, long, stray) refl

  pub flaw-landmarks : is_node_count nodes ≡ true → length arcs ≤ 67108864 → has_long_arc arcs ≡ false → (has_stray_end nodes arcs || has_stray_landmark nodes landmarks) ≡ false → 1000 < length (set_of landmarks) → flaw_of nodes arcs landmarks ≡ Some TooManyLandmarks
  flaw-landmarks count few long stray many = rw (count, test_ge 67108864 (length arcs) few, long, stray, test_lt 1000 (length (set_of landmarks)) many) refl

  pub flaw-none : is_node_count nodes ≡ true → length arcs ≤ 67108864 → has_long_arc arcs ≡ false → (has_stray_end nodes arcs || has_stray_landmark nodes landmarks) ≡ false → length (set_of landmarks) ≤ 1000 → flaw_of nodes arcs landmarks ≡ None
  flaw-none count few long stray fit = rw (count, test_ge 67108864 (length arcs) few, long, stray, test_ge 1000 (length (set_of landmarks)) fit) refl

  pub IsNetwork-made : is_node_count nodes ≡ true → length arcs ≤ 67108864 → has_long_arc arcs ≡ false → (has_stray_end nodes arcs || has_stray_landmark nodes landmarks) ≡ false → length (set_of landmarks) ≤ 1000 → IsNetwork (record { nodes = nodes; arcs = arcs; landmarks = set_of landmarks; room = length arcs })
  IsNetwork-made count few long stray fit =
      let bounds : (1 ≤ nodes) × (nodes ≤ 33554432) = count_bounds nodes count in
      let strays : (has_stray_end nodes arcs ≡ false) × (has_stray_landmark nodes landmarks ≡ false) = or_false _ _ stray in
      record {
        some_node = bounds.0;
        nodes_to = bounds.1;
        arcs_to = le_refl (length arcs);
        room_to = few;
        each_arc = λ k d lt.
            let ends : ((1 ≤ (get_or arcs k d).tail) × ((get_or arcs k d).tail ≤ nodes)) × ((1 ≤ (get_or arcs k d).head) × ((get_or arcs k d).head ≤ nodes)) =
            both_among nodes _ _ (none_passes (λ arc. not (is_node_among nodes arc.tail && is_node_among nodes arc.head)) arcs strays.0 k d lt) in
            record {
              tail_from = ends.0.0;
              tail_to = ends.0.1;
              head_from = ends.1.0;
              head_to = ends.1.1;
              length_to = not_long _ (none_passes (λ arc. ltb 2147483647 arc.length) arcs long k d lt);
            };
        each_landmark = All-set_of (λ x. (1 ≤ x) × (x ≤ nodes)) landmarks (λ k d lt. among nodes _ (none_passes (λ x. not (is_node_among nodes x)) landmarks strays.1 k d lt));
        ascending = IsStrictlyIncreasing-set_of landmarks;
        landmarks_to = fit;
      }

  -- the refusal of `collect`, where all tests before it passed
  pub flaw-collected : is_node_count nodes ≡ true → length arcs ≤ 67108864 → has_long_arc arcs ≡ false → (has_stray_end nodes arcs || has_stray_landmark nodes landmarks) ≡ false → (refusal : Refusal) → ((refusal ≡ TooManyLandmarks) × (1000 < length (set_of landmarks))) ⊎ ((refusal ≡ OutOfMemory) × (0 < length landmarks)) → MayRefuseParts nodes arcs landmarks refusal
  flaw-collected count few long stray refusal (inl many) = inl (rw many.0 (flaw-landmarks count few long stray many.1))
  flaw-collected count few long stray refusal (inr memory) =
      inr (
        memory.0,
        memory.1,
        ⊎_elim (λ (many : 1000 < length (set_of landmarks)). inr (flaw-landmarks count few long stray many)) (λ (fit : length (set_of landmarks) ≤ 1000). inl (flaw-none count few long stray fit))
            (cases_lt 1000 (length (set_of landmarks))),
      )
