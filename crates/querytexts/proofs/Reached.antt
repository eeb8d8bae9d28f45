-- The nodes that a search tells, and the lines of them.
use Rattle.std.proofs.Common.{◌≡◌, ◌∙◌, ℕ, ◌+◌, ◌-◌, ◌*◌, ◌<◌, ◌≤◌, Bool, true, false, List, [], ◌∷◌, ◌++◌, Option, None, Some, length, get_or, take, ap, refl, sym, subst, append-nil, arith}
use Rattle.std.proofs.KnownBytes.{Appends-trans}
use Rattle.std.proofs.lemmas.Bool.{true≢false}
use Rattle.std.proofs.lemmas.Grind.{flat_map-append}
use Rattle.std.proofs.lemmas.List.{take_more}
use Rattle.std.specs.Io.KnownBytes.{Appends}
use Rattle.std.specs.Prelude.{unwrap_or, if◌then◌else◌}
use Rattle.roadnet.specs.Net.{Net, IsNetwork}
use Rattle.roadnet.specs.Numbers.{number_of}
use Rattle.roadnet.specs.declared.refusals.Refusal.TheVariants.{NoSuchNode}
use Rattle.roadnet.specs.Step.{is_node}
use Rattle.printing.specs.Printed.{version_line, refusal_line}
use Rattle.roadnet.specs.Reversal.{reversed}
use Rattle.roadnet.proofs.Apart.{least_is_bounded}
use Rattle.snapshot.specs.Groups.{Groups, IsSnapshotOf}
use Rattle.deltastep.specs.declared.rows.known.NodeDistance.{NodeDistance}
use Rattle.deltastep.specs.Reach.{AreNodesWithin, IsReach as IsReachOf, IsReachTo}
use Rattle.querytexts.specs.declared.reaches.Reach.{Reach}
use Rattle.querytexts.specs.declared.reaches.Reach.TheVariants.{From, To}
use Rattle.querytexts.specs.Reach.{AreGroupsFor, AnswersReach, IsLength, IsReachOfText, IsWithinLimit, center_of, reach_line, lines_of_reach}

-- the greatest number that stands for no limit
abbrev pub most : ℕ
most = 18446744073709551615

bound_below : (nodes d : ℕ) → nodes ≤ 33554432 → d ≤ (nodes - 1) * 2147483647 → d ≤ most
bound_below nodes d few le = omega (arith, few, le)

-- each least length is below it
length_below : (net : Net) (reach : Reach) (node d : ℕ) → IsNetwork net → IsLength net reach node d → d ≤ most
length_below net (From source) node d ok least = bound_below net.nodes d (omega (arith, ok.nodes_to)) (least_is_bounded net source node d ok least)
length_below net (To target) node d ok least = bound_below net.nodes d (omega (arith, ok.nodes_to)) (least_is_bounded net node target d ok least)

within_if : (limit : Option ℕ) (d : ℕ) → d ≤ unwrap_or limit most → IsWithinLimit limit d
within_if limit d le = λ l is. let same : unwrap_or limit most ≡ l = ap (λ o. unwrap_or o most) is in omega (arith, same, le)

within_only : (limit : Option ℕ) (d : ℕ) → d ≤ most → IsWithinLimit limit d → d ≤ unwrap_or limit most
within_only None d below within = below
within_only (Some l) d below within = within l refl

-- what is told within the limit, or within the greatest number where there is none
pub reach_within : (net : Net) (reach : Reach) (limit : Option ℕ) (told : List NodeDistance) → IsNetwork net → AreNodesWithin net (IsLength net reach) (unwrap_or limit most) told → IsReachOfText net reach limit told
reach_within net reach limit told ok are = record {
  ascending = are.ascending;
  right = λ node d has. let r = are.right node d has in (r.0, r.1, within_if limit d r.2);
  each = λ node d is least within. are.each node d is least (within_only limit d (length_below net reach node d ok least) within);
}

-- what a search from the source, or to the target, tells
pub found_from : (net : Net) (source : ℕ) (limit : Option ℕ) (groups : Groups) (told : List NodeDistance) → IsNetwork net → AreGroupsFor net (From source) groups
    → ((n : Net) → IsSnapshotOf n groups → IsReachOf n source (unwrap_or limit most) told) → IsReachOfText net (From source) limit told
found_from net source limit groups told ok of has = reach_within net (From source) limit told ok (has net of)

pub found_to : (net : Net) (target : ℕ) (limit : Option ℕ) (groups : Groups) (told : List NodeDistance) → IsNetwork net → AreGroupsFor net (To target) groups
    → ((n : Net) → IsNetwork n → IsSnapshotOf (reversed n) groups → IsReachTo n target (unwrap_or limit most) told) → IsReachOfText net (To target) limit told
found_to net target limit groups told ok of has = reach_within net (To target) limit told ok (has net ok of)

lines_more : (reach : Reach) (told : List NodeDistance) (i : ℕ) (d : NodeDistance) → i < length told → lines_of_reach reach (take (i + 1) told) ≡ lines_of_reach reach (take i told) ++ reach_line reach (get_or told i d)
lines_more reach told i d lt =
    ap (lines_of_reach reach) (take_more told i d lt) ∙ flat_map-append (reach_line reach) (take i told) (get_or told i d ∷ [])
    ∙ ap (λ (l : List ℕ). lines_of_reach reach (take i told) ++ l) (append-nil (reach_line reach (get_or told i d)))

-- one line more is written
pub line_written : (reach : Reach) (told : List NodeDistance) (i : ℕ) (d : NodeDistance) (old mid new : Option (List ℕ)) → i < length told
    → Appends old mid (lines_of_reach reach (take i told)) → Appends mid new (reach_line reach (get_or told i d)) → Appends old new (lines_of_reach reach (take (i + 1) told))
line_written reach told i d old mid new lt before here = subst (Appends old new) (sym (lines_more reach told i d lt)) (Appends-trans old mid new _ _ before here)

module _ (net : Net) (reach : Reach) (limit : Option ℕ) (old new : Option (List ℕ)) where
  -- what is written of a node that is none
  pub unreached : is_node net (center_of reach) ≡ false → Appends old new (version_line 0 ++ refusal_line (number_of NoSuchNode)) → AnswersReach net reach limit old new
  unreached other written = record {
    told = [];
    right = λ is. absurd (true≢false (sym is ∙ other));
    written = subst (λ (b : Bool). Appends old new (version_line 0 ++ (if b then lines_of_reach reach [] else refusal_line (number_of NoSuchNode)))) (sym other) written;
  }

  -- and of one that is one
  pub told_reached : (told : List NodeDistance) → is_node net (center_of reach) ≡ true → IsReachOfText net reach limit told → Appends old new (version_line 0 ++ lines_of_reach reach told) → AnswersReach net reach limit old new
  told_reached told is are written = record {
    told = told;
    right = λ same. are;
    written = subst (λ (b : Bool). Appends old new (version_line 0 ++ (if b then lines_of_reach reach told else refusal_line (number_of NoSuchNode)))) (sym is) written;
  }
