-- Lines that are neither items nor problem lines.
use Rattle.std.proofs.Common.{◌≡◌, ℕ, Bool, true, false, ◌||◌, List, [], ◌∷◌, ◌++◌, ltb, length, Some, None, Ok, refl, ◌∙◌, arith}
use Rattle.std.proofs.lemmas.Bool.{eqb-true, lt-ltb}
use Rattle.std.proofs.lemmas.List.{append-nil}
use Rattle.dimacs.specs.declared.graphs.gr_lines.GrLines.{GrLines}
use Rattle.dimacs.specs.declared.fault.Code.TheVariants.{BadLine}
use Rattle.dimacs.specs.Format.{gr}
use Rattle.dimacs.specs.Faults.{Row, is_empty, is_comment, is_remark, is_problem, is_item, is_unknown, applies, code_of}
use Rattle.dimacs.specs.Content.{arc_of}
use Rattle.dimacs.specs.Progress.{HasTaken}
use Rattle.dimacs.specs.Taking.{Takes}
use Rattle.dimacs.proofs.Items.{filter_map_push, problem_kept, announced_kept, items_push}

or_right : (a b : Bool) → b ≡ true → (a || b) ≡ true
or_right true b e = refl
or_right false b e = e

record IsIgnored (earlier : List Row) (row : Row) : Type 0 where
  no_code : code_of gr earlier row ≡ None
  no_problem : is_problem row ≡ false
  no_item : is_item gr row ≡ false

comment : (earlier : List Row) (b : ℕ) (bs : List ℕ) (others : Row) → b ≡ 99 → IsIgnored earlier ((b ∷ bs) ∷ others)
unfolding code_of applies
comment earlier b bs others e =
    let some : ltb 0 (length (99 ∷ bs)) ≡ true = lt-ltb _ _ (omega arith) in
    rw e (record { no_code = rw some refl; no_problem = refl; no_item = refl })

ignored : (earlier : List Row) (row : Row) → (is_empty row || is_comment row) ≡ true → IsIgnored earlier row
unfolding code_of applies
ignored earlier [] e = record { no_code = refl; no_problem = refl; no_item = refl }
ignored earlier ([] ∷ others) e = absurd cc
ignored earlier ((b ∷ bs) ∷ others) e =
    let some : ltb 0 (length (b ∷ bs)) ≡ true = lt-ltb _ _ (omega arith) in
    comment earlier b bs others (eqb-true b 99 (rw some at e))

pub takes_ignored : (earlier : List Row) (row : Row) (r : GrLines) → HasTaken earlier r → (is_empty row || is_comment row) ≡ true → Takes (code_of gr) HasTaken earlier row r (Ok tt)
takes_ignored earlier row r taken e =
    let is = ignored earlier row e in (
      is.no_code,
      record {
        problem = rw (problem_kept earlier row is.no_problem) taken.problem;
        counts = rw (announced_kept earlier row is.no_problem) taken.counts;
        items = items_push earlier row ∙ rw (is.no_item, taken.items) (omega arith);
        arcs = filter_map_push arc_of earlier row ∙ rw (is.no_item, taken.arcs) (append-nil r.arcs.items);
      },
    )

pub comment_passes : (earlier : List Row) (row : Row) (r : GrLines) → is_remark 99 row ≡ true → HasTaken earlier r → (code_of gr earlier row ≡ None) × HasTaken (earlier ++ row ∷ []) r
comment_passes earlier row r e taken = takes_ignored earlier row r taken (or_right (is_empty row) (is_comment row) e)

pub unknown_fault : (earlier : List Row) (row : Row) → is_unknown gr row ≡ true → code_of gr earlier row ≡ Some BadLine
unfolding code_of applies
unknown_fault earlier row e = rw e refl
