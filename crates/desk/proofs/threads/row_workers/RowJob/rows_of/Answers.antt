use Rattle.std.proofs.Common.{rules, ◌≡◌, ◌∙◌, map, drop, get_or, ℕ, ◌+◌, ◌-◌, List, [], ◌∷◌, ◌++◌, ap, sym, subst, arith}
use Rattle.std.specs.Prelude.{All}
use Rattle.std.proofs.Math.Seq.{append_snoc}
use Rattle.std.proofs.lemmas.List.{map-append}
use Rattle.std.proofs.lemmas.List.Elements.{All-push}
use Rattle.rows.specs.declared.landmark_rows.Row.{Row}
use Rattle.rows.specs.Views.{IsRowAt}
use Rattle.desk.specs.Shares.{share_of}
use Rattle.desk.proofs.Dealt.{share_passed, share_taken}
use Rattle.desk.proofs.threads.row_workers.RowJob.rows_of.Goals as goal

pub loop-landmark-preserved-then-passed-gt0 : goal.loop-landmark-preserved-then-passed-gt0
loop-landmark-preserved-then-passed-gt0 g c =
    let before = c.loop-landmark.invariant in
    let few = before.passed in
    record {
      shared = ap (λ (ls : List ℕ). map (λ (row : Row). row.landmark) c.loop-landmark.rows.items ++ ls)
          (sym (share_passed c.args.self.now.workers c.loop-landmark.passed c.loop-landmark.landmark-index c.landmarks-landmark-items.result.now c.loop-landmark-test.true c.if-passed-gt0.true))
          ∙ before.shared;
      each = before.each;
      passed = omega arith;
    }

pub loop-landmark-preserved : goal.loop-landmark-preserved
loop-landmark-preserved g c =
    let before = c.loop-landmark.invariant in
    let job = c.args.self.now in
    let few = before.passed in
    let stopped = c.if-passed-gt0.false in
    let none : c.loop-landmark.passed ≡ 0 = omega arith in
    let landmarks = c.landmarks-landmark-items.result.now in
    let old = c.loop-landmark.rows.items in
    let row = c.in_ok-row.row in
    let i = c.loop-landmark.landmark-index in
    let behind : List ℕ = share_of job.workers (job.workers - 1) (drop (i + 1) landmarks) in
    let pushed : c.push_back.new.self.items ≡ old ++ row ∷ [] = search rules in
    let here : row.landmark ≡ get_or landmarks i 0 = search rules in
    let made : IsRowAt job.version job.network.now row = c.in_ok-row.ensures.right in
    record {
      shared = ap (λ (rows : List Row). map (λ (r : Row). r.landmark) rows ++ behind) pushed
          ∙ ap (λ (ls : List ℕ). ls ++ behind) (map-append (λ (r : Row). r.landmark) old (row ∷ []))
          ∙ append_snoc (map (λ (r : Row). r.landmark) old) row.landmark behind
          ∙ ap (λ (l : ℕ). map (λ (r : Row). r.landmark) old ++ l ∷ behind) here
          ∙ ap (λ (ls : List ℕ). map (λ (r : Row). r.landmark) old ++ ls) (sym (share_taken job.workers c.loop-landmark.passed i landmarks c.loop-landmark-test.true none))
          ∙ before.shared;
      each = subst (All (IsRowAt job.version job.network.now)) (sym pushed) (All-push (IsRowAt job.version job.network.now) old row before.each made);
      passed = omega arith;
    }
