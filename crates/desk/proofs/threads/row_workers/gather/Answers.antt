use Rattle.std.proofs.Common.{rules, ◌≡◌, ◌∙◌, map, drop, take, get_or, ℕ, ◌+◌, ◌-◌, List, [], ◌∷◌, ◌++◌, length, slice_index, ap, sym, subst, Global}
use Rattle.std.specs.Prelude.{All}
use Rattle.std.specs.declared.collections.VecDeque.{VecDeque}
use Rattle.std.proofs.lemmas.List.Elements.{All-push}
use Rattle.rows.specs.declared.landmark_rows.Row.{Row}
use Rattle.rows.specs.Views.{IsRowAt}
use Rattle.rows.proofs.LandmarkRows.{landmarks_more}
use Rattle.desk.specs.Shares.{AreSharesDealt}
use Rattle.desk.proofs.Dealt.{all_left, one_left_out, first_left}
use Rattle.desk.proofs.threads.row_workers.gather.Goals as goal

pub loop-place-preserved : goal.loop-place-preserved
loop-place-preserved g c =
    let before = c.loop-place.invariant in
    let job = c.args.job.now in
    let landmarks = c.landmarks-landmarks.result.now in
    let i = c.loop-place.place in
    let old = c.loop-place.rows.items in
    let row = c.next_row.result in
    let left : take (length landmarks - i) (drop i landmarks) ≡ drop i landmarks = all_left i landmarks in
    let pushed : c.push_reserved.new.self.items ≡ old ++ row ∷ [] = search rules in
    let here : row.landmark ≡ get_or landmarks i 0 = c.next_row.ensures.landmark ∙ ap (λ (ls : List ℕ). slice_index ls 0) left ∙ first_left i landmarks c.loop-place-test.true in
    let behind : drop 1 (take (length landmarks - i) (drop i landmarks)) ≡ drop (i + 1) landmarks = ap (drop 1) left ∙ one_left_out i landmarks c.loop-place-test.true in
    record {
      landmarks = ap (map (λ (r : Row). r.landmark)) pushed ∙ landmarks_more landmarks i 0 old row c.loop-place-test.true before.landmarks here;
      count = search rules;
      room = search rules;
      each = subst (All (IsRowAt job.version job.network.now)) (sym pushed) (All-push (IsRowAt job.version job.network.now) old row before.each c.next_row.ensures.right);
      dealt = subst (λ (ls : List ℕ). AreSharesDealt job.version job.network.now job.workers ls (map (λ (queue : VecDeque Row Global). queue.items) c.next_row.new.parts.items)) behind c.next_row.ensures.dealt;
    }
