use Rattle.std.proofs.Common.{rules, ◌≡◌, ◌∙◌, ◌<◌, map, length, ℕ, List, ap, sym, arith, Global}
use Rattle.std.specs.Prelude.{Result, Ok}
use Rattle.std.specs.declared.collections.VecDeque.{VecDeque}
use Rattle.std.proofs.lemmas.List.{length-map}
use Rattle.desk.specs.declared.threads.last.Unbuilt.{Unbuilt}
use Rattle.rows.specs.declared.landmark_rows.Row.{Row}
use Rattle.desk.specs.Shares.{share_of, AreRowsOfLandmarks}
use Rattle.desk.proofs.Dealt.{dealt_by, each_made}
use Rattle.desk.proofs.threads.row_workers.landmark_rows.Goals as goal

pub gather-requires-clause-dealt : goal.gather-requires-clause-dealt
gather-requires-clause-dealt g c =
    let job = c.args.job.now in
    let parts = c.in_ok-all_made-in-Ok.field-0.items in
    let made = c.in-Ok.made.items in
    let all : made ≡ map Ok parts = c.in_ok-all_made-in-Ok.ensures in
    let count : length made ≡ job.workers = search rules in
    let long : length parts ≡ job.workers = sym (ap (λ (ms : List (Result (VecDeque Row Global) Unbuilt)). length ms) all ∙ length-map parts Ok) ∙ count in
    dealt_by job.version job.network.now job.workers (map (λ (queue : VecDeque Row Global). queue.items) parts)
    (length-map parts (λ (queue : VecDeque Row Global). queue.items) ∙ long)
    (λ (worker : ℕ) lt.
    each_made (λ (queue : VecDeque Row Global). queue.items)
    (λ (i : ℕ) rows. AreRowsOfLandmarks job.version job.network.now (share_of job.workers i job.network.now.landmarks) rows)
    made parts all
    (λ (i : ℕ) d less.
    let inside : i < job.workers = omega arith in
    let told = (c.in-Ok.ensures.each i d inside).1 in
    told.met)
    worker (omega arith))
