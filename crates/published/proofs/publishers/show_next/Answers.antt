use Rattle.std.proofs.Common.{◌∙◌, [], ◌∷◌, drop, ap}
use Rattle.std.proofs.lemmas.List.Sums.{fold-append}
use Rattle.published.specs.Rules.{last_of}
use Rattle.published.proofs.publishers.show_next.Goals as goal
use Rattle.published.proofs.publishers.show_next.Goals.{in-Ok+in_default-Ok, in-Ok+in_default-Err, in-Err}

pub returns-clause-values : goal.returns-clause-values
returns-clause-values g c =
    let older = c.args.writer in
    let writer = c.append.new.self in
    elim c.match-append.branch [
      | in-Ok+in_default-Ok w ↦
          let shown = w.show.ensures.values in
          rw w.result-is (w.show_again.ensures.same
          ∙ ((rw w.in_default-Ok.is-1 at shown)
          ∙ (ap (last_of writer.desk.shown.value) w.in-Ok.ensures.pending
          ∙ fold-append (λ before next. next) writer.desk.shown.value (drop older.behind older.log.items) (c.args.next ∷ []))))
      | in-Ok+in_default-Err w ↦
          let shown = w.show.ensures.values in
          rw w.result-is ((rw w.in_default-Err.is-1 at shown) ∙ ap (λ desk. desk.shown.value) w.in-Ok.ensures.desk)
      | in-Err w ↦ rw w.result-is (ap (λ desk. desk.shown.value) w.in-Err.ensures.desk)
    ]
