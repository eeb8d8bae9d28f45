use Rattle.std.proofs.Common.{◌≡◌, ◌∙◌, ◌/◌, ℕ, List, length, Some, slice_get, option_map, ap, sym, refl}
use Rattle.std.specs.Borrow.{Bor}
use Rattle.std.proofs.lemmas.Option.{slice_get_read}
use Rattle.words.specs.declared.pipes.PipePair.{PipePair}
use Rattle.words.proofs.PipeNames.{name_past, name_at_even, name_at_odd}
use Rattle.words.proofs.pipes.pipe_at.Goals.{then-number-place, else-number-place}
use Rattle.words.proofs.pipes.pipe_at.Goals as goal

pub returns-in_err-pair : goal.returns-in_err-pair
returns-in_err-pair c =
    ap (option_map (λ (n : Bor (List ℕ)). n.now)) c.from_residual.ensures ∙ sym (name_past c.args.pairs.now c.args.number c.in_err-pair.ensures.lookup.3)

pub returns : goal.returns
returns c =
    let pairs = c.args.pairs.now in
    let place = c.args.number / 2 in
    let found = c.in_ok-pair.ensures.lookup in
    let here : slice_get pairs place ≡ Some c.in_ok-pair.pair.now = slice_get_read pairs (length pairs) place c.in_ok-pair.pair.now refl found.3.0 found.1 in
    elim c.if-number-place.branch [
      | then-number-place w ↦
          ap (λ (n : Bor (List ℕ)). Some n.now) w.result-is
          ∙ sym (name_at_even pairs c.args.number w.if-number-place.true ∙ ap (option_map (λ (p : PipePair). p.input.now)) here)
      | else-number-place w ↦
          ap (λ (n : Bor (List ℕ)). Some n.now) w.result-is
          ∙ sym (name_at_odd pairs c.args.number w.if-number-place.false ∙ ap (option_map (λ (p : PipePair). p.output.now)) here)
    ]
