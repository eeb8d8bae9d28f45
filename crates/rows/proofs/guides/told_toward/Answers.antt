use Rattle.std.proofs.Common.{◌≡◌, ◌∙◌, ◌-◌, ap, sym, arith}
use Rattle.rows.proofs.Potentials.{told_by_word}
use Rattle.rows.proofs.guides.told_toward.Goals as goal

pub returns : goal.returns
returns c =
    let less : c.max.result - c.get-word.result ≡ c.args.toward.now.to_target - c.get-word.result = omega (arith, c.max.ensures) in
    less ∙ ap (λ word. c.args.toward.now.to_target - word) (sym (c.get-word.ensures.word 0)) ∙ told_by_word c.args.toward.now.words c.args.toward.now.to_target c.args.node c.requires.node.0 c.requires.node.1 (omega arith)
