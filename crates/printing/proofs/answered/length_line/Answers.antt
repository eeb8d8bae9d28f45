use Rattle.std.proofs.Common.{◌≡◌, ◌∙◌, List, ℕ, ◌∷◌, drop, decimal, ap, arith}
use Rattle.std.proofs.lemmas.List.{drop_all}
use lib.Chars.{codes}
use Rattle.printing.specs.Printed.{with_nodes}
use Rattle.printing.proofs.AnsweredLines.{parts_of_line}
use Rattle.printing.proofs.answered.length_line.Goals as goal

pub returns-clause-written : goal.returns-clause-written
returns-clause-written c =
    let last : drop c.put_byte-end.result c.put_byte-end.new.buf ≡ codes "\n" = c.put_byte-end.ensures.written ∙ ap (λ (l : List ℕ). 10 ∷ l) (drop_all 72 c.args.line.now (omega arith)) in
    parts_of_line _ (with_nodes (c.args.letter ∷ codes " ") c.args.query.now) (decimal c.args.length) _ _ c.put_nodes.ensures.written c.put_spaced-nodes_end.ensures.written last
