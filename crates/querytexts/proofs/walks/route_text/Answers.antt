use Rattle.querytexts.specs.Once.{IsOfOnce}
use Rattle.querytexts.proofs.Unanswered.{kind_of}
use Rattle.querytexts.proofs.walks.route_text.Goals as goal

pub returns-clause-codes : goal.returns-clause-codes
returns-clause-codes g c = kind_of IsOfOnce c.answer_one.result (λ refusal h. h) c.answer_one.ensures.answers.refused
