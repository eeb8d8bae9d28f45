use Rattle.querytexts.specs.Batch.{IsOfBatch}
use Rattle.querytexts.proofs.Unanswered.{kind_of}
use Rattle.querytexts.proofs.batch.batch_text.Goals as goal

pub returns-clause-codes : goal.returns-clause-codes
returns-clause-codes g c = kind_of IsOfBatch c.answer_pairs.result (λ refusal h. h) c.answer_pairs.ensures.answers.refused
