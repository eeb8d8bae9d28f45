use Rattle.std.proofs.Common.{◌≡◌, ◌∙◌, ℕ, List, get_or, length, ap, arith, refl, rules}
use Rattle.std.proofs.lemmas.List.{length_push}
use Rattle.frontier.proofs.Flags.{default_more}
use Rattle.frontier.proofs.paged.grow.Goals as goal

pub loop-words-init : goal.loop-words-init
loop-words-init c k = refl

pub loop-words-smaller : goal.loop-words-smaller
loop-words-smaller c = omega (arith, c.loop-words-test.true, c.len.ensures, ap length c.in_ok-push.ensures.items, length_push c.loop-words.words.items 0)

pub loop-words-preserved : goal.loop-words-preserved
loop-words-preserved c k = ap (λ (ws : List ℕ). get_or ws k 0) c.in_ok-push.ensures.items ∙ (default_more c.loop-words.words.items 0 k ∙ c.loop-words.invariant k)

pub returns-in_err-push-clause-words : goal.returns-in_err-push-clause-words
returns-in_err-push-clause-words c k =
    let same : c.push.new.self.items ≡ c.loop-words.words.items = search rules in
    ap (λ (ws : List ℕ). get_or ws k 0) same ∙ c.loop-words.invariant k

pub returns-clause-words : goal.returns-clause-words
returns-clause-words c = c.loop-words.invariant
