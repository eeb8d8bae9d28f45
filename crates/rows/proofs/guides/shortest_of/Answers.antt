use Rattle.std.proofs.Common.{◌≡◌, ◌≤◌, ◌<◌, [], ◌∷◌, length, get_or, take, sym, subst, arith, rules}
use Rattle.std.specs.List.{All}
use Rattle.std.proofs.lemmas.List.{take_all, take_more}
use Rattle.std.proofs.lemmas.List.Elements.{All-append, All-cons, All-nil, All-weaker}
use Rattle.rows.specs.declared.guides.Toward.{Toward}
use Rattle.rows.proofs.guides.shortest_of.Goals as goal

pub loop-toward-preserved : goal.loop-toward-preserved
loop-toward-preserved c =
    let i = c.loop-toward.toward-index in
    let towards = c.args.towards.now in
    let toward : Toward = c.toward-item.result in
    let within : i < length towards = omega (arith, c.loop-toward-test.true) in
    let here : toward ≡ get_or towards i toward = c.toward-item.is in
    let before = All-weaker (λ (t : Toward). c.loop-toward.shortest ≤ length t.words) (λ (t : Toward). c.min-shortest.result ≤ length t.words) (λ t h. omega (arith, h, c.min-shortest.ensures)) (take i towards) c.loop-toward.invariant in
    let one : c.min-shortest.result ≤ length toward.words = omega (arith, c.min-shortest.ensures, c.len.ensures) in
    subst (All (λ (t : Toward). c.min-shortest.result ≤ length t.words)) (sym (take_more towards i toward within))
    (All-append (λ (t : Toward). c.min-shortest.result ≤ length t.words) (take i towards) (get_or towards i toward ∷ []) before
    (All-cons (λ (t : Toward). c.min-shortest.result ≤ length t.words) (get_or towards i toward) [] (subst (λ (t : Toward). c.min-shortest.result ≤ length t.words) here one) (All-nil (λ (t : Toward). c.min-shortest.result ≤ length t.words))))

pub returns : goal.returns
returns c =
    let all : take c.loop-toward.toward-index c.args.towards.now ≡ c.args.towards.now = take_all c.loop-toward.toward-index c.args.towards.now (omega (arith, c.loop-toward-test.false)) in
    subst (All (λ (t : Toward). c.loop-toward.shortest ≤ length t.words)) all c.loop-toward.invariant
