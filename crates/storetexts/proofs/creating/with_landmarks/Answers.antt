use Rattle.std.proofs.Common.{rules, ◌≡◌, get_or}
use Rattle.std.proofs.lemmas.Result.{err_from_is_err_and}
use Rattle.storetexts.proofs.Markable.{only_memory}
use Rattle.storetexts.proofs.Marked.{marked_first, marked_more, marked_all}
use Rattle.storetexts.proofs.creating.with_landmarks.Goals as goal

pub loop-node-init : goal.loop-node-init
loop-node-init c = marked_first c.args.network c.requires.bare

pub loop-node-preserved : goal.loop-node-preserved
loop-node-preserved c =
    let is : c.from.result ≡ get_or c.args.landmarks.now c.loop-node.node-index 0 = search rules in
    marked_more c.args.network c.loop-node.marked c.apply.new.self c.args.landmarks.now c.loop-node.node-index _ c.loop-node-test.true is c.loop-node.invariant c.in_ok-apply.ensures.ok

pub returns-clause-marked : goal.returns-clause-marked
returns-clause-marked c = marked_all c.args.network c.loop-node.marked c.args.landmarks.now c.loop-node.node-index c.requires.ascending c.loop-node-test.false c.loop-node.invariant

pub returns-in_err-apply-clause-refused : goal.returns-in_err-apply-clause-refused
returns-in_err-apply-clause-refused c =
    let p = err_from_is_err_and c.from_residual.result c.from_residual.ensures.1 in
    let is : c.from.result ≡ get_or c.args.landmarks.now c.loop-node.node-index 0 = search rules in
    rw (p.1, p.2)
    (only_memory c.args.network c.loop-node.marked c.args.landmarks.now c.loop-node.node-index _ _ c.requires.ascending c.requires.nodes c.if-landmarks-gt-MOST_LANDMARKS.false c.loop-node-test.true is
    c.loop-node.invariant c.in_err-apply.ensures.refused)
