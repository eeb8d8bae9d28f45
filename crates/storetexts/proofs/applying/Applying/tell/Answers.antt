use Rattle.std.proofs.Common.{rules, ◌≡◌, ◌∙◌, ◌<◌, length, get_or, sym, ap, subst, true, arith}
use Rattle.std.specs.Io.KnownBytes.{Appends}
use Rattle.machine.specs.declared.events.Replied.{Replied}
use Rattle.printing.specs.Counting.{writer_of}
use Rattle.printing.specs.Replied.{printed_reply}
use Rattle.storetexts.specs.Outcomes.{reply_of, IsGroupSettled}
use Rattle.storetexts.proofs.Telling.{told_more, settled_more}
use Rattle.storetexts.proofs.applying.Applying.tell.Goals as goal

pub loop-index-preserved : goal.loop-index-preserved
loop-index-preserved g c =
    let os = c.args.self.now.outcomes.items in
    let i = c.loop-index.index in
    let durable = c.args.self.now.ledger.machine.durable in
    let lt : i < length os = omega (arith, c.loop-index-test.true, c.len-index-end.ensures) in
    let there : c.index.result.now ≡ get_or os i c.index.result.now = search rules in
    let here : get_or os i c.index.result.now ≡ c.index.result.now = sym there in
    let yes : c.is_settled.result ≡ true = search rules in
    let settled : IsGroupSettled durable c.index.result.now = rw c.loop-index.invariant.ledger at (c.is_settled.ensures.0 yes) in
    let replied : c.reply_of.result ≡ reply_of (get_or os i c.index.result.now) = c.reply_of.ensures ∙ ap reply_of (sym here) in
    record {
      ledger = c.loop-index.invariant.ledger;
      outcomes = c.loop-index.invariant.outcomes;
      told = search rules;
      settled = λ before. settled_more durable os i c.index.result.now lt (c.loop-index.invariant.settled before) (subst (IsGroupSettled durable) (sym here) settled);
      lines = λ before told. told_more os i c.index.result.now before _ _ lt (c.loop-index.invariant.lines before told)
          (subst (λ (r : Replied). Appends (g.W.Write.contents (writer_of c.loop-index.out)) (g.W.Write.contents (writer_of c.put_reply.new.out)) (printed_reply r)) replied c.in_ok-put_reply.ensures.written);
      counts = c.in_ok-put_reply.ensures.counts ∙ c.loop-index.invariant.counts;
      same = c.in_ok-put_reply.ensures.same ∙ c.loop-index.invariant.same;
    }
