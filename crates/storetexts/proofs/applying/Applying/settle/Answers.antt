use Rattle.std.proofs.Common.{rules, ◌≡◌, ◌∙◌, List, length, Ok, Err, sym, ap, subst}
use Rattle.std.specs.Prelude.{MatchResult, OnOk}
use Rattle.std.proofs.lemmas.Result.{err_from_is_err_and, on_ok_weaker}
use Rattle.dimacs.specs.Counts.{one_more_failed}
use Rattle.printing.specs.declared.failed.Failed.TheVariants.{Code}
use Rattle.machine.specs.Machine.{pending}
use Rattle.storetexts.specs.declared.outcomes.Outcome.{Outcome}
use Rattle.storetexts.specs.Applying.{GroupsTaken, OutcomesTold, progress}
use Rattle.storetexts.proofs.Advancing.{advances_unwritten, advances_saved}
use Rattle.storetexts.proofs.Remaining.{settle_all}
use Rattle.storetexts.proofs.applying.Applying.settle.Goals as goal

pub returns-clause-all : goal.returns-clause-all
returns-clause-all g c =
    let items : c.flush_below-flushed.new.self.outcomes.items ≡ c.args.self.now.outcomes.items = search rules in
    let same : c.tell.new.self.outcomes.items ≡ c.flush_below-flushed.new.self.outcomes.items = search rules in
    let all : OnOk c.flush_below-flushed.result (pending c.tell.new.self.ledger.machine ≡ 0 → OutcomesTold (progress c.args.self.now) (progress c.tell.new.self)) =
    on_ok_weaker c.flush_below-flushed.result
    (λ below none net version groups have.
    let came = subst (λ (l : List Outcome). GroupsTaken net version groups l c.args.self.now.told c.args.self.now.ledger.machine) (sym items) have in
    settle_all net version c.args.self.now.told c.tell.new.self.told groups c.flush_below-flushed.new.self.outcomes.items c.args.self.now.ledger.machine c.flush_below-flushed.new.self.ledger.machine
    c.flush_below-flushed.ensures.saves.kept c.flush_below-flushed.ensures.saves.goes.steady (rw c.tell.ensures.ledger at none) c.tell.ensures.told_to c.in_ok-tell.ensures.next came
    ∙ ap length (sym same))
    c.flush_below-flushed.ensures.done in
    search (rules, all)

pub returns-in_err-tell-clause-advances : goal.returns-in_err-tell-clause-advances
returns-in_err-tell-clause-advances g c =
    let p = err_from_is_err_and c.from_residual.result c.from_residual.ensures.1 in
    rw (p.1, p.2)
    (advances_unwritten g.D.Disk c.args.self.now c.flush_below-flushed.new.self c.tell.new.self _ _ c.flush_below-flushed.result _ c.flush_below-flushed.ensures.saves c.tell.ensures.ledger c.tell.ensures.outcomes c.requires.few c.tell.ensures.told_to
    c.in_err-tell.ensures.puts.refused c.in_err-tell.ensures.puts.counts c.tell.ensures.puts.same)

pub returns-in_err-flush-clause-advances : goal.returns-in_err-flush-clause-advances
returns-in_err-flush-clause-advances g c =
    let p = err_from_is_err_and c.from_residual-in_err-flush.result c.from_residual-in_err-flush.ensures.1 in
    rw (p.1, p.2)
    (advances_unwritten g.D.Disk c.args.self.now c.flush_below-flushed.new.self c.tell.new.self _ _ c.flush_below-flushed.result _ c.flush_below-flushed.ensures.saves c.tell.ensures.ledger c.tell.ensures.outcomes c.requires.few c.tell.ensures.told_to
    c.in_err-flush.ensures.fails.refused (c.in_err-flush.ensures.fails.counts ∙ ap one_more_failed c.in_ok-tell.ensures.puts.counts) (c.flush.ensures.fails.same ∙ c.tell.ensures.puts.same))

pub returns-clause-advances : goal.returns-clause-advances
returns-clause-advances g c =
    let is : MatchResult c.flush_below-flushed.result (λ x. c.map_err.result ≡ Ok x) (λ refusal. c.map_err.result ≡ Err (Code refusal)) = search rules in
    advances_saved g.D.Disk c.args.self.now c.flush_below-flushed.new.self c.tell.new.self _ _ c.flush_below-flushed.result c.map_err.result c.flush_below-flushed.ensures.saves c.tell.ensures.ledger c.tell.ensures.outcomes c.requires.few c.tell.ensures.told_to
    c.in_ok-tell.ensures.next c.flush_below-flushed.ensures.refused (c.in_ok-flush.ensures.fails.counts ∙ c.in_ok-tell.ensures.puts.counts) (c.flush.ensures.fails.same ∙ c.tell.ensures.puts.same) is
