use Rattle.std.proofs.Common.{◌≡◌, ◌∷◌, ◌++◌, ap, sym, ◌∙◌, length, true, [], refl, List, arith}
use Rattle.history.specs.Chains.{chain, next_pen}
use Rattle.history.specs.Entries.{accepted, acknowledged_number, is_endless, network_opened_with, version_of}
use Rattle.history.specs.declared.entries.Base.{Base}
use Rattle.history.specs.declared.entries.Entry.{Entry}
use Rattle.history.specs.declared.entries.Entry.TheVariants.{Opened}
use Rattle.history.proofs.Chains.{chain_more, next_more}
use Rattle.history.proofs.histories.History.new.Goals as goal

pub invariant_of-result : goal.invariant_of-result
invariant_of-result c =
    let row = c.open_row-seen.ensures in
    let root = c.of-root.result in
    let old = c.open_row-seen.result.0.log in
    let base : Base = record { network = c.of.result; version = c.args.version } in
    let endless = ap (λ l. is_endless (chain root l)) row.1 in
    let same = ap (λ p. p.nib.key) c.of-own.ensures ∙ (sym c.of-root.ensures ∙ sym (ap (next_pen root) row.1)) in
    let log_is : chain root c.write.new.seen.log ≡ Opened base ∷ [] =
    chain_more root old c.write.new.seen.log _ c.write.ensures.written endless same ∙ ap (λ l. chain root l ++ Opened base ∷ []) row.1 in
    let follows = next_more root old c.write.new.seen.log _ c.write.ensures.written endless same in
    let taken = c.take.ensures.pen in
    let key = ap (λ n. n.key) taken.1 ∙ row.3 in
    let book = taken.0 ∙ (row.2 ∙ sym c.write.ensures.book) in (
      record { base = base; rest = []; log_is = log_is; endless = refl },
      sym (ap (λ (l : List Entry). length (accepted l)) log_is),
      sym (ap version_of log_is),
      c.tracked-head.ensures.0 ∙ (λ i. record { tracked = true; key = key i; book = book i }),
      c.new_pen-pen.ensures.book ∙ sym c.write.ensures.book,
      c.new_pen-pen.ensures.right,
      sym (follows ∙ ap (λ p. p.nib.key) c.of-following.ensures),
      omega arith,
    )

pub returns-clause-base : goal.returns-clause-base
returns-clause-base c =
    let row = c.open_row-seen.ensures in
    let root = c.of-root.result in
    let old = c.open_row-seen.result.0.log in
    let base : Base = record { network = c.of.result; version = c.args.version } in
    let endless = ap (λ l. is_endless (chain root l)) row.1 in
    let same = ap (λ p. p.nib.key) c.of-own.ensures ∙ (sym c.of-root.ensures ∙ sym (ap (next_pen root) row.1)) in
    let log_is : chain root c.write.new.seen.log ≡ Opened base ∷ [] =
    chain_more root old c.write.new.seen.log _ c.write.ensures.written endless same ∙ ap (λ l. chain root l ++ Opened base ∷ []) row.1 in
    (ap network_opened_with log_is ∙ c.of.ensures, ap version_of log_is)

pub returns-clause-empty : goal.returns-clause-empty
returns-clause-empty c =
    let row = c.open_row-seen.ensures in
    let root = c.of-root.result in
    let old = c.open_row-seen.result.0.log in
    let base : Base = record { network = c.of.result; version = c.args.version } in
    let endless = ap (λ l. is_endless (chain root l)) row.1 in
    let same = ap (λ p. p.nib.key) c.of-own.ensures ∙ (sym c.of-root.ensures ∙ sym (ap (next_pen root) row.1)) in
    let log_is : chain root c.write.new.seen.log ≡ Opened base ∷ [] =
    chain_more root old c.write.new.seen.log _ c.write.ensures.written endless same ∙ ap (λ l. chain root l ++ Opened base ∷ []) row.1 in
    (ap accepted log_is, ap acknowledged_number log_is)
