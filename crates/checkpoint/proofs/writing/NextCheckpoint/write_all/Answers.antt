use Rattle.std.proofs.Common.{inl, inr, ⊎_elim, ℕ, List, subst}
use Rattle.std.proofs.lemmas.Result.{on_ok_weaker, err_from_is_err_and}
use Rattle.disk.specs.Calling.{WritesDisk}
use Rattle.pagereader.proofs.Calls.{unsynced_weaker, unsynced_fails, unsynced_then_writes}
use Rattle.checkpoint.specs.Writing.{Draft, draft_head_of, IsSlotShut, IsSlotWhole, IsDraftShutOrWhole}
use Rattle.checkpoint.proofs.SlotPages.{then_shut, then_whole}
use Rattle.checkpoint.proofs.writing.NextCheckpoint.write_all.Goals as goal

pub returns-clause-content : goal.returns-clause-content
returns-clause-content g c h =
    let old = g.D.Disk.content c.args.disk.now in
    let mid = g.D.Disk.content c.write_parts.new.disk in
    let header = c.args.header.now in
    let net = c.args.network.now in
    let d = c.args.self.now in
    on_ok_weaker c.finish.result
    (λ whole.
    then_whole header c.args.self.now.slot (draft_head_of c.args.self.now net) net old mid (g.D.Disk.content c.finish.new.disk) (c.in_ok-write_parts.ensures.content h)
    (subst (λ (x : Draft). IsSlotWhole header x.slot (draft_head_of x net) net mid (g.D.Disk.content c.finish.new.disk)) c.in_ok-write_parts.ensures.written whole))
    (c.finish.ensures.content (c.write_parts.ensures.writes.honest.1 h))

pub returns-in_err-write_parts-clause-writes : goal.returns-in_err-write_parts-clause-writes
returns-in_err-write_parts-clause-writes g c =
    let p = err_from_is_err_and c.from_residual.result c.from_residual.ensures.1 in
    let P : List ℕ → Type 0 = IsDraftShutOrWhole c.args.header.now c.args.self.now c.args.network.now (g.D.Disk.content c.args.disk.now) in
    unsynced_fails g.D.Disk P _ p.0 c.from_residual.result c.args.disk.now c.write_parts.new.disk p.1
    (unsynced_weaker g.D.Disk (IsSlotShut c.args.header.now c.args.self.now.slot (g.D.Disk.content c.args.disk.now)) P _ c.args.disk.now c.write_parts.new.disk c.in_err-write_parts.ensures.writes (λ x shut. inl shut))

pub returns-clause-writes : goal.returns-clause-writes
returns-clause-writes g c =
    let old = g.D.Disk.content c.args.disk.now in
    let mid = g.D.Disk.content c.write_parts.new.disk in
    let header = c.args.header.now in
    let net = c.args.network.now in
    let d : Draft = c.args.self.now in
    let P : List ℕ → Type 0 = IsDraftShutOrWhole header d net old in
    unsynced_then_writes g.D.Disk P (IsDraftShutOrWhole header d net mid) _ c.finish.result c.args.disk.now c.write_parts.new.disk c.finish.new.disk
    (unsynced_weaker g.D.Disk (IsSlotShut header d.slot old) P _ c.args.disk.now c.write_parts.new.disk c.in_ok-write_parts.ensures.writes (λ x shut. inl shut))
    (subst (λ (x : Draft). WritesDisk g.D.Disk (IsDraftShutOrWhole header x net mid) c.finish.result c.write_parts.new.disk c.finish.new.disk) c.in_ok-write_parts.ensures.written c.finish.ensures.writes)
    (λ h x way. ⊎_elim
    (λ still. inl (then_shut header d.slot old mid x (c.in_ok-write_parts.ensures.content h) still))
    (λ whole. inr (then_whole header d.slot (draft_head_of d net) net old mid x (c.in_ok-write_parts.ensures.content h) whole)) way)
