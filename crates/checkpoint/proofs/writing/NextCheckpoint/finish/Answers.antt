use Rattle.std.proofs.Common.{◌≡◌, inl, ℕ, List, [], ◌∷◌, length, sym, ◌∙◌, ap, subst, arith}
use Rattle.std.proofs.lemmas.Result.{on_ok_weaker, err_from_is_err_and}
use Rattle.disk.specs.Calling.{WritesDisk}
use Rattle.disk.specs.Contents.{overwritten}
use Rattle.disk.specs.Gated.{IsShutOrOpened}
use Rattle.pagereader.proofs.Calls.{unsynced_weaker, unsynced_then_reads, unsynced_fails, unsynced_then_writes}
use Rattle.pages.specs.declared.content.Slot.{Slot}
use Rattle.pages.specs.Spelling.{body, head_page}
use Rattle.pages.specs.Layout.{slot_pages}
use Rattle.storefile.specs.StoreFile.{page}
use Rattle.checkpoint.specs.Writing.{Draft, draft_head_of, slot_gate, HoldsPages, IsSlotShut, IsSlotWhole, IsDraftShutOrWhole}
use Rattle.checkpoint.proofs.SlotPages.{head_body_length, same_head_page, now_whole, while_opening}
use Rattle.checkpoint.proofs.writing.NextCheckpoint.finish.Goals as goal

pub returns-in_err-write_head-clause-writes : goal.returns-in_err-write_head-clause-writes
returns-in_err-write_head-clause-writes g c =
    let p = err_from_is_err_and c.from_residual.result c.from_residual.ensures.1 in
    let old = g.D.Disk.content c.args.disk.now in
    let d : Draft = record { slot = c.self.inside.slot; epoch = c.self.inside.epoch; version = c.self.inside.version; next_sequence = c.self.inside.next_sequence; written = c.self.inside.written } in
    let header = c.args.header.now in
    let net = c.args.network.now in
    let P : List ℕ → Type 0 = IsDraftShutOrWhole header d net old in
    subst (λ (x : Draft). WritesDisk g.D.Disk (IsDraftShutOrWhole header x net old) c.from_residual.result c.args.disk.now c.write_head.new.disk) c.self.view_is
    (unsynced_fails g.D.Disk P _ p.0 c.from_residual.result c.args.disk.now c.write_head.new.disk p.1
    (unsynced_weaker g.D.Disk (IsSlotShut header c.self.inside.slot old) P _ c.args.disk.now c.write_head.new.disk
    c.in_err-write_head.ensures.writes (λ x shut. inl shut)))

pub returns-in_err-settle-clause-writes : goal.returns-in_err-settle-clause-writes
returns-in_err-settle-clause-writes g c =
    let p = err_from_is_err_and c.from_residual-in_err-settle.result c.from_residual-in_err-settle.ensures.1 in
    let old = g.D.Disk.content c.args.disk.now in
    let d : Draft = record { slot = c.self.inside.slot; epoch = c.self.inside.epoch; version = c.self.inside.version; next_sequence = c.self.inside.next_sequence; written = c.self.inside.written } in
    let header = c.args.header.now in
    let net = c.args.network.now in
    let P : List ℕ → Type 0 = IsDraftShutOrWhole header d net old in
    subst (λ (x : Draft). WritesDisk g.D.Disk (IsDraftShutOrWhole header x net old) c.from_residual-in_err-settle.result c.args.disk.now c.settle.new.disk) c.self.view_is
    (unsynced_fails g.D.Disk P _ p.0 c.from_residual-in_err-settle.result c.args.disk.now c.settle.new.disk p.1
    (unsynced_weaker g.D.Disk (IsSlotShut header c.self.inside.slot old) P _ c.args.disk.now c.settle.new.disk
    (unsynced_then_reads g.D.Disk (IsSlotShut header c.self.inside.slot old) _ _ c.args.disk.now c.write_head.new.disk c.settle.new.disk c.in_ok-write_head.ensures.writes c.in_err-settle.ensures.reads) (λ x shut. inl shut)))

pub returns-clause-content : goal.returns-clause-content
returns-clause-content g c h =
    let old = g.D.Disk.content c.args.disk.now in
    let mid = g.D.Disk.content c.settle.new.disk in
    let header = c.args.header.now in
    let net = c.args.network.now in
    let d : Draft = record { slot = c.self.inside.slot; epoch = c.self.inside.epoch; version = c.self.inside.version; next_sequence = c.self.inside.next_sequence; written = c.self.inside.written } in
    let then_honest = c.write_head.ensures.writes.honest.1 h in
    let later_honest = c.settle.ensures.reads.honest.1 then_honest in
    let page_is : c.encode_slot_head-page.result ≡ head_page header.format (draft_head_of d net) =
    c.encode_slot_head-page.ensures ∙ same_head_page header.format d net _ _ c.arc_count.ensures c.landmarks.ensures.value in
    let long : length (body c.encode_slot_head-page.result) ≡ 4095 = ap (λ (p : List ℕ). length (body p)) page_is ∙ head_body_length header.format (draft_head_of d net) (omega (arith, ap length c.landmarks.ensures.value, c.landmarks.ensures.few)) in
    let written = (c.settle.ensures.reads.same then_honest).same_content ∙ c.in_ok-write_head.ensures.written h in
    let words : HoldsPages (page old) header c.self.inside.slot net (slot_pages header) =
    subst (λ (n : ℕ). HoldsPages (page old) header c.self.inside.slot net n) c.requires.none_left (subst (λ (x : Draft). HoldsPages (page old) header x.slot net c.args.self.now.written) (sym c.self.view_is) (c.requires.pages h)) in
    on_ok_weaker c.open_gate.result
    (λ opened.
    let is : g.D.Disk.content c.open_gate.new.disk ≡ overwritten mid (slot_gate header c.self.inside.slot) (165 ∷ []) = opened ∙ ap (λ (k : ℕ). overwritten mid k (165 ∷ [])) c.gate_at.ensures in
    subst (λ (x : Draft). IsSlotWhole header x.slot (draft_head_of x net) net old (g.D.Disk.content c.open_gate.new.disk)) c.self.view_is
    (subst (λ (f : List ℕ). IsSlotWhole header c.self.inside.slot (draft_head_of d net) net old f) (sym is)
    (now_whole header c.self.inside.slot (draft_head_of d net) net old mid (body c.encode_slot_head-page.result) (c.requires.file.whole h) long written (ap body page_is) words)))
    (c.open_gate.ensures.opened later_honest)

pub returns-clause-writes : goal.returns-clause-writes
returns-clause-writes g c =
    let old = g.D.Disk.content c.args.disk.now in
    let mid = g.D.Disk.content c.settle.new.disk in
    let header = c.args.header.now in
    let net = c.args.network.now in
    let slot : Slot = c.self.inside.slot in
    let d : Draft = record { slot = c.self.inside.slot; epoch = c.self.inside.epoch; version = c.self.inside.version; next_sequence = c.self.inside.next_sequence; written = c.self.inside.written } in
    let page_is : c.encode_slot_head-page.result ≡ head_page header.format (draft_head_of d net) =
    c.encode_slot_head-page.ensures ∙ same_head_page header.format d net _ _ c.arc_count.ensures c.landmarks.ensures.value in
    let long : length (body c.encode_slot_head-page.result) ≡ 4095 = ap (λ (p : List ℕ). length (body p)) page_is ∙ head_body_length header.format (draft_head_of d net) (omega (arith, ap length c.landmarks.ensures.value, c.landmarks.ensures.few)) in
    let P : List ℕ → Type 0 = IsDraftShutOrWhole header d net old in
    let opening : WritesDisk g.D.Disk (IsShutOrOpened mid (slot_gate header slot)) c.open_gate.result c.settle.new.disk c.open_gate.new.disk =
    subst (λ (k : ℕ). WritesDisk g.D.Disk (IsShutOrOpened mid k) c.open_gate.result c.settle.new.disk c.open_gate.new.disk) c.gate_at.ensures c.open_gate.ensures.writes in
    subst (λ (x : Draft). WritesDisk g.D.Disk (IsDraftShutOrWhole header x net old) c.open_gate.result c.args.disk.now c.open_gate.new.disk) c.self.view_is
    (unsynced_then_writes g.D.Disk P (IsShutOrOpened mid (slot_gate header slot)) _ c.open_gate.result c.args.disk.now c.settle.new.disk c.open_gate.new.disk
    (unsynced_weaker g.D.Disk (IsSlotShut header slot old) P _ c.args.disk.now c.settle.new.disk
    (unsynced_then_reads g.D.Disk (IsSlotShut header c.self.inside.slot old) _ _ c.args.disk.now c.write_head.new.disk c.settle.new.disk c.in_ok-write_head.ensures.writes c.in_ok-settle.ensures.reads) (λ x still. inl still))
    opening
    (λ h x way.
    let then_honest = c.write_head.ensures.writes.honest.1 h in
    let same = (c.settle.ensures.reads.same then_honest).same_content in
    let written = same ∙ c.in_ok-write_head.ensures.written h in
    let shut : IsSlotShut header slot old mid = subst (λ (f : List ℕ). IsSlotShut header slot old f) (sym same) (c.write_head.ensures.content h) in
    let words : HoldsPages (page old) header slot net (slot_pages header) =
    subst (λ (n : ℕ). HoldsPages (page old) header slot net n) c.requires.none_left (subst (λ (x : Draft). HoldsPages (page old) header x.slot net c.args.self.now.written) (sym c.self.view_is) (c.requires.pages h)) in
    while_opening header slot (draft_head_of d net) net old mid (body c.encode_slot_head-page.result) (c.requires.file.whole h) long written (ap body page_is) words shut x way))
