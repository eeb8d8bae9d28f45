use Rattle.std.proofs.Common.{◌≡◌, ◌∙◌, ℕ, List, ap, sym}
use Rattle.std.specs.Prelude.{map}
use Rattle.std.proofs.lemmas.Result.{err_from_is_err_and}
use Rattle.pages.specs.Spelling.{ends_of}
use Rattle.storefile.specs.StoreFile.{page}
use Rattle.storefile.specs.Judging.{current_slot}
use Rattle.pagereader.proofs.Calls.{reads_then, reads_then_refuses}
use Rattle.pagereader.proofs.Outcomes.{may_refuse_whole}
use Rattle.checkpoint.specs.Loading.{loaded_from}
use Rattle.store.specs.Opening.{current_from}
use Rattle.store.proofs.Steps.{no_load, slot_loaded}
use Rattle.store.proofs.opened.opening.read_current.Goals as goal

pub returns-clause-current : goal.returns-clause-current
returns-clause-current g c h =
    let h1 = c.in_ok-arcs.ensures.reads.honest.1 h in
    let h2 = c.in_ok-slot.ensures.reads.honest.1 h1 in
    let first : g.D.Disk.content c.read_arcs.new.disk ≡ g.D.Disk.content c.args.disk.now = (c.in_ok-arcs.ensures.reads.same h).same_content in
    let second : g.D.Disk.content c.choose.new.disk ≡ g.D.Disk.content c.args.disk.now = (c.in_ok-slot.ensures.reads.same h1).same_content ∙ first in
    slot_loaded (page (g.D.Disk.content c.args.disk.now)) c.args.header.now (map ends_of c.in_ok-arcs.arcs.items) c.in_ok-slot.slot c.in_ok-head.head c.in_ok-head.network
    (c.in_ok-arcs.ensures.spelled h)
    (ap (λ (file : List ℕ). current_slot (page file) c.args.header.now) (sym first) ∙ c.in_ok-slot.ensures.slot h1)
    (ap (λ (file : List ℕ). loaded_from (page file) c.args.header.now c.in_ok-slot.slot (map ends_of c.in_ok-arcs.arcs.items)) (sym second) ∙ c.in_ok-head.ensures.loaded h2)

pub returns-in_err-slot-clause-reads : goal.returns-in_err-slot-clause-reads
returns-in_err-slot-clause-reads g c =
    let p = err_from_is_err_and c.from_residual-in_err-slot.result c.from_residual-in_err-slot.ensures.1 in
    rw (p.1, p.2) (reads_then_refuses g.D.Disk _ _ c.args.disk.now c.read_arcs.new.disk c.choose.new.disk c.in_ok-arcs.ensures.reads c.in_err-slot.ensures.reads)

pub returns-in_err-head-clause-reads : goal.returns-in_err-head-clause-reads
returns-in_err-head-clause-reads g c =
    let p = err_from_is_err_and c.from_residual-in_err-head.result c.from_residual-in_err-head.ensures.1 in
    let two = reads_then g.D.Disk _ _ c.args.disk.now c.read_arcs.new.disk c.choose.new.disk c.in_ok-arcs.ensures.reads c.in_ok-slot.ensures.reads in
    rw (p.1, p.2) (reads_then_refuses g.D.Disk _ _ c.args.disk.now c.choose.new.disk c.load.new.disk two c.in_err-head.ensures.reads)

pub returns-clause-reads : goal.returns-clause-reads
returns-clause-reads g c =
    let two = reads_then g.D.Disk _ _ c.args.disk.now c.read_arcs.new.disk c.choose.new.disk c.in_ok-arcs.ensures.reads c.in_ok-slot.ensures.reads in
    let all = reads_then g.D.Disk _ _ c.args.disk.now c.choose.new.disk c.load.new.disk two c.in_ok-head.ensures.reads in
    record { causes = tt; same = all.same; counted = all.counted; honest = all.honest }

pub returns-in_err-head-clause-refused : goal.returns-in_err-head-clause-refused
returns-in_err-head-clause-refused g c h =
    let p = err_from_is_err_and c.from_residual-in_err-head.result c.from_residual-in_err-head.ensures.1 in
    let h1 = c.in_ok-arcs.ensures.reads.honest.1 h in
    let h2 = c.in_ok-slot.ensures.reads.honest.1 h1 in
    let first : g.D.Disk.content c.read_arcs.new.disk ≡ g.D.Disk.content c.args.disk.now = (c.in_ok-arcs.ensures.reads.same h).same_content in
    let second : g.D.Disk.content c.choose.new.disk ≡ g.D.Disk.content c.args.disk.now = (c.in_ok-slot.ensures.reads.same h1).same_content ∙ first in
    rw (p.1, p.2) (may_refuse_whole (loaded_from (page (g.D.Disk.content c.choose.new.disk)) c.args.header.now c.in_ok-slot.slot (map ends_of c.in_ok-arcs.arcs.items)) (current_from (page (g.D.Disk.content c.args.disk.now)) c.args.header.now) _
    (λ e. no_load (page (g.D.Disk.content c.args.disk.now)) c.args.header.now (map ends_of c.in_ok-arcs.arcs.items) c.in_ok-slot.slot _
    (c.in_ok-arcs.ensures.spelled h)
    (ap (λ (file : List ℕ). current_slot (page file) c.args.header.now) (sym first) ∙ c.in_ok-slot.ensures.slot h1)
    (ap (λ (file : List ℕ). loaded_from (page file) c.args.header.now c.in_ok-slot.slot (map ends_of c.in_ok-arcs.arcs.items)) (sym second) ∙ e))
    (c.in_err-head.ensures.refused h2))
