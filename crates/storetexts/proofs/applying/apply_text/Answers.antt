use Rattle.std.specs.Prelude.{⊤, IfSome, vec_items}
use Rattle.std.proofs.Common.{rules, ◌≡◌, inl, refl}
use Rattle.dimacs.specs.Commanded.{group_text}
use Rattle.dimacs.specs.Texts.{ReadsText}
use Rattle.printing.specs.declared.failed.Failed.TheVariants.{Code}
use Rattle.printing.specs.Counting.{writer_of}
use Rattle.storetexts.specs.Applied.{IsRefusedApply}
use Rattle.storetexts.proofs.Judged.{opening_counts, opening_of_store, apply_refused_known, kind_cut_off, cut_off_refused_known}
use Rattle.storetexts.proofs.Meanwhile.{counts_code, counts_from}
use Rattle.storetexts.proofs.RefusedFirst.{text_or_file_refused, cut_off_later}
use Rattle.storetexts.proofs.Remaining.{if_known, applied_known, cut_off_known}
use Rattle.storetexts.proofs.TextApplied.{fault_known, told_known, nothing_since, known_since}
use Rattle.printing.proofs.ReadTexts.{value_of}
use Rattle.storetexts.proofs.Read.{fault_of}
use Rattle.storetexts.proofs.Checked.{memory_told}
use Rattle.storetexts.proofs.Fitting.{if_no_memory, memory_any}
use Rattle.storetexts.proofs.applying.apply_text.Goals as goal

pub returns-in-Err-clause-cut_off : goal.returns-in-Err-clause-cut_off
returns-in-Err-clause-cut_off g c honest pages slots net version stands = if_known _ _ (λ text. inl (c.in-Err.ensures.disk.same honest, refl))

pub returns-in-Err-clause-any_moment : goal.returns-in-Err-clause-any_moment
returns-in-Err-clause-any_moment g c honest pages slots net version stands =
    if_known _ _ (λ text. nothing_since g.D.Disk c.args.disk _ (λ content. g.met.D.Disk.only_now c.args.disk content honest) (c.in-Err.ensures.disk.same honest) _)

pub returns-in-Err-clause-refused : goal.returns-in-Err-clause-refused
returns-in-Err-clause-refused g c = apply_refused_known (g.D.Disk.honest c.args.disk) (g.D.Disk.content c.args.disk) (g.S.Text.bytes c.args.commands.now) (g.S.Text.source c.args.commands.now) c.in-Err.refusal (g.met.S.Text.is_unread c.args.commands.now) c.in-Err.ensures.refused

pub returns-in-Err-clause-codes : goal.returns-in-Err-clause-codes
returns-in-Err-clause-codes g c = opening_of_store c.in-Err.refusal c.in-Err.ensures.refused.0

pub returns-in-Err-clause-failed : goal.returns-in-Err-clause-failed
returns-in-Err-clause-failed g c = counts_code ⊤ c.in-Err.refusal _ _ c.in-Err.ensures.disk.counted

pub returns-in-Err-clause-writes : goal.returns-in-Err-clause-writes
returns-in-Err-clause-writes g c = record { writes = opening_counts ⊤ c.in-Err.refusal _ c.in-Err.ensures.refused.0; same = refl }

pub returns-in-Err-clause-untouched : goal.returns-in-Err-clause-untouched
returns-in-Err-clause-untouched g c honest = text_or_file_refused (Code c.in-Err.refusal) _ (c.in-Err.ensures.disk.same honest)

pub returns-in-Err-clause-unwritten : goal.returns-in-Err-clause-unwritten
returns-in-Err-clause-unwritten g c =
    let same : writer_of c.args.out.now ≡ writer_of c.args.out.now = refl in
    text_or_file_refused (Code c.in-Err.refusal) _ same

pub returns-in-Err-of_text-clause-cut_off :
    goal.returns-in-Err-of_text-clause-cut_off
returns-in-Err-of_text-clause-cut_off g c honest pages slots net version stands = if_known _ _ (λ text. inl (search rules, refl))

pub returns-in-Err-of_text-clause-any_moment :
    goal.returns-in-Err-of_text-clause-any_moment
returns-in-Err-of_text-clause-any_moment g c honest pages slots net version stands =
    rw c.close-disk.ensures.disk
    (if_known _ _ (λ text. nothing_since g.D.Disk c.args.disk _ (λ content. g.met.D.Disk.only_now c.args.disk content honest) (c.in-Ok.ensures.disk.same honest) _))

pub returns-in-Err-of_text-clause-refused : goal.returns-in-Err-of_text-clause-refused
returns-in-Err-of_text-clause-refused g c =
    let known = g.S.Text.bytes c.args.commands.now in
    let source = g.S.Text.source c.read_commands.new.text in
    fault_of vec_items 0 c.read_commands.result c.in-Err-of_text.failed c.in-Err-of_text.ensures (λ r. IfSome known (λ text. ReadsText group_text text source r)) c.read_commands.ensures.read
    (λ failed. IfSome known (λ text. IsRefusedApply (g.D.Disk.honest c.args.disk) (g.D.Disk.content c.args.disk) text source failed))
    (fault_known _ _ _ c.in-Ok.ensures.opened known source)

pub returns-clause-applied : goal.returns-clause-applied
returns-clause-applied g c honest pages slots net version stands =
    let list : c.deref.result.now ≡ c.in-Ok-of_text.groups.items = search rules in
    let applies = c.apply_groups.ensures.applies.applied (c.in-Ok.ensures.came honest pages slots net version stands) net version (c.in-Ok.ensures.begins honest pages slots net version stands) in
    applied_known net version c.in-Ok-of_text.groups.items _ c.apply_groups.result.0 _ _ _ _ _ (rw list at applies) (value_of vec_items 0 c.read_commands.result c.in-Ok-of_text.groups c.in-Ok-of_text.ensures (λ r. IfSome (g.S.Text.bytes c.args.commands.now) (λ text. ReadsText group_text text (g.S.Text.source c.read_commands.new.text) r)) c.read_commands.ensures.read)

pub returns-clause-cut_off : goal.returns-clause-cut_off
returns-clause-cut_off g c honest pages slots net version stands =
    let list : c.deref.result.now ≡ c.in-Ok-of_text.groups.items = search rules in
    let applies = c.apply_groups.ensures.applies.cut_off (c.in-Ok.ensures.came honest pages slots net version stands) net version (c.in-Ok.ensures.begins honest pages slots net version stands) in
    cut_off_known net version c.in-Ok-of_text.groups.items _ c.apply_groups.result.0 _ _ _ _ _ (rw list at applies) (value_of vec_items 0 c.read_commands.result c.in-Ok-of_text.groups c.in-Ok-of_text.ensures (λ r. IfSome (g.S.Text.bytes c.args.commands.now) (λ text. ReadsText group_text text (g.S.Text.source c.read_commands.new.text) r)) c.read_commands.ensures.read)

pub returns-clause-any_moment : goal.returns-clause-any_moment
returns-clause-any_moment g c honest pages slots net version stands =
    let list : c.deref.result.now ≡ c.in-Ok-of_text.groups.items = search rules in
    let moments = c.apply_groups.ensures.applies.any_moment (c.in-Ok.ensures.came honest pages slots net version stands) net version (c.in-Ok.ensures.begins honest pages slots net version stands) in
    known_since g.D.Disk c.args.disk c.in-Ok.ledger.disk (λ content. g.met.D.Disk.only_now c.args.disk content honest)
    (c.in-Ok.ensures.disk.same honest) c.apply_groups.result.1 net version c.in-Ok-of_text.groups.items _ _ (value_of vec_items 0 c.read_commands.result c.in-Ok-of_text.groups c.in-Ok-of_text.ensures (λ r. IfSome (g.S.Text.bytes c.args.commands.now) (λ text. ReadsText group_text text (g.S.Text.source c.read_commands.new.text) r)) c.read_commands.ensures.read) (rw list at moments)

pub returns-clause-told : goal.returns-clause-told
returns-clause-told g c =
    let list : c.deref.result.now ≡ c.in-Ok-of_text.groups.items = search rules in
    let tells = c.apply_groups.ensures.applies.told in
    told_known _ _ c.in-Ok.ledger.machine c.in-Ok.ensures.opened c.in-Ok-of_text.groups.items c.apply_groups.result.0 _ _ _ _ (rw list at tells) (value_of vec_items 0 c.read_commands.result c.in-Ok-of_text.groups c.in-Ok-of_text.ensures (λ r. IfSome (g.S.Text.bytes c.args.commands.now) (λ text. ReadsText group_text text (g.S.Text.source c.read_commands.new.text) r)) c.read_commands.ensures.read)

pub returns-clause-refused : goal.returns-clause-refused
returns-clause-refused g c =
    let known = g.S.Text.bytes c.args.commands.now in
    let source = g.S.Text.source c.read_commands.new.text in
    cut_off_refused_known (g.D.Disk.honest c.args.disk) (g.D.Disk.content c.args.disk) c.in-Ok.ensures.opened c.in-Ok-of_text.groups.items c.apply_groups.result.0 known source
    (value_of vec_items 0 c.read_commands.result c.in-Ok-of_text.groups c.in-Ok-of_text.ensures (λ r. IfSome known (λ text. ReadsText group_text text source r)) c.read_commands.ensures.read) c.apply_groups.ensures.applies.refused

pub returns-clause-codes : goal.returns-clause-codes
returns-clause-codes g c = kind_cut_off c.apply_groups.result.0 c.apply_groups.ensures.applies.refused

pub returns-clause-failed : goal.returns-clause-failed
returns-clause-failed g c = counts_from c.apply_groups.result.0 _ _ _ c.in-Ok.ensures.disk.counted c.apply_groups.ensures.applies.counted

pub returns-clause-untouched : goal.returns-clause-untouched
returns-clause-untouched g c honest = cut_off_later c.apply_groups.result.0 _ c.apply_groups.ensures.applies.refused

pub returns-clause-unwritten : goal.returns-clause-unwritten
returns-clause-unwritten g c = cut_off_later c.apply_groups.result.0 _ c.apply_groups.ensures.applies.refused

pub returns-clause-honest : goal.returns-clause-honest
returns-clause-honest g c =
    (λ after. c.in-Ok.ensures.disk.honest.0 (c.apply_groups.ensures.applies.honest.0 after), λ before. c.apply_groups.ensures.applies.honest.1 (c.in-Ok.ensures.disk.honest.1 before))

pub returns-in-Err-of_text-clause-untouched : goal.returns-in-Err-of_text-clause-untouched
returns-in-Err-of_text-clause-untouched g c honest = rw c.close-disk.ensures.disk (text_or_file_refused c.in-Err-of_text.failed _ (c.in-Ok.ensures.disk.same honest))

pub returns-in-Err-clause-order : goal.returns-in-Err-clause-order
returns-in-Err-clause-order g c honest = memory_told c.in-Err.refusal _ (c.in-Err.ensures.order honest)

pub returns-clause-order : goal.returns-clause-order
returns-clause-order g c honest = if_no_memory c.apply_groups.result.0 _ (c.in-Ok.ensures.fits honest)

pub returns-in-Err-of_text-clause-order : goal.returns-in-Err-of_text-clause-order
returns-in-Err-of_text-clause-order g c honest = memory_any c.in-Err-of_text.failed _ (c.in-Ok.ensures.fits honest)
