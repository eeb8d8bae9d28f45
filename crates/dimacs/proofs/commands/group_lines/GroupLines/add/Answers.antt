use Rattle.std.proofs.Common.{◌∙◌, refl, sym}
use Rattle.dimacs.proofs.GroupCodes.{command_outside, not_added, shut_of}
use Rattle.dimacs.proofs.GroupRows.{opened_is, takes_added, takes_outside}
use Rattle.dimacs.proofs.commands.group_lines.GroupLines.add.Goals as goal

pub returns-then-not-keep-clause-takes : goal.returns-then-not-keep-clause-takes
returns-then-not-keep-clause-takes c earlier row no_begin no_end clean says has =
    let shut = shut_of c.is_open.result c.args.self.now.open c.is_open.ensures c.if-not-is_open.true in
    command_outside earlier c.args.self.now.open (opened_is earlier c.args.self.now has) row no_begin no_end c.args.command says clean shut

pub returns-then-not-is_open-clause-takes : goal.returns-then-not-is_open-clause-takes
returns-then-not-is_open-clause-takes c earlier row no_begin no_end clean says has =
    let shut = shut_of c.is_open.result c.args.self.now.open c.is_open.ensures c.if-not-is_open.true in
    takes_outside earlier c.args.self.now has row no_begin no_end c.args.command clean says (record { closed = c.keep.new.closed; «open» = c.args.self.now.open }) shut
    (rw (c.keep.ensures, c.if-not-keep.false, c.one.ensures) refl) shut

pub returns-in-Ok-clause-takes : goal.returns-in-Ok-clause-takes
returns-in-Ok-clause-takes c earlier row no_begin no_end clean says has =
    let ok = c.in-Ok.ensures.ok in
    takes_added earlier c.args.self.now has row no_begin no_end c.args.command clean says (record { closed = c.args.self.now.closed; «open» = c.add.new.self }) (sym c.is_open.ensures ∙ c.if-not-is_open.false) ok.0 refl ok.1

pub returns-in-Err-clause-takes : goal.returns-in-Err-clause-takes
returns-in-Err-clause-takes c earlier row no_begin no_end clean says has =
    not_added earlier c.args.self.now.open (opened_is earlier c.args.self.now has) row no_begin no_end c.args.command says clean c.in-Err.code c.in-Err.ensures.refused
