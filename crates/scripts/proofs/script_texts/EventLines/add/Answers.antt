use Rattle.std.proofs.Common.{refl}
use Rattle.scripts.proofs.ScriptGroups.{command_refused, takes_added}
use Rattle.scripts.proofs.script_texts.EventLines.add.Goals as goal

pub returns-in-Ok-clause-takes : goal.returns-in-Ok-clause-takes
returns-in-Ok-clause-takes c earlier row no_begin no_end clean says has =
    let ok = c.in-Ok.ensures.ok in
    takes_added earlier c.args.self.now has row no_begin no_end c.requires c.args.command says clean (record { alloc = c.args.self.now.alloc; events = c.args.self.now.events; «open» = c.add.new.self }) ok.0 refl ok.1

pub returns-in-Err-clause-takes : goal.returns-in-Err-clause-takes
returns-in-Err-clause-takes c earlier row no_begin no_end clean says has =
    command_refused earlier c.args.self.now has row no_begin no_end c.requires c.args.command says clean c.in-Err.code c.in-Err.ensures.refused
