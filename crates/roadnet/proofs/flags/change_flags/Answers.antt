use Rattle.std.proofs.Common.{◌∙◌, Bool, List, take, ap, fold}
use Rattle.std.proofs.lemmas.List.{take_all}
use Rattle.roadnet.specs.Flags.{changed_flags, flags_before}
use Rattle.roadnet.proofs.Flagged.{taken_back, taken_back_all}
use Rattle.roadnet.proofs.flags.change_flags.Goals as goal

pub returns-in-Err-clause-err : goal.returns-in-Err-clause-err
returns-in-Err-clause-err c =
    c.restore_flags.ensures
    ∙ (ap (λ (fs : List Bool). flags_before fs (take c.loop-i.i c.args.commands.now)) (c.in-Err.ensures.err ∙ c.loop-i.invariant)
    ∙ taken_back c.args.flags.now.items c.args.commands.now c.loop-i.i c.requires)

pub returns-clause-back : goal.returns-clause-back
returns-clause-back c =
    ap (λ (fs : List Bool). flags_before fs c.args.commands.now) (c.loop-i.invariant ∙ ap (fold changed_flags c.args.flags.now.items) (take_all c.loop-i.i c.args.commands.now c.loop-i-test.false))
    ∙ taken_back_all c.args.flags.now.items c.args.commands.now c.requires
