use Rattle.std.proofs.Common.{◌≡◌, ◌∙◌, ◌+◌, ◌-◌, ◌<◌, ℕ, Bool, List, take, ap, arith}
use Rattle.roadnet.specs.declared.commands.Command.TheVariants.{Set}
use Rattle.roadnet.specs.Flags.{flags_before}
use Rattle.roadnet.proofs.Flagged.{one_back}
use Rattle.roadnet.proofs.flags.restore_flags.Goals as goal

pub loop-left-preserved : goal.loop-left-preserved
loop-left-preserved c =
    let some : 0 < c.loop-left.left = omega (arith, c.loop-left-test.true) in
    let back : c.loop-left.left - 1 + 1 ≡ c.loop-left.left = omega (arith, some) in (
      omega (arith, c.loop-left.invariant.0),
      ap (λ (fs : List Bool). flags_before fs (take (c.loop-left.left - 1) c.args.commands.now)) c.restore_flag.ensures
          ∙ (one_back c.loop-left.flags.items c.args.commands.now (c.loop-left.left - 1) (Set 0 0) (omega (arith, c.loop-left.invariant.0, some))
          ∙ (ap (λ (n : ℕ). flags_before c.loop-left.flags.items (take n c.args.commands.now)) back ∙ c.loop-left.invariant.1)),
    )
