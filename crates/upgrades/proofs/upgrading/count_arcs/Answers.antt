use Rattle.std.proofs.Common.{◌∙◌, length, ap, arith}
use Rattle.upgrades.proofs.Tables.{each_is_counted, kept_is}
use Rattle.upgrades.proofs.upgrading.count_arcs.Goals as goal

pub overflow_sub-others : goal.overflow_sub-others
overflow_sub-others c =
    let kept_told = c.count_found-kept.ensures ∙ kept_is c.args.stored.now.arcs c.args.new.now.arcs c.args.parts.now c.requires.parts in
    omega (arith, kept_told, each_is_counted c.args.stored.now.arcs c.args.new.now.arcs, ap length c.arcs.ensures.value)

pub overflow_sub-doubtful : goal.overflow_sub-doubtful
overflow_sub-doubtful c =
    let kept_told = c.count_found-kept.ensures ∙ kept_is c.args.stored.now.arcs c.args.new.now.arcs c.args.parts.now c.requires.parts in
    omega (arith, kept_told, c.count_alone-added.ensures, each_is_counted c.args.stored.now.arcs c.args.new.now.arcs, ap length c.arcs.ensures.value)

pub returns : goal.returns
returns c =
    let kept_told = c.count_found-kept.ensures ∙ kept_is c.args.stored.now.arcs c.args.new.now.arcs c.args.parts.now c.requires.parts in
    record {
      kept_is = kept_told;
      added_is = c.count_alone-added.ensures;
      gone_is = c.count_alone-gone.ensures;
      doubtful_is = omega (arith, kept_told, c.count_alone-added.ensures, each_is_counted c.args.stored.now.arcs c.args.new.now.arcs, ap length c.arcs.ensures.value);
    }
