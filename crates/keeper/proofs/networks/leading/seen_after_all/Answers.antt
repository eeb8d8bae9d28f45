use Rattle.std.proofs.Common.{◌≡◌, ◌∙◌, None, get_or, sym, subst, take, List}
use Rattle.std.proofs.lemmas.List.{take_all}
use Rattle.roadnet.specs.declared.commands.Command.{Command}
use Rattle.roadnet.specs.Net.{Net}
use Rattle.roadnet.specs.Step.{first_refusal}
use Rattle.roadnet.specs.Batches.{changed_by, changed_by_all}
use Rattle.keeper.specs.Leading.{SeesAt}
use Rattle.roadnet.proofs.GroupsInTurn.{IsNetwork-changed_by_all, group_admitted_here, one_group_changed, prefix_groups_admitted}
use Rattle.keeper.proofs.networks.leading.seen_after_all.Goals as goal

pub loop-group-init : goal.loop-group-init
loop-group-init c net ok none s = s

pub loop-group-preserved : goal.loop-group-preserved
loop-group-preserved c net ok none s =
    let mid : Net = changed_by_all net (take c.loop-group.group-index c.args.groups.now) in
    let is : c.commands.result.now ≡ get_or c.args.groups.now c.loop-group.group-index c.group-item.result = c.commands.ensures.value ∙ c.group-item.is in
    let here : first_refusal mid (get_or c.args.groups.now c.loop-group.group-index c.group-item.result) ≡ None =
    group_admitted_here net c.args.groups.now c.loop-group.group-index c.group-item.result c.loop-group-test.true none in
    let there : first_refusal mid c.commands.result.now ≡ None = subst (λ (g : List Command). first_refusal mid g ≡ None) (sym is) here in
    let after : SeesAt (changed_by mid c.commands.result.now) c.args.k c.seen_after-last.result =
    c.seen_after-last.ensures mid (IsNetwork-changed_by_all net (take c.loop-group.group-index c.args.groups.now) ok (prefix_groups_admitted net c.args.groups.now c.loop-group.group-index none)) there (c.loop-group.invariant net ok none s) in
    let same : SeesAt (changed_by mid (get_or c.args.groups.now c.loop-group.group-index c.group-item.result)) c.args.k c.seen_after-last.result =
    subst (λ (g : List Command). SeesAt (changed_by mid g) c.args.k c.seen_after-last.result) is after in
    subst (λ (n : Net). SeesAt n c.args.k c.seen_after-last.result) (sym (one_group_changed net c.args.groups.now c.loop-group.group-index c.group-item.result c.loop-group-test.true)) same

pub returns : goal.returns
returns c net ok none s =
    subst (λ (gs : List (List Command)). SeesAt (changed_by_all net gs) c.args.k c.loop-group.last) (take_all c.loop-group.group-index c.args.groups.now c.loop-group-test.false) (c.loop-group.invariant net ok none s)
