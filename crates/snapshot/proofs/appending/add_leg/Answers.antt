use Rattle.std.proofs.Common.{◌≡◌, ◌∙◌, ◌/◌, [], ◌∷◌, get_or, set, length, ap, refl, sym, subst}
use Rattle.std.specs.List.{flat_map}
use Rattle.std.proofs.lemmas.List.{length-set}
use Rattle.snapshot.specs.Appended.{HasMore}
use Rattle.snapshot.proofs.Appended.{AreLight-block, HasMore-set}
use Rattle.snapshot.proofs.Shared.{parts_in}
use Rattle.snapshot.proofs.appending.add_leg.Goals as goal

pub returns-clause-count : goal.returns-clause-count
returns-clause-count c = ap length c.in_ok-set.ensures.ok ∙ length-set c.args.blocks.now (c.args.arc.now.tail / 1024) c.in-Some.more

pub returns-clause-legs : goal.returns-clause-legs
returns-clause-legs c light =
    let old = c.get.result.now in
    let arc = c.args.arc.now in
    let is : old ≡ get_or c.args.blocks.now (arc.tail / 1024) old = sym (c.get.ensures.item old) in
    let told = rw c.in-Some.is at c.in_ok-more.ensures.legs in
    let own = AreLight-block c.args.delta c.args.blocks.now (arc.tail / 1024) old c.in-Some.more arc c.requires.tail is refl light in
    rw c.in_ok-set.ensures.ok (HasMore-set c.args.delta c.args.blocks.now (arc.tail / 1024) old c.in-Some.more arc c.requires.tail is refl light (told own))
