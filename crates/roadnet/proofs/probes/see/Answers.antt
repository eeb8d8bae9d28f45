use Rattle.roadnet.specs.Batches.{changed_by_all}
use Rattle.roadnet.proofs.GroupsInTurn.{IsNetwork-changed_by_all}
use Rattle.roadnet.proofs.probes.see.Goals as goal

pub returns : goal.returns
returns g c net ok of =
    c.seen_after.ensures (changed_by_all net c.args.groups.now) (IsNetwork-changed_by_all net c.args.groups.now ok (c.requires.groups net ok of)) (c.requires.commands net ok of)
    (c.seen_after_all-seen.ensures net ok (c.requires.groups net ok of)
    (record { opened = c.flag_of.ensures net ok of; arcs = c.count_arcs.ensures net ok of; marked = c.is_marked.ensures net ok of; landmarks = c.count_landmarks.ensures net ok of }))
