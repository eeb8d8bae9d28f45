use Rattle.std.proofs.Common.{◌/◌, ℕ, mod-lt}
use Rattle.frontier.proofs.Keying.{entry_count-put}
use Rattle.deltastep.proofs.Guiding.{put_in}
use Rattle.deltastep.proofs.questions.guided.KeyedSearch.lower_to.Goals as goal

pub returns-clause-changed : goal.returns-clause-changed
returns-clause-changed g c =
    let r = c.args.self.now.ring in
    let n = c.add.new.self in
    let b = c.key_of-key.result / r.delta in
    let e : ℕ × ℕ = (c.args.node, c.args.value) in
    let fits = c.requires.fits c.key_of-key.result c.key_of-key.ensures.from c.key_of-key.ensures.to in
    record {
      tentative = c.set.ensures.set;
      queued = put_in r n b e c.in_ok-add.ensures.ok c.add.ensures.size c.add.ensures.last fits;
      more = entry_count-put r.last b r.lists.items n.lists.items e c.in_ok-add.ensures.ok c.add.ensures.size fits (mod-lt b r.some);
    }
