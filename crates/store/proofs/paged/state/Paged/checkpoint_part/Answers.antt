use Rattle.storefile.specs.Standing.{Standing}
use Rattle.store.specs.Durable.{told_by}
use Rattle.store.proofs.Checkpointed.{no_call, only_stands}
use Rattle.store.proofs.GoingOn.{run_twice}
use Rattle.store.proofs.paged.state.Paged.checkpoint_part.Goals as goal

-- ---- nothing is unchecked

pub returns-then-self-eq0-clause-any_moment : goal.returns-then-self-eq0-clause-any_moment
returns-then-self-eq0-clause-any_moment g c works h stands =
    let s = c.args.self.now in
    let x : Standing = record { header = s.found.header; slot = s.found.slot; epoch = s.found.epoch; network = s.found.network; version = s.found.version; next = s.found.next_sequence; unchecked = s.found.unchecked } in
    no_call g.D.Disk.content g.D.Disk.left g.D.Disk.moment g.D.Disk.left_since s.disk x (s.rests works h).0 (λ d since. g.met.D.Disk.only_now s.disk d h since) stands

pub returns-then-self-eq0-clause-left : goal.returns-then-self-eq0-clause-left
returns-then-self-eq0-clause-left g c works h stands =
    let s = c.args.self.now in
    let x : Standing = record { header = s.found.header; slot = s.found.slot; epoch = s.found.epoch; network = s.found.network; version = s.found.version; next = s.found.next_sequence; unchecked = s.found.unchecked } in
    only_stands (g.D.Disk.content s.disk) (g.D.Disk.left s.disk) x (s.rests works h).0 stands

pub returns-then-is_some-clause-left : goal.returns-then-is_some-clause-left
returns-then-is_some-clause-left g c works h stands d was =
    let run = c.go_on.ensures.any_moment h stands in
    run.each d (g.met.D.Disk.counts_now c.go_on.new.self.disk (g.D.Disk.moment c.args.self.now.disk) d (c.go_on.ensures.tells.honest.1 h) run.later was)

pub returns-in_err-begin_checkpoint-clause-left : goal.returns-in_err-begin_checkpoint-clause-left
returns-in_err-begin_checkpoint-clause-left g c works h stands d was =
    let run = c.begin_checkpoint.ensures.any_moment h stands in
    run.each d (g.met.D.Disk.counts_now c.begin_checkpoint.new.self.disk (g.D.Disk.moment c.args.self.now.disk) d (c.begin_checkpoint.ensures.tells.honest.1 h) run.later was)

pub returns-in-Ok-clause-any_moment : goal.returns-in-Ok-clause-any_moment
returns-in-Ok-clause-any_moment g c works h stands =
    run_twice g.D.Disk.moment g.D.Disk.left_since c.args.self.now.disk c.begin_checkpoint.new.self.disk c.go_on-2.new.self.disk (told_by c.args.self.now) (told_by c.begin_checkpoint.new.self) c.begin_checkpoint.ensures.told
    (c.begin_checkpoint.ensures.any_moment h stands)
    (c.go_on-2.ensures.any_moment (c.begin_checkpoint.ensures.tells.honest.1 h) (c.in_ok-begin_checkpoint.ensures.stands h stands))

pub returns-in-Ok-clause-left : goal.returns-in-Ok-clause-left
returns-in-Ok-clause-left g c works h stands d was =
    let run = returns-in-Ok-clause-any_moment g c works h stands in
    run.each d (g.met.D.Disk.counts_now c.go_on-2.new.self.disk (g.D.Disk.moment c.args.self.now.disk) d (c.go_on-2.ensures.tells.honest.1 (c.begin_checkpoint.ensures.tells.honest.1 h)) run.later was)

pub returns-in-Err-clause-any_moment : goal.returns-in-Err-clause-any_moment
returns-in-Err-clause-any_moment g c works h stands =
    run_twice g.D.Disk.moment g.D.Disk.left_since c.args.self.now.disk c.begin_checkpoint.new.self.disk c.go_on-2.new.self.disk (told_by c.args.self.now) (told_by c.begin_checkpoint.new.self) c.begin_checkpoint.ensures.told
    (c.begin_checkpoint.ensures.any_moment h stands)
    (c.go_on-2.ensures.any_moment (c.begin_checkpoint.ensures.tells.honest.1 h) (c.in_ok-begin_checkpoint.ensures.stands h stands))

pub returns-in-Err-clause-left : goal.returns-in-Err-clause-left
returns-in-Err-clause-left g c works h stands d was =
    let run = returns-in-Err-clause-any_moment g c works h stands in
    run.each d (g.met.D.Disk.counts_now c.go_on-2.new.self.disk (g.D.Disk.moment c.args.self.now.disk) d (c.go_on-2.ensures.tells.honest.1 (c.begin_checkpoint.ensures.tells.honest.1 h)) run.later was)

pub returns-in-Ok-clause-stands : goal.returns-in-Ok-clause-stands
returns-in-Ok-clause-stands g c h stands = c.in-Ok.ensures.stands (c.begin_checkpoint.ensures.tells.honest.1 h) (c.in_ok-begin_checkpoint.ensures.stands h stands)

pub returns-in-Ok-clause-as_told : goal.returns-in-Ok-clause-as_told
returns-in-Ok-clause-as_told g c h told = c.in-Ok.ensures.as_told (c.begin_checkpoint.ensures.tells.honest.1 h) (c.in_ok-begin_checkpoint.ensures.as_told h told)
