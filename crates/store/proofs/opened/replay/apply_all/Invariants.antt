use Rattle.std.proofs.Common.{◌≡◌, Some, take}
use Rattle.std.specs.Prelude.{map}
use Rattle.roadnet.specs.Step.{step_group}
use Rattle.pages.specs.declared.content.Record.{Record}
use Rattle.store.proofs.opened.replay.apply_all.Given as goal

abbrev pub invariant-loop-record : goal.invariant-loop-record
invariant-loop-record l = step_group l.fn.network (map (λ (r : Record). r.command) (take l.record-index l.records)) ≡ Some l.network
