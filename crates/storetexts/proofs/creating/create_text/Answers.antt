use Rattle.std.proofs.Common.{inl, refl}
use Rattle.storetexts.proofs.Made.{made_of_both, network_not_empty, network_device, network_counts, network_refused_known, all_making_refused_known, making_kinds, memory_first, memory_second}
use Rattle.storetexts.proofs.creating.create_text.Goals as goal

pub returns-in-Ok-clause-made : goal.returns-in-Ok-clause-made
returns-in-Ok-clause-made g c honest = made_of_both c.create_store.result.0 c.args.room _ _ _ _ _ _ c.in-Ok.ensures.network (c.create_store.ensures.made honest)

pub returns-in-Err-clause-not_empty : goal.returns-in-Err-clause-not_empty
returns-in-Err-clause-not_empty g c honest = network_not_empty c.in-Err.failed c.in-Err.ensures.kinds _

pub returns-in-Err-clause-failed : goal.returns-in-Err-clause-failed
returns-in-Err-clause-failed g c = network_device c.in-Err.failed c.in-Err.ensures.kinds _

pub returns-in-Err-clause-writes : goal.returns-in-Err-clause-writes
returns-in-Err-clause-writes g c = record { writes = network_counts c.in-Err.failed c.in-Err.ensures.kinds _; same = refl }

pub returns-in-Err-clause-refused : goal.returns-in-Err-clause-refused
returns-in-Err-clause-refused g c = network_refused_known _ _ c.args.room (g.P.Text.source c.read_planned.new.gr) (g.Q.Text.source c.read_planned.new.ss) c.in-Err.failed c.in-Err.ensures.refused

pub returns-in-Err-clause-codes : goal.returns-in-Err-clause-codes
returns-in-Err-clause-codes g c = inl c.in-Err.ensures.kinds

pub returns-in-Err-clause-order : goal.returns-in-Err-clause-order
returns-in-Err-clause-order g c honest = memory_second c.in-Err.failed _ _ refl

pub returns-in-Ok-clause-refused : goal.returns-in-Ok-clause-refused
returns-in-Ok-clause-refused g c = all_making_refused_known c.create_store.result.0 _ _ c.args.room (g.P.Text.source c.read_planned.new.gr) (g.Q.Text.source c.read_planned.new.ss) c.in-Ok.network c.in-Ok.ensures.network c.create_store.ensures.refused

pub returns-in-Ok-clause-codes : goal.returns-in-Ok-clause-codes
returns-in-Ok-clause-codes g c = making_kinds c.create_store.result.0 c.create_store.ensures.refused

pub returns-in-Ok-clause-order : goal.returns-in-Ok-clause-order
returns-in-Ok-clause-order g c honest = memory_first c.create_store.result.0 _ _ (c.create_store.ensures.order honest)
