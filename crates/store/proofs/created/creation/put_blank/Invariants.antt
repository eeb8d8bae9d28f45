use Rattle.store.specs.Created.{blank_page}
use Rattle.store.proofs.Growing.{Progress}
use Rattle.store.proofs.created.creation.put_blank.Given as goal

abbrev pub invariant-loop : goal.invariant-loop
invariant-loop g l = Progress g.D.Disk.content g.D.Disk.failures g.D.Disk.honest l.fn.disk l.disk l.fn.batch l.batch (λ _. blank_page) l.counter
