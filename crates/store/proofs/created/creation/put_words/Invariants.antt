use Rattle.store.specs.Created.{page_of_words}
use Rattle.store.proofs.Growing.{Progress}
use Rattle.store.proofs.created.creation.put_words.Given as goal

abbrev pub invariant-loop-i : goal.invariant-loop-i
invariant-loop-i g l = Progress g.D.Disk.content g.D.Disk.failures g.D.Disk.honest l.fn.disk l.disk l.fn.batch l.batch (page_of_words l.fn.network) l.i
