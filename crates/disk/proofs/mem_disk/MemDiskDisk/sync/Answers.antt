use Rattle.disk.proofs.mem_disk.MemDiskDisk.sync.Goals as goal

pub returns-in-Ok-clause-time : goal.returns-in-Ok-clause-time
returns-in-Ok-clause-time c _ = c.in-Ok.ensures.time c.args.self.now.content.items
