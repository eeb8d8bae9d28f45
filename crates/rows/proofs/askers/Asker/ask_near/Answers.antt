use Rattle.kept_rows.proofs.CacheRows.{same_rows}
use Rattle.rows.proofs.askers.Asker.ask_near.Goals as goal

pub returns-clause-kept : goal.returns-clause-kept
returns-clause-kept g c = same_rows c.args.self.now.version c.args.cache.now c.near_of.new.cache c.args.self.now.network c.near_of.ensures.rows c.requires
