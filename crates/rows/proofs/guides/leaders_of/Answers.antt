use Rattle.rows.proofs.Leaders.{leaders_tell_no_more, leaders_tell_the_source}
use Rattle.rows.proofs.guides.leaders_of.Goals as goal

pub returns-clause-below : goal.returns-clause-below
returns-clause-below c = leaders_tell_no_more c.in_ok-towards.towards.items c.in_ok-least.least c.args.target c.args.source c.args.rows.now c.in_ok-towards.ensures

pub returns-clause-source : goal.returns-clause-source
returns-clause-source c = leaders_tell_the_source c.in_ok-towards.towards.items c.in_ok-least.least c.args.target c.args.source c.args.rows.now c.in_ok-towards.ensures c.in_ok-least.ensures
