use Rattle.upgrades.proofs.SameMap.{same_map_changes_nothing}
use Rattle.upgrades.proofs.Tables.{each_is_counted}
use Rattle.upgrades.proofs.laws.laws_of_upgrades.Goals as goal

pub returns-clause-counted : goal.returns-clause-counted
returns-clause-counted c = each_is_counted

pub returns-clause-same_map : goal.returns-clause-same_map
returns-clause-same_map c = same_map_changes_nothing
