use Rattle.std.proofs.Common.{◌∙◌, ◌≤◌, ℕ, List, ap, sym, subst}
use Rattle.roadnet.specs.Groups.{count_of}
use Rattle.roadnet.specs.declared.commands.Command.{Command}
use Rattle.pages.specs.Limits.{most_commands}
use Rattle.store.specs.Commits.{Commits}
use Rattle.store.proofs.EachAlone.{count_alone}
use Rattle.store.proofs.stores.store.Store.commit.Goals as goal

pub commit_groups-requires-clause-few : goal.commit_groups-requires-clause-few
commit_groups-requires-clause-few g c =
    subst (λ (n : ℕ). n ≤ most_commands) (sym (ap count_of c.groups_of-groups.ensures ∙ count_alone c.args.commands.now)) c.requires.few

pub returns : goal.returns
returns g c =
    subst (λ (groups : List (List Command)). Commits g.D.Disk groups c.commit_groups.result c.args.self.now c.commit_groups.new.self) c.groups_of-groups.ensures c.commit_groups.ensures
