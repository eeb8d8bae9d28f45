-- A beginning with an entry more.
use Rattle.std.specs.Prelude.{ℕ, max, [], ◌∷◌, ◌++◌}
use Rattle.history.specs.declared.entries.Entry.{Entry}
use Rattle.history.specs.declared.entries.Entry.TheVariants.{Accepted, Acknowledged}
use Rattle.history.specs.Origins.{Beginning}

abbrev pub with_entry : Beginning → Entry → Beginning
with_entry b (Accepted group) = record b { groups = b.groups ++ group.value ∷ [] }
with_entry b (Acknowledged number) = record b { acknowledged = max b.acknowledged number }
with_entry b _ = b

-- how many groups an entry adds
abbrev pub groups_counted : Entry → ℕ
groups_counted (Accepted group) = 1
groups_counted _ = 0
