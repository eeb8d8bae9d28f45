-- A map from nodes to values in two tables: the value of each node, and whether it is queued.
--     entries_of values queued    the map that the tables stand for
--     IsTable count values queued    each queued node has its place in both tables, and count of them are queued
--     without nodes m             m without these nodes
use Rattle.std.specs.Prelude.{◌≡◌, ℕ, suc, ◌≤◌, ◌==◌, Bool, true, false, not, List, [], ◌∷◌, length}
use Rattle.std.specs.List.{list_any}
use Rattle.std.specs.FinMap as map
use Rattle.buckets.specs.Queue.{Entries}

-- each queued node with its value, ascending; the tables begin at the node `first`
abbrev pub queued_from : ℕ → List ℕ → List Bool → List (ℕ × ℕ)
queued_from first [] queued = []
queued_from first (value ∷ values) [] = []
queued_from first (value ∷ values) (true ∷ queued) = (first, value) ∷ queued_from (suc first) values queued
queued_from first (value ∷ values) (false ∷ queued) = queued_from (suc first) values queued

unfoldable pub entries_of : List ℕ → List Bool → Entries
entries_of values queued = map.from_entries (queued_from 0 values queued)

pub record IsTable (count : ℕ) (values : List ℕ) (queued : List Bool) : Type 0 where
  pub sized : length queued ≤ length values
  pub counted : count ≡ map.len (entries_of values queued)

abbrev pub without : List ℕ → Entries → Entries
without nodes m = map.retain_keys m (λ node. not (list_any (λ x. node == x) nodes))
