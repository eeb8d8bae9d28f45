-- Lists of nodes, one a bucket, that have at least the nodes that are queued.
--     is_listed lists b node      whether the node is in the list of bucket b
--     AreListed width lists m     each node of m is in the list of the bucket of its value
use Rattle.std.specs.Prelude.{◌≡◌, ℕ, ◌/◌, ◌==◌, Bool, true, false, List, Some}
use Rattle.std.specs.Option.{option_map_or}
use Rattle.std.specs.Ordering.{nat_cmp}
use Rattle.std.specs.List.{list_any}
use Rattle.std.specs.BTreeMap as tree
use Rattle.std.specs.BTreeMap.{BTreeMap}
use Rattle.std.specs.Global.{Vec}
use Rattle.std.specs.FinMap as map
use Rattle.buckets.specs.Queue.{Entries}

-- a list for each of some buckets
abbrev pub Lists : Type 0
Lists = BTreeMap ℕ (Vec ℕ)

abbrev pub has_node : List ℕ → ℕ → Bool
has_node nodes node = list_any (λ x. node == x) nodes

abbrev pub is_listed : Lists → ℕ → ℕ → Bool
is_listed lists b node = option_map_or (λ nodes. has_node nodes.items node) (tree.get nat_cmp lists b) false

abbrev pub AreEntriesListed : ℕ → Lists → Entries → Type 0
AreEntriesListed width lists m = (node value : ℕ) → map.get m node ≡ Some value → is_listed lists (value / width) node ≡ true
