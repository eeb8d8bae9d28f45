-- Entries that are live: an entry is live where its value is the tentative value of its node.
--     is_live tentative e               whether the entry is live
--     live_nodes tentative entries      the nodes of the live ones of these entries
--     values_of tentative               the value of each node that has one, as a map
--     queued width lists tentative      the nodes that have a live entry, each with its value, as a map
--     AreEntriesOf tentative lists      no entry is below the tentative value of its node, and no list has an entry twice
--     all_queued width lists bag tentative      the nodes that have a live entry in these lists or in a bag, each with its value, as a map
--     AreKept tentative width bound lists bag   entries of buckets below the bound stand in lists, all others in the bag
--     standing tentative nodes          an entry for each of these nodes, with its value
--     AreJustQueued tentative nodes queue       just these nodes are queued, each with its value
use Rattle.std.specs.Prelude.{◌≡◌, ℕ, suc, ◌≤◌, ◌/◌, ◌%◌, ◌==◌, ◌&&◌, ◌||◌, ◌<◌, ◌⊎◌, ◌↔◌, Bool, true, false, take, not, nat_le, List, [], ◌∷◌, map, length, Contains, Option, MatchOption, None, Some}
use Rattle.std.specs.Option.{option_map_or}
use Rattle.std.specs.List.{list_any, filter}
use Rattle.std.specs.FinMap as finite
use Rattle.relax.specs.Values.{value_at, value_or}
use Rattle.buckets.specs.Queue.{Entries}
use Rattle.frontier.specs.Entries.{EntryLists, entries_at}

abbrev pub is_live : List (Option ℕ) → ℕ × ℕ → Bool
is_live tentative e = option_map_or (λ x. e.1 == x) (value_at tentative e.0) false

abbrev pub live_nodes : List (Option ℕ) → List (ℕ × ℕ) → List ℕ
live_nodes tentative entries = map (λ (e : ℕ × ℕ). e.0) (filter (is_live tentative) entries)

-- each node that has a value with it, ascending; the list begins at the node `first`
abbrev pub values_from : ℕ → List (Option ℕ) → List (ℕ × ℕ)
values_from first [] = []
values_from first (None ∷ tentative) = values_from (suc first) tentative
values_from first (Some value ∷ tentative) = (first, value) ∷ values_from (suc first) tentative

unfoldable pub values_of : List (Option ℕ) → Entries
values_of tentative = finite.from_entries (values_from 0 tentative)

abbrev pub is_same : ℕ × ℕ → ℕ × ℕ → Bool
is_same a b = (a.0 == b.0) && (a.1 == b.1)

-- whether the node's tentative value stands as an entry in the list of its bucket
abbrev pub is_queued : ℕ → EntryLists → List (Option ℕ) → ℕ → Bool
is_queued width lists tentative u = option_map_or (λ x. list_any (is_same (u, x)) (entries_at lists ((x / width) % length lists))) (value_at tentative u) false

abbrev pub queued : ℕ → EntryLists → List (Option ℕ) → Entries
queued width lists tentative = finite.retain_keys (values_of tentative) (is_queued width lists tentative)

-- whether the entry's node has a tentative value, and that is not above the entry's
abbrev pub is_at_most : List (Option ℕ) → ℕ × ℕ → Bool
is_at_most tentative e = option_map_or (λ x. nat_le x e.1) (value_at tentative e.0) false

-- whether no entry stands twice
abbrev pub are_once : List (ℕ × ℕ) → Bool
are_once [] = true
are_once (e ∷ entries) = not (list_any (is_same e) entries) && are_once entries

pub record AreEntriesOf (tentative : List (Option ℕ)) (lists : EntryLists) : Type 0 where
  pub node : (p : ℕ) (e : ℕ × ℕ) → Contains (entries_at lists p) e → 1 ≤ e.0
  pub above : (p : ℕ) (e : ℕ × ℕ) → Contains (entries_at lists p) e → is_at_most tentative e ≡ true
  pub once : (p : ℕ) → are_once (entries_at lists p) ≡ true

-- ---- a bag

-- whether the node's tentative value stands as an entry in the bag
abbrev pub is_in_bag : List (ℕ × ℕ) → List (Option ℕ) → ℕ → Bool
is_in_bag bag tentative u = option_map_or (λ x. list_any (is_same (u, x)) bag) (value_at tentative u) false

abbrev pub all_queued : ℕ → EntryLists → List (ℕ × ℕ) → List (Option ℕ) → Entries
all_queued width lists bag tentative = finite.retain_keys (values_of tentative) (λ u. is_queued width lists tentative u || is_in_bag bag tentative u)

-- all of them have buckets from the bound on, and none is the greatest number there is
pub record IsBag (tentative : List (Option ℕ)) (width bound : ℕ) (bag : List (ℕ × ℕ)) : Type 0 where
  pub node : (e : ℕ × ℕ) → Contains bag e → 1 ≤ e.0
  pub above : (e : ℕ × ℕ) → Contains bag e → is_at_most tentative e ≡ true
  pub beyond : (e : ℕ × ℕ) → Contains bag e → bound ≤ e.1 / width
  pub small : (e : ℕ × ℕ) → Contains bag e → e.1 < 18446744073709551615
  pub once : are_once bag ≡ true

pub record AreEntriesKept (tentative : List (Option ℕ)) (width bound : ℕ) (lists : EntryLists) (bag : List (ℕ × ℕ)) : Type 0 where
  pub stand : AreEntriesOf tentative lists
  pub below : (p : ℕ) (e : ℕ × ℕ) → Contains (entries_at lists p) e → e.1 / width < bound
  pub rest : IsBag tentative width bound bag

-- the first k of these entries were dealt: those that are live stand in lists or in the bag, and nothing else does
pub record AreEntriesDealt (tentative : List (Option ℕ)) (width : ℕ) (entries : List (ℕ × ℕ)) (k : ℕ) (lists : EntryLists) (bag : List (ℕ × ℕ)) : Type 0 where
  pub listed : (p : ℕ) (e : ℕ × ℕ) → Contains (entries_at lists p) e → Contains (take k entries) e
  pub bagged : (e : ℕ × ℕ) → Contains bag e → Contains (take k entries) e
  pub each : (e : ℕ × ℕ) → Contains (take k entries) e → is_live tentative e ≡ true → Contains (entries_at lists ((e.1 / width) % length lists)) e ⊎ Contains bag e

-- an entry was dealt: where it is live, to its list or to the bag, and nothing else changed
pub record IsDealt (tentative : List (Option ℕ)) (width : ℕ) (e : ℕ × ℕ) (lists : EntryLists) (bag : List (ℕ × ℕ)) (lists' : EntryLists) (bag' : List (ℕ × ℕ)) : Type 0 where
  pub size : length lists' ≡ length lists
  pub listed : (p : ℕ) (f : ℕ × ℕ) → Contains (entries_at lists' p) f → Contains (entries_at lists p) f ⊎ (e ≡ f)
  pub bagged : (f : ℕ × ℕ) → Contains bag' f → Contains bag f ⊎ (e ≡ f)
  pub lists_stay : (p : ℕ) (f : ℕ × ℕ) → Contains (entries_at lists p) f → Contains (entries_at lists' p) f
  pub bag_stays : (f : ℕ × ℕ) → Contains bag f → Contains bag' f
  pub live : is_live tentative e ≡ true → Contains (entries_at lists' ((e.1 / width) % length lists')) e ⊎ Contains bag' e

-- a live entry of the least value, or nothing where none is live
pub record IsLeastLive (tentative : List (Option ℕ)) (entries : List (ℕ × ℕ)) (least : ℕ) : Type 0 where
  pub node : ℕ
  pub member : Contains entries (node, least)
  pub live : is_live tentative (node, least) ≡ true
  pub lowest : (e : ℕ × ℕ) → Contains entries e → is_live tentative e ≡ true → least ≤ e.1

abbrev pub AreDead : List (Option ℕ) → List (ℕ × ℕ) → Type 0
AreDead tentative entries = (e : ℕ × ℕ) → Contains entries e → is_live tentative e ≡ false

abbrev pub IsLeastOf : List (Option ℕ) → List (ℕ × ℕ) → Option ℕ → Type 0
IsLeastOf tentative entries least = MatchOption least (AreDead tentative entries) (IsLeastLive tentative entries)

-- the entry stands nowhere
abbrev pub IsNowhere : EntryLists → List (ℕ × ℕ) → ℕ × ℕ → Type 0
IsNowhere lists bag e = ((p : ℕ) → Contains (entries_at lists p) e → ⊥) × (Contains bag e → ⊥)

-- the entry can be added: it is that of a node, not below the node's value, and stands nowhere
pub record CanStand (tentative : List (Option ℕ)) (lists : EntryLists) (bag : List (ℕ × ℕ)) (e : ℕ × ℕ) : Type 0 where
  pub node : 1 ≤ e.0
  pub above : is_at_most tentative e ≡ true
  pub nowhere : IsNowhere lists bag e

-- ---- a search that goes on from some nodes

abbrev pub standing : List (Option ℕ) → List ℕ → List (ℕ × ℕ)
standing tentative nodes = map (λ (u : ℕ). (u, value_or 0 tentative u)) nodes

abbrev pub AreJustQueued : List (Option ℕ) → List ℕ → Entries → Type 0
AreJustQueued tentative nodes queue = (u x : ℕ) → (finite.get queue u ≡ Some x) ↔ (Contains nodes u × (value_at tentative u ≡ Some x))
