-- The entries of one history among those of its book: each link names the pen of the next.
use Rattle.std.specs.Prelude.{ℕ, nat_eq, List, [], ◌∷◌, if◌then◌else◌}
use Rattle.std.specs.declared.snapshot.Snapshot.{Snapshot}
use Rattle.logbook.specs.declared.tokens.Pen.{Pen}
use Rattle.history.specs.declared.entries.Entry.{Entry}
use Rattle.history.specs.declared.entries.Entry.TheVariants.{Opened, Accepted, Acknowledged, Closed}
use Rattle.history.specs.declared.entries.Link.{Link}

-- the key of the pen that wrote the link, and of the one that writes the next
abbrev pub pen_of : Link → ℕ
pen_of link = link.pen.value.nib.key

abbrev pub following : Link → ℕ
following link = link.following.value.nib.key

-- the first pen that a name has
abbrev pub named_first : List (Snapshot Pen) → ℕ
named_first [] = 0
named_first (name ∷ names) = name.value.nib.key

-- an entry, with what stands behind it: nothing stands behind the end
abbrev pub with_rest : Entry → List Entry → List Entry
with_rest (Opened base) rest = Opened base ∷ rest
with_rest (Accepted group) rest = Accepted group ∷ rest
with_rest (Acknowledged number) rest = Acknowledged number ∷ rest
with_rest Closed rest = Closed ∷ []

-- the entries from that of this pen on
abbrev pub chain : ℕ → List Link → List Entry
chain pen [] = []
chain pen (link ∷ links) = if nat_eq (pen_of link) pen then with_rest link.entry (chain (following link) links) else chain pen links

-- the pen that writes the next of them
abbrev pub next_pen : ℕ → List Link → ℕ
next_pen pen [] = pen
next_pen pen (link ∷ links) = if nat_eq (pen_of link) pen then next_pen (following link) links else next_pen pen links
