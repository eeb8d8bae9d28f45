-- What of a network its outline has, and what a command does to it.
use Rattle.std.proofs.Common.{not, ◌&&◌, ◌≡◌, ◌∙◌, ℕ, zero, suc, ◌-◌, ◌≤◌, Bool, true, false, true≢false, cond, List, [], ◌∷◌, ◌++◌, Option, Some, None, length, map, refl, ap, sym, subst, ltb}
use Rattle.std.specs.Prelude.{option_map, is_none, nat_le}
use Rattle.std.specs.Option.{option_map_or}
use Rattle.std.specs.List.{All}
use Rattle.std.proofs.lemmas.List.{length-map, map-append}
use Rattle.std.proofs.lemmas.Option.{slice_get-map}
use Rattle.roadnet.specs.declared.arcs.RoadArc.{RoadArc}
use Rattle.roadnet.specs.declared.commands.Command.{Command}
use Rattle.roadnet.specs.declared.commands.Command.TheVariants.{Set, Close, Reopen, Mark, Unmark, Lay}
use Rattle.roadnet.specs.declared.refusals.Refusal.{Refusal}
use Rattle.roadnet.specs.declared.refusals.Refusal.TheVariants.{NoSuchArc, LengthRange, AlreadyClosed, AlreadyOpen, NoSuchNode, NoRoom}
use Rattle.roadnet.specs.Batches.{opened_at}
use Rattle.roadnet.specs.Made.{is_node_among}
use Rattle.roadnet.specs.Members.{is_member, with_member, without_member}
use Rattle.roadnet.specs.Net.{Net, nth, update_nth}
use Rattle.roadnet.specs.Outlines.{Outlined, outline_of, IsOutline}
use Rattle.roadnet.specs.Step.{is_node, new_arc, refusal_of, changed, first_refusal}
use Rattle.roadnet.proofs.InTurn.{node_passes}
use Rattle.roadnet.proofs.Members.{is_member-beyond}

abbrev pub flag : RoadArc → Bool
flag arc = arc.opened

-- ---- the refusal of a command, from whether its arc is open

abbrev pub due_to_set : Option Bool → ℕ → Option Refusal
due_to_set opened w = cond (is_none opened) (Some NoSuchArc) (cond (ltb 2147483647 w) (Some LengthRange) None)

abbrev pub due_to_close : Option Bool → Option Refusal
due_to_close None = Some NoSuchArc
due_to_close (Some true) = None
due_to_close (Some false) = Some AlreadyClosed

abbrev pub due_to_reopen : Option Bool → Option Refusal
due_to_reopen None = Some NoSuchArc
due_to_reopen (Some true) = Some AlreadyOpen
due_to_reopen (Some false) = None

pub set_due : (net : Net) (k w : ℕ) → refusal_of net (Set k w) ≡ due_to_set (opened_at net k) w
set_due net k w = go (nth net.arcs k)
  where
    go : (o : Option RoadArc) → cond (is_none o) (Some NoSuchArc) (cond (ltb 2147483647 w) (Some LengthRange) None) ≡ due_to_set (option_map flag o) w
    go None = refl
    go (Some arc) = refl

pub close_due : (net : Net) (k : ℕ) → refusal_of net (Close k) ≡ due_to_close (opened_at net k)
close_due net k = go (nth net.arcs k)
  where
    there : (b : Bool) → cond (not b) (Some AlreadyClosed) None ≡ due_to_close (Some b)
    there true = refl
    there false = refl

    go : (o : Option RoadArc) → cond (is_none o) (Some NoSuchArc) (cond (option_map_or (λ arc. not arc.opened) o false) (Some AlreadyClosed) None) ≡ due_to_close (option_map flag o)
    go None = refl
    go (Some arc) = there arc.opened

pub reopen_due : (net : Net) (k : ℕ) → refusal_of net (Reopen k) ≡ due_to_reopen (opened_at net k)
reopen_due net k = go (nth net.arcs k)
  where
    there : (b : Bool) → cond b (Some AlreadyOpen) None ≡ due_to_reopen (Some b)
    there true = refl
    there false = refl

    go : (o : Option RoadArc) → cond (is_none o) (Some NoSuchArc) (cond (option_map_or (λ arc. arc.opened) o false) (Some AlreadyOpen) None) ≡ due_to_reopen (option_map flag o)
    go None = refl
    go (Some arc) = there arc.opened

-- the refusal of an arc that is laid, from the outline
abbrev due_to_lay : Outlined → ℕ → ℕ → ℕ → Option Refusal
due_to_lay o t h w = cond (ltb 2147483647 w) (Some LengthRange) (cond (not (is_node_among o.nodes t && is_node_among o.nodes h)) (Some NoSuchNode) (cond (nat_le o.room (length o.opened)) (Some NoRoom) None))

lay_due : (net : Net) (t h w : ℕ) → refusal_of net (Lay t h w) ≡ due_to_lay (outline_of net) t h w
lay_due net t h w = rw (length-map net.arcs flag) refl

-- ---- what an outline tells of each of its networks

nth-map : (arcs : List RoadArc) (k : ℕ) → option_map flag (nth arcs k) ≡ nth (map flag arcs) k
nth-map arcs zero = refl
nth-map arcs (suc k) = sym (slice_get-map flag arcs k)

pub opened_in : (net : Net) (outline : Outlined) (k : ℕ) → outline_of net ≡ outline → opened_at net k ≡ nth outline.opened k
opened_in net outline k is = nth-map net.arcs k ∙ ap (λ (o : Outlined). nth o.opened k) is

pub node_in : (net : Net) (outline : Outlined) (x : ℕ) → outline_of net ≡ outline → is_node net x ≡ is_node_among outline.nodes x
node_in net outline x is = ap (λ (o : Outlined). is_node_among o.nodes x) is

-- two networks of one outline give a command one answer
pub same_refusal : (a b : Net) (c : Command) → outline_of a ≡ outline_of b → refusal_of a c ≡ refusal_of b c
same_refusal a b (Set k w) is = set_due a k w ∙ (ap (λ (o : Option Bool). due_to_set o w) (opened_in a (outline_of b) k is ∙ sym (opened_in b (outline_of b) k refl)) ∙ sym (set_due b k w))
same_refusal a b (Close k) is = close_due a k ∙ (ap due_to_close (opened_in a (outline_of b) k is ∙ sym (opened_in b (outline_of b) k refl)) ∙ sym (close_due b k))
same_refusal a b (Reopen k) is = reopen_due a k ∙ (ap due_to_reopen (opened_in a (outline_of b) k is ∙ sym (opened_in b (outline_of b) k refl)) ∙ sym (reopen_due b k))
same_refusal a b (Mark x) is = ap (λ (o : Outlined). refusal_of (record { nodes = o.nodes; arcs = []; landmarks = o.landmarks; room = o.room }) (Mark x)) is
same_refusal a b (Unmark x) is = ap (λ (o : Outlined). refusal_of (record { nodes = o.nodes; arcs = []; landmarks = o.landmarks; room = o.room }) (Unmark x)) is
same_refusal a b (Lay t h w) is = lay_due a t h w ∙ (ap (λ (o : Outlined). due_to_lay o t h w) is ∙ sym (lay_due b t h w))

-- ---- what a command does to an outline

abbrev pub outline_after : Outlined → Command → Outlined
outline_after outline (Set k w) = outline
outline_after outline (Close k) = record outline { opened = update_nth (λ _. false) outline.opened k }
outline_after outline (Reopen k) = record outline { opened = update_nth (λ _. true) outline.opened k }
outline_after outline (Mark x) = record outline { landmarks = with_member x outline.landmarks }
outline_after outline (Unmark x) = record outline { landmarks = without_member x outline.landmarks }
outline_after outline (Lay t h w) = record outline { opened = outline.opened ++ true ∷ [] }

pub flags_kept : (w : ℕ) (arcs : List RoadArc) (k : ℕ) → map flag (update_nth (λ (arc : RoadArc). record arc { length = w }) arcs k) ≡ map flag arcs
flags_kept w arcs zero = refl
flags_kept w [] (suc k) = refl
flags_kept w (arc ∷ arcs) (suc zero) = refl
flags_kept w (arc ∷ arcs) (suc (suc k)) = ap (λ (l : List Bool). arc.opened ∷ l) (flags_kept w arcs (suc k))

pub flag_changed : (b : Bool) (arcs : List RoadArc) (k : ℕ) → map flag (update_nth (λ (arc : RoadArc). record arc { opened = b }) arcs k) ≡ update_nth (λ _. b) (map flag arcs) k
flag_changed b arcs zero = refl
flag_changed b [] (suc k) = refl
flag_changed b (arc ∷ arcs) (suc zero) = refl
flag_changed b (arc ∷ arcs) (suc (suc k)) = ap (λ (l : List Bool). arc.opened ∷ l) (flag_changed b arcs (suc k))

pub outline_changed : (net : Net) (c : Command) → outline_of (changed net c) ≡ outline_after (outline_of net) c
outline_changed net (Set k w) = ap (λ (l : List Bool). record (outline_of net) { opened = l }) (flags_kept w net.arcs k)
outline_changed net (Close k) = ap (λ (l : List Bool). record (outline_of net) { opened = l }) (flag_changed false net.arcs k)
outline_changed net (Reopen k) = ap (λ (l : List Bool). record (outline_of net) { opened = l }) (flag_changed true net.arcs k)
outline_changed net (Mark x) = refl
outline_changed net (Unmark x) = refl
outline_changed net (Lay t h w) = ap (λ (l : List Bool). record (outline_of net) { opened = l }) (map-append flag net.arcs (new_arc t h w ∷ []))

-- and a group
pub same_first_refusal : (a b : Net) (cs : List Command) → outline_of a ≡ outline_of b → first_refusal a cs ≡ first_refusal b cs
same_first_refusal a b [] is = refl
same_first_refusal a b (c ∷ cs) is =
    let same : refusal_of a c ≡ refusal_of b c = same_refusal a b c is in
    let next : outline_of (changed a c) ≡ outline_of (changed b c) = outline_changed a c ∙ (ap (λ (o : Outlined). outline_after o c) is ∙ sym (outline_changed b c)) in
    ap (λ (o : Option Refusal). cond (is_none o) (first_refusal (changed a c) cs) o) same ∙ ap (λ (o : Option Refusal). cond (is_none (refusal_of b c)) o (refusal_of b c)) (same_first_refusal (changed a c) (changed b c) cs next)

-- a number that no node has is no landmark's
pub unmarked_beyond : (outline : Outlined) (x : ℕ) → IsOutline outline → is_node_among outline.nodes x ≡ false → is_member x outline.landmarks ≡ false
unmarked_beyond outline x there beyond =
    is_member-beyond outline.nodes x outline.landmarks
    (subst (λ (o : Outlined). All (λ y. (1 ≤ y) × (y ≤ o.nodes)) o.landmarks) there.2 (there.1).each_landmark)
    (λ node. true≢false (sym (node_passes (record { nodes = outline.nodes; arcs = []; landmarks = []; room = 0 }) x node) ∙ beyond))
