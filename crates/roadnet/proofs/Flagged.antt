-- For each arc whether it is open: these flags after commands, and before them again.
use Rattle.std.proofs.Common.{◌≡◌, ◌∙◌, ℕ, zero, suc, ◌+◌, ◌-◌, ◌<◌, Bool, true, false, List, [], ◌∷◌, ◌++◌, Option, Some, None, length, get_or, map, take, fold, refl, ap, sym, subst, arith, length-append}
use Rattle.std.proofs.Math.Seq.{take-append_seam, take-suc}
use Rattle.std.proofs.lemmas.List.{append-nil, map-append}
use Rattle.std.specs.Prelude.{option_map}
use Rattle.roadnet.specs.declared.commands.Command.{Command}
use Rattle.roadnet.specs.declared.commands.Command.TheVariants.{Set, Close, Reopen, Mark, Unmark, Lay}
use Rattle.roadnet.specs.Batches.{changed_by, changed_landmarks, opened_at}
use Rattle.roadnet.specs.Flags.{changed_flags, flag_before, flags_before, AreFlagsOfAdmitting}
use Rattle.roadnet.specs.Net.{Net, IsNetwork, nth, update_nth}
use Rattle.roadnet.specs.Outlines.{Outlined, outline_of, IsOutline}
use Rattle.roadnet.specs.Groups.{commands_of}
use Rattle.roadnet.specs.Step.{new_arc, refusal_of, changed, step_group, first_refusal}
use Rattle.roadnet.proofs.InTurn.{IsNetwork-changed_by, after_is_changed, commands_of-cons, goes_on, landmarks_all, nodes_kept, prefix_admitted, room_kept}
use Rattle.roadnet.proofs.Outlined.{close_due, due_to_close, due_to_reopen, flag, flag_changed, flags_kept, opened_in, reopen_due}

pub flags : Net → List Bool
flags net = map flag net.arcs

pub flags_changed : (net : Net) (c : Command) → map flag (changed net c).arcs ≡ changed_flags (map flag net.arcs) c
flags_changed net (Set k w) = flags_kept w net.arcs k
flags_changed net (Close k) = flag_changed false net.arcs k
flags_changed net (Reopen k) = flag_changed true net.arcs k
flags_changed net (Mark x) = refl
flags_changed net (Unmark x) = refl
flags_changed net (Lay t h w) = map-append flag net.arcs (new_arc t h w ∷ [])

pub flags_changed_by : (net : Net) (cs : List Command) → map flag (changed_by net cs).arcs ≡ fold changed_flags (map flag net.arcs) cs
flags_changed_by net [] = refl
flags_changed_by net (c ∷ cs) = flags_changed_by (changed net c) cs ∙ ap (λ (fs : List Bool). fold changed_flags fs cs) (flags_changed net c)

-- a flag that is set and set back
set_back : (b a : Bool) (xs : List Bool) (k : ℕ) → nth xs k ≡ Some b → update_nth (λ _. b) (update_nth (λ _. a) xs k) k ≡ xs
set_back b a xs zero is = refl
set_back b a [] (suc k) is = refl
set_back b a (x ∷ xs) (suc zero) is = let e : x ≡ b = cc in ap (λ (y : Bool). y ∷ xs) (sym e)
set_back b a (x ∷ xs) (suc (suc k)) is = ap (λ (l : List Bool). x ∷ l) (set_back b a xs (suc k) is)

was_open : (o : Option Bool) → due_to_close o ≡ None → o ≡ Some true
was_open None due = absurd (let absurdity : ⊥ = cc in absurdity)
was_open (Some true) due = refl
was_open (Some false) due = absurd (let absurdity : ⊥ = cc in absurdity)

was_closed : (o : Option Bool) → due_to_reopen o ≡ None → o ≡ Some false
was_closed None due = absurd (let absurdity : ⊥ = cc in absurdity)
was_closed (Some true) due = absurd (let absurdity : ⊥ = cc in absurdity)
was_closed (Some false) due = refl

last_taken : (xs : List Bool) (x : Bool) → take (length (xs ++ x ∷ []) - 1) (xs ++ x ∷ []) ≡ xs
last_taken xs x =
    let e : length (xs ++ x ∷ []) - 1 ≡ length xs = omega (arith, length-append xs (x ∷ [])) in ap (λ (n : ℕ). take n (xs ++ x ∷ [])) e ∙ take-append_seam xs (x ∷ [])

flag_before_is : (net : Net) (c : Command) → refusal_of net c ≡ None → flag_before (changed_flags (map flag net.arcs) c) c ≡ map flag net.arcs
flag_before_is net (Set k w) none = refl
flag_before_is net (Close k) none = set_back true false (map flag net.arcs) k (sym (opened_in net (outline_of net) k refl) ∙ was_open (opened_at net k) (sym (close_due net k) ∙ none))
flag_before_is net (Reopen k) none = set_back false true (map flag net.arcs) k (sym (opened_in net (outline_of net) k refl) ∙ was_closed (opened_at net k) (sym (reopen_due net k) ∙ none))
flag_before_is net (Mark x) none = refl
flag_before_is net (Unmark x) none = refl
flag_before_is net (Lay t h w) none = last_taken (map flag net.arcs) true

pub flags_before_all : (net : Net) (cs : List Command) → first_refusal net cs ≡ None → flags_before (fold changed_flags (map flag net.arcs) cs) cs ≡ map flag net.arcs
flags_before_all net [] none = refl
flags_before_all net (c ∷ cs) none =
    let on : (refusal_of net c ≡ None) × (first_refusal (changed net c) cs ≡ None) = goes_on (refusal_of net c) (first_refusal (changed net c) cs) none in
    ap (λ (fs : List Bool). flag_before (flags_before (fold changed_flags fs cs) cs) c) (sym (flags_changed net c))
    ∙ (ap (λ (fs : List Bool). flag_before fs c) (flags_before_all (changed net c) cs on.1 ∙ flags_changed net c) ∙ flag_before_is net c on.0)

-- what changed flags are taken back to, from admitted commands so far
pub taken_back : (fs : List Bool) (cs : List Command) (i : ℕ) → AreFlagsOfAdmitting fs cs → flags_before (fold changed_flags fs (take i cs)) (take i cs) ≡ fs
taken_back fs cs i (net, is, none) =
    subst (λ (l : List Bool). flags_before (fold changed_flags l (take i cs)) (take i cs) ≡ l) is (flags_before_all net (take i cs) (prefix_admitted net cs i none))

pub taken_back_all : (fs : List Bool) (cs : List Command) → AreFlagsOfAdmitting fs cs → flags_before (fold changed_flags fs cs) cs ≡ fs
taken_back_all fs cs (net, is, none) = subst (λ (l : List Bool). flags_before (fold changed_flags l cs) cs ≡ l) is (flags_before_all net cs none)

-- the last command is taken back first
flags_before-append : (fs : List Bool) (xs ys : List Command) → flags_before fs (xs ++ ys) ≡ flags_before (flags_before fs ys) xs
flags_before-append fs [] ys = refl
flags_before-append fs (x ∷ xs) ys = ap (λ (l : List Bool). flag_before l x) (flags_before-append fs xs ys)

pub one_back : (fs : List Bool) (cs : List Command) (i : ℕ) (d : Command) → i < length cs → flags_before (flag_before fs (get_or cs i d)) (take i cs) ≡ flags_before fs (take (i + 1) cs)
one_back fs cs i d lt =
    let e : i + 1 ≡ suc i = omega arith in
    sym (ap (flags_before fs) (ap (λ (n : ℕ). take n cs) e ∙ take-suc cs i d lt) ∙ flags_before-append fs (take i cs) (get_or cs i d ∷ []))

-- ---- outlines
same_outline : (net : Net) (a : List Bool) (l : List ℕ) (n r : ℕ) → net.nodes ≡ n → map flag net.arcs ≡ a → net.landmarks ≡ l → net.room ≡ r → outline_of net ≡ record { nodes = n; opened = a; landmarks = l; room = r }
same_outline net a l n r p q s t = rw (← p, ← q, ← s, ← t) refl

pub outline_changed_by : (net : Net) (outline : Outlined) (cs : List Command) (opened : List Bool) (landmarks : List ℕ) → outline_of net ≡ outline → opened ≡ fold changed_flags outline.opened cs → landmarks ≡ fold changed_landmarks outline.landmarks cs
    → outline_of (changed_by net cs) ≡ record { nodes = outline.nodes; opened = opened; landmarks = landmarks; room = outline.room }
outline_changed_by net outline cs opened landmarks of opened_is landmarks_is =
    same_outline (changed_by net cs) opened landmarks outline.nodes outline.room
    (nodes_kept net cs ∙ ap (λ (o : Outlined). o.nodes) of)
    (flags_changed_by net cs ∙ (ap (λ (o : Outlined). fold changed_flags o.opened cs) of ∙ sym opened_is))
    (landmarks_all net cs ∙ (ap (λ (o : Outlined). fold changed_landmarks o.landmarks cs) of ∙ sym landmarks_is))
    (room_kept net cs ∙ ap (λ (o : Outlined). o.room) of)

module _ (net : Net) (outline : Outlined) (cs : List Command) (opened : List Bool) (landmarks : List ℕ) (of : outline_of net ≡ outline) (none : first_refusal net cs ≡ None) (opened_is : opened ≡ fold changed_flags outline.opened cs) (landmarks_is : landmarks ≡ fold changed_landmarks outline.landmarks cs) where
  pub outline_kept : IsNetwork net → IsOutline (record { nodes = outline.nodes; opened = opened; landmarks = landmarks; room = outline.room })
  outline_kept ok = (changed_by net cs, IsNetwork-changed_by net cs ok none, outline_changed_by net outline cs opened landmarks of opened_is landmarks_is)

  pub steps_by : option_map outline_of (step_group net cs) ≡ Some (record { nodes = outline.nodes; opened = opened; landmarks = landmarks; room = outline.room })
  steps_by = ap (option_map outline_of) (after_is_changed net cs none) ∙ ap Some (outline_changed_by net outline cs opened landmarks of opened_is landmarks_is)

-- a flag that no arc has
pub update_beyond : (f : Bool → Bool) (xs : List Bool) (k : ℕ) → length xs < k → update_nth f xs k ≡ xs
update_beyond f xs zero lt = refl
update_beyond f [] (suc k) lt = refl
update_beyond f (x ∷ xs) (suc zero) lt = absurd (omega arith)
update_beyond f (x ∷ xs) (suc (suc k)) lt = ap (λ (l : List Bool). x ∷ l) (update_beyond f xs (suc k) (omega arith))

-- the commands of one group
pub commands_of_one : (gs : List (List Command)) (g : List Command) → gs ≡ g ∷ [] → commands_of gs ≡ g
commands_of_one gs g is = ap commands_of is ∙ (commands_of-cons g [] ∙ append-nil g)
