-- Changes of arcs that are noted and taken back.
use Rattle.std.proofs.Common.{◌≡◌, ◌∙◌, ℕ, zero, suc, ◌+◌, ◌-◌, ◌<◌, ◌≤◌, List, [], ◌∷◌, ◌++◌, Some, None, length, get_or, set, take, refl, ap, sym, subst, arith, length-append}
use Rattle.std.specs.List.{All}
use Rattle.std.proofs.lemmas.List.{set-get_or, set-set}
use Rattle.std.proofs.Math.Seq.{drop-append_seam, take-append_seam}
use Rattle.std.proofs.lemmas.List.Elements.{All-drop, All-take}
use Rattle.roadnet.specs.declared.arcs.RoadArc.{RoadArc}
use Rattle.roadnet.specs.declared.undoing.Earlier.{Earlier}
use Rattle.roadnet.specs.declared.undoing.Earlier.TheVariants.{Was, Added}
use Rattle.roadnet.specs.Net.{nth, update_nth}
use Rattle.roadnet.specs.Undoing.{restored_one, restored}
use Rattle.roadnet.specs.declared.commands.Command.{Command}
use Rattle.roadnet.specs.Groups.{commands_of}
use Rattle.roadnet.proofs.InTurn.{commands_of-cons}

-- the last change is taken back first
pub restored-append : (xs ys : List Earlier) (arcs : List RoadArc) → restored (xs ++ ys) arcs ≡ restored xs (restored ys arcs)
restored-append [] ys arcs = refl
restored-append (x ∷ xs) ys arcs = ap (λ (l : List RoadArc). restored_one l x) (restored-append xs ys arcs)

-- an arc that is put back
pub put_back : (notes : List Earlier) (arcs : List RoadArc) (place : ℕ) (arc was : RoadArc) → was ≡ get_or arcs place was → restored (notes ++ Was place was ∷ []) (set arcs place arc) ≡ restored notes arcs
put_back notes arcs place arc was is =
    restored-append notes (Was place was ∷ []) (set arcs place arc) ∙ ap (restored notes) (set-set arcs place arc was ∙ (ap (λ (a : RoadArc). set arcs place a) is ∙ set-get_or arcs place was))

-- an arc that is taken away again
pub taken_away : (notes : List Earlier) (arcs : List RoadArc) (arc : RoadArc) → restored (notes ++ Added ∷ []) (arcs ++ arc ∷ []) ≡ restored notes arcs
taken_away notes arcs arc =
    let e : length (arcs ++ arc ∷ []) - 1 ≡ length arcs = omega (arith, length-append arcs (arc ∷ [])) in
    restored-append notes (Added ∷ []) (arcs ++ arc ∷ []) ∙ ap (restored notes) (ap (λ (n : ℕ). take n (arcs ++ arc ∷ [])) e ∙ take-append_seam arcs (arc ∷ []))

-- the arc of number k in its place
pub update_there : (f : RoadArc → RoadArc) (arcs : List RoadArc) (k : ℕ) (arc : RoadArc) → nth arcs k ≡ Some arc → update_nth f arcs k ≡ set arcs (k - 1) (f arc)
update_there f arcs zero arc is = absurd (let absurdity : ⊥ = cc in absurdity)
update_there f [] (suc k) arc is = absurd (let absurdity : ⊥ = cc in absurdity)
update_there f (x ∷ xs) (suc zero) arc is = let e : x ≡ arc = cc in ap (λ (a : RoadArc). f a ∷ xs) e
update_there f (x ∷ xs) (suc (suc k)) arc is =
    let e : suc (suc k) - 1 ≡ suc k = omega arith in
    let d : suc k - 1 ≡ k = omega arith in
    rw e (ap (λ (l : List RoadArc). x ∷ l) (update_there f xs (suc k) arc is ∙ ap (λ (i : ℕ). set xs i (f arc)) d))

pub update_nowhere : (f : RoadArc → RoadArc) (arcs : List RoadArc) (k : ℕ) → nth arcs k ≡ None → update_nth f arcs k ≡ arcs
update_nowhere f arcs zero none = refl
update_nowhere f [] (suc k) none = refl
update_nowhere f (x ∷ xs) (suc zero) none = absurd (let absurdity : ⊥ = cc in absurdity)
update_nowhere f (x ∷ xs) (suc (suc k)) none = ap (λ (l : List RoadArc). x ∷ l) (update_nowhere f xs (suc k) none)

pub there_within : (arcs : List RoadArc) (k : ℕ) (arc : RoadArc) → nth arcs k ≡ Some arc → k - 1 < length arcs
there_within arcs zero arc is = absurd (let absurdity : ⊥ = cc in absurdity)
there_within [] (suc k) arc is = absurd (let absurdity : ⊥ = cc in absurdity)
there_within (x ∷ xs) (suc zero) arc is = omega arith
there_within (x ∷ xs) (suc (suc k)) arc is = let rest : suc k - 1 < length xs = there_within xs (suc k) arc is in omega arith

-- what a change that is taken back leaves
pub was_taken : (old new : List Earlier) (arcs : List RoadArc) (place : ℕ) (arc : RoadArc) → old ≡ new ++ Was place arc ∷ [] → restored new (set arcs place arc) ≡ restored old arcs
was_taken old new arcs place arc is = sym (ap (λ (l : List Earlier). restored l arcs) is ∙ restored-append new (Was place arc ∷ []) arcs)

pub added_taken : (old new : List Earlier) (arcs : List RoadArc) → old ≡ new ++ Added ∷ [] → restored new (take (length arcs - 1) arcs) ≡ restored old arcs
added_taken old new arcs is = sym (ap (λ (l : List Earlier). restored l arcs) is ∙ restored-append new (Added ∷ []) arcs)

-- a place that a list has not changes nothing
pub set_beyond : {X : Type 0} (xs : List X) (i : ℕ) (x : X) → length xs ≤ i → set xs i x ≡ xs
set_beyond [] i x le = refl
set_beyond (y ∷ ys) zero x le = absurd (omega arith)
set_beyond (y ∷ ys) (suc i) x le = ap (λ l. y ∷ l) (set_beyond ys i x (omega arith))

front_all : (P : Command → Type 0) (xs ys : List Command) → All P (xs ++ ys) → All P xs
front_all P xs ys all = subst (λ (l : List Command). All P l) (take-append_seam xs ys) (All-take P (length xs) (xs ++ ys) all)

back_all : (P : Command → Type 0) (xs ys : List Command) → All P (xs ++ ys) → All P ys
back_all P xs ys all = subst (λ (l : List Command). All P l) (drop-append_seam xs ys) (All-drop P (length xs) (xs ++ ys) all)

-- what holds of the commands of groups holds of each group's
pub group_all : (P : Command → Type 0) (gs : List (List Command)) (i : ℕ) (d : List Command) → i < length gs → All P (commands_of gs) → All P (get_or gs i d)
group_all P [] i d lt all = absurd (omega arith)
group_all P (g ∷ gs) zero d lt all = front_all P g (commands_of gs) (subst (λ (l : List Command). All P l) (commands_of-cons g gs) all)
group_all P (g ∷ gs) (suc i) d lt all = group_all P gs i d (omega arith) (back_all P g (commands_of gs) (subst (λ (l : List Command). All P l) (commands_of-cons g gs) all))
