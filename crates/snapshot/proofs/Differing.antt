-- An index, and the legs of nodes, in a newer network.
use Rattle.std.proofs.Common.{◌≡◌, ◌⊎◌, ◌∙◌, ℕ, zero, suc, ◌+◌, ◌/◌, ◌<◌, Bool, cond, List, [], ◌∷◌, length, get_or, map, take, Vec, Global, refl, inl, inr, ap, ap₂, sym, subst, arith, eqb, ⊎_elim, Contains}
use Rattle.std.specs.List.{AllZip}
use Rattle.std.specs.declared.sync.Arc.{Arc}
use Rattle.std.proofs.lemmas.Bool.{cases_eq}
use Rattle.std.proofs.lemmas.List.{get_or-take, length-take-le, take_all}
use Rattle.roadnet.specs.declared.arcs.RoadArc.{RoadArc}
use Rattle.roadnet.specs.Ends.{KeepsEnds}
use Rattle.roadnet.specs.Net.{Net}
use Rattle.snapshot.specs.Blocks.{AreArcsByBlock, DiffersOnlyAt, is_of_block, places_of_block, block_count}
use Rattle.std.proofs.lemmas.Option.{slice_get-get_or}
use Rattle.snapshot.specs.Groups.{Groups, legs_in, legs_of, IsSnapshotOf}
use Rattle.snapshot.specs.Changes.{HasTailsOf}
use Rattle.snapshot.specs.declared.legs.Part.{Part}
use Rattle.std.proofs.lemmas.List.Elements.{Contains-append_right}
use Rattle.snapshot.proofs.Unchanged.{tail_stays, no_fewer, legs-unchanged}

places-same : (block i : ℕ) (xs ys : List RoadArc) → length xs ≡ length ys → ((k : ℕ) (d : RoadArc) → k < length xs → (get_or ys k d).tail ≡ (get_or xs k d).tail) → places_of_block block i xs ≡ places_of_block block i ys
places-same block i [] [] size same = refl
places-same block i [] (y ∷ ys) size same = absurd (omega arith)
places-same block i (x ∷ xs) [] size same = absurd (omega arith)
places-same block i (x ∷ xs) (y ∷ ys) size same =
    let here : is_of_block block x ≡ is_of_block block y = ap (λ t. eqb (t / 1024) block) (sym (same 0 x (omega arith))) in
    let rest : places_of_block block (i + 1) xs ≡ places_of_block block (i + 1) ys = places-same block (i + 1) xs ys (omega arith) (λ k d h. same (suc k) d (omega arith)) in
    ap₂ (λ (b : Bool) (l : List ℕ). cond b (i ∷ l) l) here rest

-- The index of a network's arcs has the older arcs of each newer one.
pub index_stays : (old new : Net) (places : List (List ℕ)) → KeepsEnds old new → AreArcsByBlock old.nodes old.arcs places → AreArcsByBlock new.nodes (take (length old.arcs) new.arcs) places
index_stays old new places keeps index =
    let long : length old.arcs ≡ length (take (length old.arcs) new.arcs) = sym (length-take-le (length old.arcs) new.arcs (no_fewer old new keeps)) in
    let same : (block : ℕ) → places_of_block block 0 old.arcs ≡ places_of_block block 0 (take (length old.arcs) new.arcs) = λ block. places-same block 0 old.arcs (take (length old.arcs) new.arcs) long (λ k d h. ap (λ (a : RoadArc). a.tail) (get_or-take (length old.arcs) new.arcs k d h) ∙ (tail_stays old new keeps k d h).1) in
    record {
      blocks = index.blocks ∙ ap block_count (sym keeps.nodes);
      each = λ block h. index.each block (omega (arith, ap block_count keeps.nodes)) ∙ same block;
    }

-- shares of lists are the same lists
pub same_lists : (lists others : List (Arc (Vec ℕ Global) Global)) → AllZip (λ (one other : Arc (Vec ℕ Global) Global). other.value ≡ one.value) lists others → map (λ (list : Arc (Vec ℕ Global) Global). list.value.items) others ≡ map (λ (list : Arc (Vec ℕ Global) Global). list.value.items) lists
same_lists [] [] h = refl
same_lists [] (other ∷ others) h = absurd h
same_lists (list ∷ lists) [] h = absurd h
same_lists (list ∷ lists) (other ∷ others) h = ap₂ (λ (xs : List ℕ) (l : List (List ℕ)). xs ∷ l) (ap (λ (v : Vec ℕ Global). v.items) h.0) (same_lists lists others h.1)

-- the same index, where no arc was laid
pub index_onward : (old new : Net) (places : List (List ℕ)) → KeepsEnds old new → length new.arcs ≡ length old.arcs → AreArcsByBlock old.nodes old.arcs places → AreArcsByBlock new.nodes new.arcs places
index_onward old new places keeps many index =
    subst (λ (arcs : List RoadArc). AreArcsByBlock new.nodes arcs places) (take_all (length old.arcs) new.arcs (omega (arith, many))) (index_stays old new places keeps index)

nowhere : (x u : ℕ) (xs : List ℕ) → (x ≡ u → ⊥) → (Contains xs u → ⊥) → Contains (x ∷ xs) u → ⊥
nowhere x u xs ne not_there (zero, within, e) = ne e
nowhere x u xs ne not_there (suc k, within, e) = not_there (k, omega arith, e)

among_or_not : (xs : List ℕ) (u : ℕ) → Contains xs u ⊎ (Contains xs u → ⊥)
among_or_not [] u = inr (λ (k, within, e). omega arith)
among_or_not (x ∷ xs) u =
    ⊎_elim
    (λ (here : x ≡ u). inl (0, omega arith, here))
    (λ (ne : x ≡ u → ⊥).
    ⊎_elim
    (λ (c : Contains xs u). inl (Contains-append_right (x ∷ []) xs u c))
    (λ (not_there : Contains xs u → ⊥). inr (nowhere x u xs ne not_there))
    (among_or_not xs u))
    (cases_eq x u)

-- Of a node that none of the changed arcs leaves, the snapshots of the older and the newer network have the same legs.
pub legs_stay : (old new : Net) (before after : Groups) (numbers nodes : List ℕ) → KeepsEnds old new → DiffersOnlyAt numbers old new → IsSnapshotOf old before → IsSnapshotOf new after → after.delta ≡ before.delta → HasTailsOf new numbers nodes → (u : ℕ) → Contains nodes u ⊎ ((part : Part) → legs_of before part u ≡ legs_of after part u)
legs_stay old new before after numbers nodes keeps only was is same tails u =
    ⊎_elim
    (λ (c : Contains nodes u). inl c)
    (λ (not_there : Contains nodes u → ⊥).
    inr (λ part.
    let stays : legs_in old.arcs before.delta part u ≡ legs_in new.arcs before.delta part u = legs-unchanged old new numbers keeps only before.delta part u (λ place d h among own.
    not_there (subst (Contains nodes) own (tails (suc place) (get_or new.arcs place d) among (slice_get-get_or new.arcs place d h)))) in
    was.legs part u ∙ (stays ∙ (ap (λ delta. legs_in new.arcs delta part u) (sym same) ∙ sym (is.legs part u)))))
    (among_or_not nodes u)
