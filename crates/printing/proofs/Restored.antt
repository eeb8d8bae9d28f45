-- A network whose arcs are opened, and whose closed arcs are closed again, is as it was.
use Rattle.std.proofs.Common.{◌≡◌, ◌∙◌, ℕ, ◌+◌, suc, Bool, true, false, not, cond, List, [], ◌∷◌, ◌++◌, length, map, Some, refl, sym, ap, arith, append_assoc}
use Rattle.std.specs.Prelude.{slice_get, filter}
use Rattle.std.specs.List.{enumerate_from}
use Rattle.std.proofs.lemmas.List.{length-append}
use Rattle.roadnet.specs.declared.arcs.RoadArc.{RoadArc}
use Rattle.roadnet.specs.declared.commands.Command.TheVariants.{Close}
use Rattle.roadnet.specs.Net.{Net, update_nth}
use Rattle.roadnet.specs.Step.{after, step}
use Rattle.printing.specs.Exports.{opened_arc, closings, ClosingRestores}

-- the arc behind these
arc_behind : (front : List RoadArc) (arc : RoadArc) (back : List RoadArc) → slice_get (front ++ arc ∷ back) (length front) ≡ Some arc
arc_behind [] arc back = refl
arc_behind (x ∷ xs) arc back = arc_behind xs arc back

changed_behind : (f : RoadArc → RoadArc) (front : List RoadArc) (arc : RoadArc) (back : List RoadArc) → update_nth f (front ++ arc ∷ back) (suc (length front)) ≡ front ++ f arc ∷ back
changed_behind f [] arc back = refl
changed_behind f (x ∷ xs) arc back = ap (λ (l : List RoadArc). x ∷ l) (changed_behind f xs arc back)

-- with these arcs
abbrev having : Net → List RoadArc → Net
having net arcs = record net { arcs = arcs }

one_closed : (net : Net) (front : List RoadArc) (arc : RoadArc) (back : List RoadArc) → arc.opened ≡ false
    → step (having net (front ++ opened_arc arc ∷ back)) (Close (suc (length front))) ≡ Some (having net (front ++ arc ∷ back))
one_closed net front arc back shut =
    let found = arc_behind front (opened_arc arc) back in
    let closed : record (opened_arc arc) { opened = false } ≡ arc = ap (λ (b : Bool). record arc { opened = b }) (sym shut) in
    rw found (rw (changed_behind (λ (a : RoadArc). record a { opened = false }) front (opened_arc arc) back) (ap (λ (a : RoadArc). Some (having net (front ++ a ∷ back))) closed))

abbrev numbers : ℕ → List RoadArc → List ℕ
numbers n arcs = map (λ (p : ℕ × RoadArc). p.0) (filter (λ (p : ℕ × RoadArc). not p.1.opened) (enumerate_from n arcs))

all_closed : (net : Net) (n : ℕ) (front back : List RoadArc) → n ≡ suc (length front) → after (having net (front ++ map opened_arc back)) (closings (numbers n back)) ≡ Some (having net (front ++ back))
all_closed net n front [] at = refl
all_closed net n front (arc ∷ back) at =
    let longer = length-append front (arc ∷ []) in
    let next : n + 1 ≡ suc (length (front ++ arc ∷ [])) = omega (arith, at, longer) in
    let from : (l : List RoadArc) → front ++ arc ∷ l ≡ (front ++ arc ∷ []) ++ l = λ l. sym (append_assoc front (arc ∷ []) l) in
    let later : after (having net (front ++ arc ∷ map opened_arc back)) (closings (numbers (n + 1) back)) ≡ Some (having net (front ++ arc ∷ back)) =
    rw (from (map opened_arc back), from back) (all_closed net (n + 1) (front ++ arc ∷ []) back next) in
    by arc.opened refl later
  where
    more : List (ℕ × RoadArc)
    more = filter (λ (p : ℕ × RoadArc). not p.1.opened) (enumerate_from (n + 1) back)

    by : (b : Bool) → arc.opened ≡ b → after (having net (front ++ arc ∷ map opened_arc back)) (closings (numbers (n + 1) back)) ≡ Some (having net (front ++ arc ∷ back))
        → after (having net (front ++ opened_arc arc ∷ map opened_arc back)) (closings (map (λ (p : ℕ × RoadArc). p.0) (cond (not b) ((n, arc) ∷ more) more))) ≡ Some (having net (front ++ arc ∷ back))
    by true is later =
        let same : opened_arc arc ≡ arc = ap (λ (b : Bool). record arc { opened = b }) (sym is) in
        rw same later
    by false shut later =
        let here : step (having net (front ++ opened_arc arc ∷ map opened_arc back)) (Close n) ≡ Some (having net (front ++ arc ∷ map opened_arc back)) =
        ap (λ (k : ℕ). step (having net (front ++ opened_arc arc ∷ map opened_arc back)) (Close k)) at ∙ one_closed net front arc (map opened_arc back) shut in
        rw here later

pub closing_restores : ClosingRestores
closing_restores net = all_closed net 1 [] net.arcs refl
