use Rattle.std.proofs.Common.{rules, ◌≡◌, ◌∙◌, ℕ, List, Option, None, Some, ap, sym, subst}
use Rattle.std.specs.Prelude.{IfSome}
use Rattle.desk.specs.declared.handles.shelves.KeptRow.{KeptRow}
use Rattle.desk.specs.Shelves.{IsShelfOf, IsOfShelf, IsKeptRowAt, HasRow}
use Rattle.desk.proofs.Shelved.{has_last, of_shelf, shelf_with, shelf_without}
use Rattle.desk.proofs.handles.shelves.Shelf.row.Goals as goal

pub invariant_of-self : goal.invariant_of-self
invariant_of-self g c =
    let origin = g.N.Naming.origin in
    let groups = c.self.inside.groups in
    let rows = c.self.inside.rows.items in
    let place = c.in_ok-place.place in
    let there : IsKeptRowAt c.args.source rows place = subst (λ (all : List KeptRow). IsKeptRowAt c.args.source all place) c.deref.ensures.value c.in_ok-place.ensures.found in
    let others : IsShelfOf origin groups c.remove-kept.new.self.items = subst (λ (all : List KeptRow). IsShelfOf origin groups all) (sym c.remove-kept.ensures.by_index.2) (shelf_without origin groups rows place there.0 c.self.invariant.0) in
    let row : IsOfShelf origin groups c.remove-kept.result = of_shelf origin groups rows place c.remove-kept.result c.self.invariant.0 there.0 c.remove-kept.ensures.value in
    let shelf : IsShelfOf origin groups c.push_reserved.new.self.items = subst (λ (all : List KeptRow). IsShelfOf origin groups all) (sym c.push_reserved.ensures.items)
    (shelf_with origin groups c.remove-kept.new.self.items c.remove-kept.result others row) in
    (shelf, search rules, search rules, c.self.invariant.3, c.self.invariant.4)

-- what holds in any case
on_any : {X P : Type 0} (found : Option X) → P → IfSome found (λ _. P)
on_any None p = tt
on_any (Some x) p = p

pub returns-clause-kept : goal.returns-clause-kept
returns-clause-kept g c =
    let kept = c.remove-kept.result in
    let there : IsKeptRowAt c.args.source c.self.inside.rows.items c.in_ok-place.place =
    subst (λ (all : List KeptRow). IsKeptRowAt c.args.source all c.in_ok-place.place) c.deref.ensures.value c.in_ok-place.ensures.found in
    let source : kept.source ≡ c.args.source = ap (λ (k : KeptRow). k.source) c.remove-kept.ensures.value ∙ there.1 kept in
    let last : HasRow kept.source c.push_reserved.new.self.items = subst (λ (all : List KeptRow). HasRow kept.source all) (sym c.push_reserved.ensures.items) (has_last c.remove-kept.new.self.items kept) in
    on_any c.match-shared.result (subst (λ (s : ℕ). HasRow s c.push_reserved.new.self.items) source last)
