use Rattle.std.proofs.Common.{◌≡◌, ◌+◌, ◌≤◌, ◌⊎◌, Contains, sym, subst, inl, inr, arith}
use Rattle.std.proofs.lemmas.Bool.{cases_eq}
use Rattle.snapshot.specs.Groups.{legs_of}
use Rattle.snapshot.specs.declared.legs.Part.{Part}
use Rattle.deltastep.proofs.Resuming.{AreChanged-all}
use Rattle.deltastep.proofs.repairs.changed.changed_nodes.Goals as goal

pub loop-place-preserved : goal.loop-place-preserved
loop-place-preserved c u low high =
    let before = c.args.before.now in
    let after = c.args.after.now in
    let Goal = Contains c.add_changed.new.changed.items u ⊎ ((part : Part) → legs_of before part u ≡ legs_of after part u) in
    elim (cases_eq u (c.loop-place.place + 1)) as (λ _. Goal) [
      | inl e ↦ subst (λ v. Contains c.add_changed.new.changed.items v ⊎ ((part : Part) → legs_of before part v ≡ legs_of after part v)) (sym e) c.in_ok-add_changed.ensures.added
      | inr ne ↦ elim (c.loop-place.invariant u low (omega arith)) as (λ _. Goal) [
        | inl there ↦ inl (c.in_ok-add_changed.ensures.kept u there)
        | inr same ↦ inr same
      ]
    ]

pub returns : goal.returns
returns c =
    AreChanged-all c.args.before.now c.args.after.now c.loop-place.changed.items c.nodes.ensures.grouped c.nodes-2.ensures.grouped c.requires.nodes (λ u low high.
    let within : u ≤ c.loop-place.place = omega (arith, c.nodes.ensures.value, c.nodes-2.ensures.value, c.min-nodes.ensures, c.requires.nodes) in
    c.loop-place.invariant u low within)
