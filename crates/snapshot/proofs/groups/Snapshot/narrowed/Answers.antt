use Rattle.std.proofs.Common.{subst, arith}
use Rattle.std.specs.List.{flat_map}
use Rattle.snapshot.specs.Groups.{Groups, IsNarrowed, parts_of}
use Rattle.snapshot.proofs.Narrowing.{IsGrouped-narrowed, IsNarrowed-of, with_parts}
use Rattle.snapshot.proofs.Shared.{parts_in}
use Rattle.snapshot.proofs.groups.Snapshot.narrowed.Goals as goal

pub invariant_of-result : goal.invariant_of-result
invariant_of-result c =
    let s = c.self.inside in
    let inv = c.self.invariant in
    rw c.in_ok-blocks.ensures.cases
    (inv.0, IsGrouped-narrowed s.nodes s.delta s.greatest s.narrow (flat_map parts_in s.blocks.value) s.joined s.joins c.if-self.false inv.1 inv.2.0 inv.2.1, (inv.2.0, omega arith))

pub returns : goal.returns
returns c =
    let s = c.self.inside in
    subst (λ (v : Groups). IsNarrowed v (with_parts s.nodes s.narrow s.greatest (parts_of s.joins (flat_map parts_in c.in_ok-blocks.blocks.value)))) c.self.view_is
    (rw c.in_ok-blocks.ensures.cases (IsNarrowed-of s.nodes s.delta s.greatest s.narrow (flat_map parts_in s.blocks.value) s.joined s.joins c.if-self.false c.self.invariant.2.1))
