use Rattle.std.proofs.Common.{◌≡◌, ℕ, [], Bool, true, false, subst, refl}
use Rattle.std.specs.Bool.{OnTrue}
use Rattle.std.specs.List.{flat_map}
use Rattle.snapshot.specs.Groups.{Groups, legs_of}
use Rattle.snapshot.specs.declared.legs.Part.TheVariants.{Heavy}
use Rattle.snapshot.proofs.Narrowing.{none_is_heavy}
use Rattle.snapshot.proofs.Shared.{parts_in}
use Rattle.snapshot.proofs.groups.Snapshot.is_joined.Goals as goal

on_true_of : (b : Bool) (P : Type 0) → (b ≡ true → P) → OnTrue b P
on_true_of true P f = f refl
on_true_of false P f = tt

pub returns : goal.returns
returns c =
    let s = c.self.inside in
    on_true_of s.joined ((u : ℕ) → legs_of c.args.self.now Heavy u ≡ []) (λ e. subst (λ (v : Groups). (u : ℕ) → legs_of v Heavy u ≡ []) c.self.view_is (none_is_heavy s.nodes s.delta s.greatest s.narrow (flat_map parts_in s.blocks.value) s.joined e))
