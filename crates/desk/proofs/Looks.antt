-- Views of one desk.
use Rattle.std.proofs.Common.{◌≡◌, ◌∙◌, List, length, Option, Some, sym, ap, subst, arith}
use Rattle.std.specs.Prelude.{unwrap_or}
use mathlib.Core.List.{IsPrefix}
use Rattle.roadnet.specs.declared.groups.Group.{Group}
use Rattle.roadnet.specs.Step.{after}
use Rattle.rows.specs.Views.{Viewed}
use Rattle.history.specs.Origins.{Origin, Beginning}
use Rattle.history.proofs.Beginnings.{prefix_whole, prefix_trans}
use Rattle.desk.specs.Readings.{IsViewAfter, HasSeen}

some_one : {A : Type 0} (x y : A) → Some x ≡ Some y → x ≡ y
some_one {A} x y is = ap (λ (o : Option A). unwrap_or o y) is

-- of the same version, after lists of which one begins the other, they are of the same network
pub same_network : (origin : Origin) (seen now : List Group) (old new : Viewed) → IsViewAfter origin seen old → IsViewAfter origin now new → IsPrefix seen now → new.version ≡ old.version → new.network ≡ old.network
same_network origin seen now old new was is begins same =
    let counts : length seen ≡ length now = let a = was.version in let b = is.version in omega (arith, a, b, same) in
    let whole : seen ≡ now = prefix_whole seen now begins (omega (arith, counts)) in
    some_one new.network old.network (sym is.network ∙ (ap (after origin.base) (sym whole) ∙ was.network))

-- what it has seen is begun by all that it knows later
pub still_seen : (known now : Beginning) (view : Viewed) → now.origin ≡ known.origin → IsPrefix known.groups now.groups → HasSeen (record { known = known; view = view }) → HasSeen (record { known = now; view = view })
still_seen known now view same begins has = record {
  seen = has.seen;
  begins = prefix_trans has.seen known.groups now.groups has.begins begins;
  after_seen = subst (λ (o : Origin). IsViewAfter o has.seen view) (sym same) has.after_seen;
}
