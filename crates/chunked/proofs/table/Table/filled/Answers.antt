use Rattle.std.proofs.Common.{◌∙◌, ◌++◌, [], ◌∷◌, map, ap, ap₂}
use Rattle.std.proofs.lemmas.List.{map-append, replicate-append-replicate}
use Rattle.chunked.proofs.table.Table.filled.Goals as goal

pub loop-k-init : goal.loop-k-init
loop-k-init g c = ap (map (λ item. item.value)) c.in_ok-items.ensures.items

pub loop-k-preserved : goal.loop-k-preserved
loop-k-preserved g c =
    ap (map (λ item. item.value)) c.in_ok-push.ensures.items
    ∙ (map-append (λ item. item.value) c.loop-k.items.items (c.in_ok-clone.field-0 ∷ [])
    ∙ (ap₂ (λ xs x. xs ++ x ∷ []) c.loop-k.invariant c.in_ok-clone.ensures.cases ∙ replicate-append-replicate c.loop-k._k 1 c.args.item.now.value))
