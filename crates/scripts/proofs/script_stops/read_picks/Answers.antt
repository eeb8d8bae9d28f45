use Rattle.std.proofs.Common.{ℕ, List, [], ◌∷◌, ◌++◌, ◌+◌, ◌∙◌, sym, ap, length-append}
use Rattle.dimacs.specs.Lines.{fields}
use Rattle.scripts.proofs.ScriptPicks.{one_pick_more}
use Rattle.scripts.proofs.script_stops.read_picks.Goals as goal

pub loop-preserved : goal.loop-preserved
loop-preserved c =
    let taken = c.loop.invariant.taken in
    let field = c.in-Some.field.now in
    record {
      taken = taken ++ field ∷ [];
      has = one_pick_more (fields c.args.behind.now) taken c.loop.read c.take.new.self field c.in-Some-read_pick.pick c.loop.invariant.has
          (c.in-Some.ensures ∙ ap (λ (r : List ℕ). field ∷ fields r) (sym c.take.ensures.rest)) c.in-Some-read_pick.ensures c.take.ensures.picks c.take.ensures.in_range;
      count = length-append taken (field ∷ []) ∙ ap (λ (n : ℕ). n + 1) c.loop.invariant.count;
      places = c.take.ensures.count ∙ ap (λ (n : ℕ). n + 1) c.loop.invariant.places;
    }
