use Rattle.std.proofs.Common.{◌≡◌, ℕ, take, Contains, Some}
use Rattle.relax.specs.Values.{value_at}
use Rattle.snapshot.specs.declared.legs.Part.{Part}
use Rattle.deltastep.specs.Guided.{GoesOnTo, HasDone, KeepsWindow}
use Rattle.deltastep.proofs.questions.guided.KeyedSearch.relax_all.Given as goal

-- the nodes of the live entries so far are done
abbrev pub invariant-loop-entry : goal.invariant-loop-entry
invariant-loop-entry g l = record {
  goes_on : GoesOnTo l.snapshot (g.G.Guide.target l.guide) l.start l.fn.self l.self;
  done : (part : Part) (e : ℕ × ℕ) → Contains (take l.entry-index l.entries) e → value_at l.self.tentative e.0 ≡ Some e.1 → HasDone l.snapshot part l.self e.0;
  keeps : KeepsWindow l.fn.self.ring l.self.ring;
}
