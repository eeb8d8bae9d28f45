use Rattle.std.proofs.Common.{take}
use Rattle.frontier.specs.Entries.{entry_count}
use Rattle.deltastep.specs.Guided.{KeepsWindow, stands_in}
use Rattle.deltastep.proofs.Guiding.{HasMet}
use Rattle.deltastep.proofs.questions.guided.KeyedSearch.relax_part.Given as goal

-- the legs so far are met
abbrev pub invariant-loop-leg : goal.invariant-loop-leg
invariant-loop-leg g l = record {
  met : HasMet l.snapshot (g.G.Guide.target l.guide) l.fn.self.ring.delta l.start l.node l.value (take l.leg-index l.leg-items) l.fn.self.tentative (stands_in l.fn.self.ring) (entry_count l.fn.self.ring.lists.items) l.self.tentative (stands_in l.self.ring) (entry_count l.self.ring.lists.items);
  keeps : KeepsWindow l.fn.self.ring l.self.ring;
}
