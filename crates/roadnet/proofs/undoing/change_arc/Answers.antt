use Rattle.std.proofs.Common.{◌∙◌, List, false, true, ap, sym}
use Rattle.roadnet.specs.declared.arcs.RoadArc.{RoadArc}
use Rattle.roadnet.specs.Net.{nth}
use Rattle.roadnet.proofs.TakenBack.{there_within, update_nowhere, update_there}
use Rattle.roadnet.proofs.undoing.change_arc.Goals as goal

pub returns-in_default-clause-ok : goal.returns-in_default-clause-ok
returns-in_default-clause-ok c = rw c.in-Set.is (sym (update_nowhere (λ (arc : RoadArc). record arc { length = c.in-Set.length }) c.args.arcs.now.items c.in-Set.arc (ap (λ (l : List RoadArc). nth l c.in-Set.arc) (sym c.deref.ensures.value) ∙ (sym c.arc_of.ensures ∙ c.in_default.is))))

pub replace_arc-requires : goal.replace_arc-requires
replace_arc-requires c = there_within c.args.arcs.now.items c.in-Set.arc c.in-Some.found (ap (λ (l : List RoadArc). nth l c.in-Set.arc) (sym c.deref.ensures.value) ∙ (sym c.arc_of.ensures ∙ c.in-Some.is))

pub returns-in-Some-clause-ok : goal.returns-in-Some-clause-ok
returns-in-Some-clause-ok c = rw (c.in-Set.is, update_there (λ (arc : RoadArc). record arc { length = c.in-Set.length }) c.args.arcs.now.items c.in-Set.arc c.in-Some.found (ap (λ (l : List RoadArc). nth l c.in-Set.arc) (sym c.deref.ensures.value) ∙ (sym c.arc_of.ensures ∙ c.in-Some.is))) c.replace_arc.ensures.ok

pub returns-in_default-arc_of-clause-ok : goal.returns-in_default-arc_of-clause-ok
returns-in_default-arc_of-clause-ok c = rw c.in-Close.is (sym (update_nowhere (λ (arc : RoadArc). record arc { opened = false }) c.args.arcs.now.items c.in-Close.arc (ap (λ (l : List RoadArc). nth l c.in-Close.arc) (sym c.deref-in-Close.ensures.value) ∙ (sym c.arc_of-in-Close.ensures ∙ c.in_default-arc_of.is))))

pub replace_arc-requires-in-Close : goal.replace_arc-requires-in-Close
replace_arc-requires-in-Close c = there_within c.args.arcs.now.items c.in-Close.arc c.in-Some-arc_of.found (ap (λ (l : List RoadArc). nth l c.in-Close.arc) (sym c.deref-in-Close.ensures.value) ∙ (sym c.arc_of-in-Close.ensures ∙ c.in-Some-arc_of.is))

pub returns-in-Some-arc_of-clause-ok : goal.returns-in-Some-arc_of-clause-ok
returns-in-Some-arc_of-clause-ok c = rw (c.in-Close.is, update_there (λ (arc : RoadArc). record arc { opened = false }) c.args.arcs.now.items c.in-Close.arc c.in-Some-arc_of.found (ap (λ (l : List RoadArc). nth l c.in-Close.arc) (sym c.deref-in-Close.ensures.value) ∙ (sym c.arc_of-in-Close.ensures ∙ c.in-Some-arc_of.is))) c.replace_arc-in-Close.ensures.ok

pub returns-in_default-arc_of-2-clause-ok : goal.returns-in_default-arc_of-2-clause-ok
returns-in_default-arc_of-2-clause-ok c = rw c.in-Reopen.is (sym (update_nowhere (λ (arc : RoadArc). record arc { opened = true }) c.args.arcs.now.items c.in-Reopen.arc (ap (λ (l : List RoadArc). nth l c.in-Reopen.arc) (sym c.deref-in-Reopen.ensures.value) ∙ (sym c.arc_of-in-Reopen.ensures ∙ c.in_default-arc_of-2.is))))

pub replace_arc-requires-in-Reopen : goal.replace_arc-requires-in-Reopen
replace_arc-requires-in-Reopen c = there_within c.args.arcs.now.items c.in-Reopen.arc c.in-Some-arc_of-2.found (ap (λ (l : List RoadArc). nth l c.in-Reopen.arc) (sym c.deref-in-Reopen.ensures.value) ∙ (sym c.arc_of-in-Reopen.ensures ∙ c.in-Some-arc_of-2.is))

pub returns-in-Some-arc_of-2-clause-ok : goal.returns-in-Some-arc_of-2-clause-ok
returns-in-Some-arc_of-2-clause-ok c = rw (c.in-Reopen.is, update_there (λ (arc : RoadArc). record arc { opened = true }) c.args.arcs.now.items c.in-Reopen.arc c.in-Some-arc_of-2.found (ap (λ (l : List RoadArc). nth l c.in-Reopen.arc) (sym c.deref-in-Reopen.ensures.value) ∙ (sym c.arc_of-in-Reopen.ensures ∙ c.in-Some-arc_of-2.is))) c.replace_arc-in-Reopen.ensures.ok
