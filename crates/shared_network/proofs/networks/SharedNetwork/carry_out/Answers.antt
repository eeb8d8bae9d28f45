use Rattle.std.proofs.Common.{◌≡◌, ℕ, ◌-◌, List, true, false, None, get_or, set, sym}
use Rattle.roadnet.specs.Net.{Net}
use Rattle.roadnet.specs.declared.arcs.RoadArc.{RoadArc}
use Rattle.roadnet.specs.declared.commands.Command.TheVariants.{Set, Close, Reopen}
use Rattle.roadnet.specs.Step.{changed, refusal_of}
use Rattle.roadnet.proofs.Kept.{IsNetwork-mark, IsNetwork-unmark, step_admitted, step-set, step-close, step-reopen}
use Rattle.shared_network.proofs.networks.SharedNetwork.carry_out.Goals as goal

module _ (net : Net) (k : ℕ) (arc : RoadArc) (arcs : List RoadArc) (is : arc ≡ get_or net.arcs (k - 1) arc) where
  is_set : (w : ℕ) → refusal_of net (Set k w) ≡ None → arcs ≡ set net.arcs (k - 1) (record arc { length = w }) → record net { arcs = arcs } ≡ changed net (Set k w)
  is_set w none put = let one = step-set net k arc is w none in let two = step_admitted net (Set k w) none in cc

  is_closed : refusal_of net (Close k) ≡ None → arcs ≡ set net.arcs (k - 1) (record arc { opened = false }) → record net { arcs = arcs } ≡ changed net (Close k)
  is_closed none put = let one = step-close net k arc is none in let two = step_admitted net (Close k) none in cc

  is_opened : refusal_of net (Reopen k) ≡ None → arcs ≡ set net.arcs (k - 1) (record arc { opened = true }) → record net { arcs = arcs } ≡ changed net (Reopen k)
  is_opened none put = let one = step-reopen net k arc is none in let two = step_admitted net (Reopen k) none in cc

pub invariant_of-self-in-Mark : goal.invariant_of-self-in-Mark
invariant_of-self-in-Mark c =
    let admitted = rw (← c.self.view_is, c.in-Mark.is) at c.requires.admitted in
    rw (c.in_ok-self-inside-in-Mark.ensures, c.deref-in-Mark.ensures.value, c.deref.ensures) (IsNetwork-mark _ _ c.self.invariant admitted)

pub invariant_of-self-in-Unmark : goal.invariant_of-self-in-Unmark
invariant_of-self-in-Unmark c =
    rw (c.in_ok-self-inside-in-Unmark.ensures, c.deref-in-Unmark-2.ensures.value, c.deref-in-Unmark.ensures) (IsNetwork-unmark _ _ c.self.invariant)

pub returns-in_ok-set-in-Set : goal.returns-in_ok-set-in-Set
returns-in_ok-set-in-Set c =
    let admitted = rw (← c.self.view_is, c.in-Set.is) at c.requires.admitted in
    rw (← c.self.view_is, c.in-Set.is) (is_set _ c.in-Set.arc c.get-found.result.now c.set.new.self (sym (c.get-found.ensures.item c.get-found.result.now)) c.in-Set.length admitted c.in_ok-set-in-Set.ensures.ok)

pub returns-in_ok-set-in-Close : goal.returns-in_ok-set-in-Close
returns-in_ok-set-in-Close c =
    let admitted = rw (← c.self.view_is, c.in-Close.is) at c.requires.admitted in
    rw (← c.self.view_is, c.in-Close.is) (is_closed _ c.in-Close.arc c.get-found-in-Close.result.now c.set-in-Close.new.self (sym (c.get-found-in-Close.ensures.item c.get-found-in-Close.result.now)) admitted c.in_ok-set-in-Close.ensures.ok)

pub returns-in_ok-set-in-Reopen : goal.returns-in_ok-set-in-Reopen
returns-in_ok-set-in-Reopen c =
    let admitted = rw (← c.self.view_is, c.in-Reopen.is) at c.requires.admitted in
    rw (← c.self.view_is, c.in-Reopen.is) (is_opened _ c.in-Reopen.arc c.get-found-in-Reopen.result.now c.set-in-Reopen.new.self (sym (c.get-found-in-Reopen.ensures.item c.get-found-in-Reopen.result.now)) admitted c.in_ok-set-in-Reopen.ensures.ok)
