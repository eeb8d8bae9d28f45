use Rattle.std.proofs.Common.{ℕ, [], List, subst}
use Rattle.deltastep.specs.Repair.{IsKeptOf, Thins}
use Rattle.deltastep.proofs.Phases.{on_true}
use Rattle.deltastep.proofs.Thinning.{IsThinner-on, Thins-on}
use Rattle.deltastep.proofs.Remaining.{AreListed-of, IsRowIn, IsRowIn-of, IsKeptOf-thinner, IsClosedBut-first, IsSearch-remaining, AreReached-remaining, AreGoneLost-all}
use Rattle.deltastep.proofs.repairs.remaining.remaining.Goals as goal
use Rattle.deltastep.proofs.repairs.remaining.remaining.Goals.{In_ok-spread}

pub spread-requires-clause-closed : goal.spread-requires-clause-closed
spread-requires-clause-closed c =
    let t0 = c.in-Some.tentative in
    let thins = subst (λ (l : List ℕ). Thins c.args.source t0 l c.lose_changed.new.self.tentative c.lose_changed.new.self.lost.items) c.new.ensures.items c.in_ok-lose_changed.ensures.thins in
    IsClosedBut-first c.args.after.now c.args.source c.args.row.now t0 c.lose_changed.new.self.tentative c.lose_changed.new.self.lost.items (rw c.in-Some.is at c.in_ok-tentative.ensures) thins

of_row : (c : In_ok-spread) → IsRowIn c.args.before.now c.args.source c.args.row.now
of_row c = IsRowIn-of c.requires.row.0 c.args.before.now c.requires.row.1 c.nodes.ensures.grouped c.args.source c.requires.node.0 (rw c.requires.nodes c.requires.node.1) c.args.row.now c.requires.row.2

kept : (c : In_ok-spread) → IsKeptOf c.args.source c.args.row.now c.spread.new.self.tentative
kept c = IsKeptOf-thinner c.args.before.now c.args.source c.args.row.now c.in-Some.tentative c.spread.new.self.tentative (of_row c) (rw c.in-Some.is at c.in_ok-tentative.ensures) (IsThinner-on c.args.source c.in-Some.tentative c.lose_changed.new.self.tentative c.spread.new.self.tentative c.in_ok-lose_changed.ensures.thins.thinner c.in_ok-spread.ensures.thins.thinner)

pub returns-clause-search : goal.returns-clause-search
returns-clause-search c =
    let here = (goal.at.returns-clause-search c).In_ok-spread in
    IsSearch-remaining c.args.before.now c.args.after.now c.args.source c.args.row.now c.spread.new.self.tentative c.requires.nodes (of_row here) (kept here)

pub returns-clause-reached : goal.returns-clause-reached
returns-clause-reached c =
    let here = (goal.at.returns-clause-reached c).In_ok-spread in
    AreReached-remaining c.args.before.now c.args.after.now c.args.source c.args.row.now c.spread.new.self.tentative (of_row here) (kept here)
    (AreGoneLost-all c.args.before.now c.args.after.now c.args.source c.args.row.now c.lose_changed.new.self.tentative c.spread.new.self.tentative c.args.changed.now c.requires.changed c.in_ok-lose_changed.ensures.gone c.in_ok-spread.ensures.thins.thinner)
    (on_true c.in_ok-spread.field-0 _ c.if-not-branch.false c.in_ok-spread.ensures.closed)

pub returns-clause-kept : goal.returns-clause-kept
returns-clause-kept c = kept (goal.at.returns-clause-kept c).In_ok-spread

pub returns-clause-listed : goal.returns-clause-listed
returns-clause-listed c =
    let thins = subst (λ (l : List ℕ). Thins c.args.source c.in-Some.tentative l c.lose_changed.new.self.tentative c.lose_changed.new.self.lost.items) c.new.ensures.items c.in_ok-lose_changed.ensures.thins in
    AreListed-of c.args.source c.args.row.now c.in-Some.tentative c.spread.new.self.tentative c.spread.new.self.lost.items (rw c.in-Some.is at c.in_ok-tentative.ensures) (Thins-on c.args.source c.in-Some.tentative c.lose_changed.new.self.tentative c.spread.new.self.tentative [] c.lose_changed.new.self.lost.items c.spread.new.self.lost.items thins c.in_ok-spread.ensures.thins)
