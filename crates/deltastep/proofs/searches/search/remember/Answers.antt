use Rattle.std.proofs.Common.{◌≡◌, ℕ, List, [], ◌++◌, Option, Contains, Result, Ok, Err, OnOk, inr, sym, subst}
use Rattle.snapshot.specs.Groups.{legs_of}
use Rattle.snapshot.specs.declared.legs.Leg.{Leg}
use Rattle.snapshot.specs.declared.legs.Part.TheVariants.{Heavy}
use Rattle.buckets.specs.Queue.{Entries}
use Rattle.frontier.specs.Remembered.{remember_all}
use Rattle.frontier.proofs.Flags.{remember_all-both}
use Rattle.frontier.proofs.Members.{Contains-nil}
use Rattle.deltastep.specs.Search.{AreInBucket, IsRelaxedBut}
use Rattle.deltastep.proofs.Phases.{on_true, IsRelaxedBut-more, AreInBucket-remembered}
use Rattle.deltastep.proofs.searches.search.remember.Goals as goal

on_ok : {A E : Type 0} (r : Result A E) (P Q : Type 0) → (P → Q) → OnOk r P → OnOk r Q
on_ok (Ok x) P Q f h = f h
on_ok (Err x) P Q f h = tt

pub returns-then-is_joined-clause-owed : goal.returns-then-is_joined-clause-owed
returns-then-is_joined-clause-owed c tentative queue but u =
    let none : legs_of c.args.snapshot.now Heavy u ≡ [] = on_true c.is_joined.result _ c.if-is_joined.true c.is_joined.ensures u in
    inr (inr (λ leg h. absurd (Contains-nil leg (subst (λ (l : List Leg). Contains l leg) none h))))

pub returns-clause-owed : goal.returns-clause-owed
returns-clause-owed c =
    let groups = c.args.snapshot.now in
    let old = c.args.remembered.now.nodes in
    let new = c.add_all.new.self.nodes in
    on_ok c.add_all.result (c.add_all.new.self.nodes ≡ remember_all c.args.remembered.now.nodes c.args.nodes.now)
    ((tentative : List (Option ℕ)) (queue : Entries) → IsRelaxedBut groups Heavy tentative queue (old ++ c.args.nodes.now) → IsRelaxedBut groups Heavy tentative queue new)
    (λ is tentative queue but. subst (λ (l : List ℕ). IsRelaxedBut groups Heavy tentative queue l) (sym is) (IsRelaxedBut-more groups Heavy tentative queue (old ++ c.args.nodes.now) (remember_all old c.args.nodes.now) (remember_all-both old c.args.nodes.now) but)) c.add_all.ensures.added

pub returns-clause-nodes : goal.returns-clause-nodes
returns-clause-nodes c =
    let old = c.args.remembered.now.nodes in
    let new = c.add_all.new.self.nodes in
    on_ok c.add_all.result (c.add_all.new.self.nodes ≡ remember_all c.args.remembered.now.nodes c.args.nodes.now)
    ((tentative : List (Option ℕ)) (width b : ℕ) → AreInBucket tentative width b old → AreInBucket tentative width b c.args.nodes.now → AreInBucket tentative width b new)
    (λ is tentative width b before more. subst (λ (l : List ℕ). AreInBucket tentative width b l) (sym is) (AreInBucket-remembered tentative width b old c.args.nodes.now before more)) c.add_all.ensures.added
