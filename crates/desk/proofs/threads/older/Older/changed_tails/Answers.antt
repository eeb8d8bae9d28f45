use Rattle.std.proofs.Common.{◌≡◌, IfOk, IfSome, Result, Ok, Err, sym}
use Rattle.std.specs.Result.{result_ok}
use Rattle.std.proofs.lemmas.Result.{IfOk-weaker}
use Rattle.snapshot.proofs.Differing.{legs_stay}
use Rattle.desk.proofs.threads.older.Older.changed_tails.Goals as goal

-- what an `Ok` has, its option has
IfSome-ok : {X E : Type 0} (r : Result X E) (P : X → Type 0) → IfOk r P → IfSome (result_ok r) P
IfSome-ok (Ok x) P h = h
IfSome-ok (Err e) P h = h

pub returns-then-delta : goal.returns-then-delta
returns-then-delta c =
    let same : c.args.snapshot.now.delta ≡ c.args.before.now.delta = sym (rw (c.delta.ensures.value, c.delta-2.ensures.value) at c.if-delta.true) in
    rw c.ok.ensures.value
    (IfSome-ok c.tails_of.result _
    (IfOk-weaker c.tails_of.result _ _
    (λ tails are. legs_stay c.args.self.now.view.now.network c.args.network.now c.args.before.now c.args.snapshot.now c.args.self.now.changed.now tails.items c.requires.older.ends c.requires.older.changed c.requires.before c.requires.snapshot same are)
    c.tails_of.ensures))

pub returns : goal.returns
returns c = rw c.ok-2.ensures.value (IfSome-ok c.changed_nodes.result _ c.changed_nodes.ensures)
