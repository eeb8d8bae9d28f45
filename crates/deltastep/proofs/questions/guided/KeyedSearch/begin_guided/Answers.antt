use Rattle.std.proofs.Common.{◌≡◌, ◌≤◌, ◌/◌, ℕ, List, Option, Some, length, set, ap, ◌∙◌, arith}
use Rattle.std.proofs.Math.Nat.{div-le_self}
use Rattle.buckets.specs.Rings.{IsBucketWithin}
use Rattle.frontier.proofs.Keying.{nothing_stands}
use Rattle.deltastep.specs.Guided.{stands_in}
use Rattle.deltastep.proofs.Guiding.{IsDone-first, IsGuided-first, put_first, put_in}
use Rattle.deltastep.proofs.questions.guided.KeyedSearch.begin_guided.Goals as goal

fits : (width last n : ℕ) → last ≡ 0 → 1 ≤ n → IsBucketWithin last n (0 / width)
fits width last n first some = (omega (arith, first), omega (arith, (let none : 0 / width ≤ 0 = div-le_self 0 width in none), first, some))

pub add-requires : goal.add-requires
add-requires c =
    let r = c.args.ring in
    record { fits = fits r.delta r.last (length r.lists.items) c.requires.first r.some }

pub returns-clause-state : goal.returns-clause-state
returns-clause-state c target =
    let r = c.args.ring in
    let n = c.add.new.self in
    let groups = c.args.snapshot.now in
    rw c.add.ensures.width (IsGuided-first groups c.args.source c.requires.node.0 c.requires.node.1 r.delta (stands_in n) (put_first (stands_in r) (stands_in n) (0 / r.delta) (c.args.source, 0) (nothing_stands r.last r.lists.items c.requires.empty) (put_in r n (0 / r.delta) (c.args.source, 0) c.in_ok-add.ensures.ok c.add.ensures.size c.add.ensures.last (fits r.delta r.last (length r.lists.items) c.requires.first r.some))) c.set.new.self (c.set.ensures.set ∙ ap (λ (t : List (Option ℕ)). set t c.args.source (Some 0)) c.requires.blank) target)

pub returns-clause-done : goal.returns-clause-done
returns-clause-done c part u =
    let r = c.args.ring in
    let n = c.add.new.self in
    let groups = c.args.snapshot.now in
    IsDone-first groups c.args.source c.requires.node.0 c.requires.node.1 r.delta (stands_in n) (put_first (stands_in r) (stands_in n) (0 / r.delta) (c.args.source, 0) (nothing_stands r.last r.lists.items c.requires.empty) (put_in r n (0 / r.delta) (c.args.source, 0) c.in_ok-add.ensures.ok c.add.ensures.size c.add.ensures.last (fits r.delta r.last (length r.lists.items) c.requires.first r.some))) c.set.new.self (c.set.ensures.set ∙ ap (λ (t : List (Option ℕ)). set t c.args.source (Some 0)) c.requires.blank) part u
