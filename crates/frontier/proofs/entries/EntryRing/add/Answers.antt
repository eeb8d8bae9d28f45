use Rattle.std.proofs.Common.{◌/◌, ◌%◌, ◌≤◌, ℕ, length, subst, arith}
use Rattle.std.proofs.Math.Nat.{div-le_self}
use Rattle.frontier.specs.Entries.{IsAdded}
use Rattle.frontier.proofs.EntryLists.{AreMarked-added, AreMarked-same, AreSmall-put, AreSmall-same}
use Rattle.frontier.proofs.entries.EntryRing.add.Goals as goal

pub invariant_of-self : goal.invariant_of-self
invariant_of-self c =
    let s = c.args.self.now in
    let same = c.in_err-push.ensures.err in
    let size = c.push.ensures.len in
    record {
      positive = s.positive;
      some = rw size s.some;
      begins = rw size s.begins;
      marked = AreMarked-same s.lists.items c.push.new.lists.items s.marks same size s.marked;
      small = AreSmall-same s.last s.lists.items c.push.new.lists.items same size s.small;
    }

pub invariant_of-self-2 : goal.invariant_of-self-2
invariant_of-self-2 c =
    let s = c.args.self.now in
    let size = c.push.ensures.len in
    let b = c.args.key / s.delta in
    let e : ℕ × ℕ = (c.args.node, c.args.value) in
    let added : IsAdded s.lists.items c.push.new.lists.items (b % length s.lists.items) e = subst (λ p. IsAdded s.lists.items c.push.new.lists.items p e) c.place-place.ensures c.in_ok-push.ensures.added in
    record {
      positive = s.positive;
      some = rw size s.some;
      begins = rw size s.begins;
      marked = AreMarked-added s.delta s.last s.lists.items c.push.new.lists.items c.place-place.result e c.in_ok-push.ensures.added s.marks c.insert.new.self s.marked size c.insert.ensures.limit c.insert.ensures.member c.insert.ensures.others;
      small = AreSmall-put s.last b s.lists.items c.push.new.lists.items e added size c.requires.fits (let less : b ≤ c.args.key = div-le_self c.args.key s.delta in omega (arith, less, c.ranges.key.fits)) s.small;
    }
