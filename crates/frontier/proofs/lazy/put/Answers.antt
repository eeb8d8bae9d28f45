use Rattle.std.proofs.Common.{◌≡◌, ◌<◌, ◌/◌, ◌%◌, ℕ, List, Option, length, arith, refl}
use Rattle.frontier.specs.Entries.{AreInPlace, IsAdded, entries_at}
use Rattle.frontier.specs.Live.{AreEntriesKept, IsDealt}
use Rattle.frontier.proofs.Bags.{AreKept-bagged, AreKept-listed, AreKept-same, IsDealt-bagged, IsDealt-listed, OnOk-map, on_result}
use Rattle.frontier.proofs.EntryLists.{AreInPlace-added, AreInPlace-same}
use Rattle.frontier.proofs.lazy.put.Goals as goal

pub returns-then-is_near-clause-kept : goal.returns-then-is_near-clause-kept
returns-then-is_near-clause-kept c t kept can =
    let ring = c.args.ring.now in
    let new = c.add.new.self.lists.items in
    let e : ℕ × ℕ = (c.args.node, c.args.value) in
    let near : c.args.value / ring.delta < c.args.bound = c.is_near.ensures.near c.if-is_near.true in
    on_result c.add.result
    (IsAdded ring.lists.items new ((c.args.value / ring.delta) % length ring.lists.items) e)
    ((p : ℕ) → entries_at new p ≡ entries_at ring.lists.items p)
    (AreEntriesKept t ring.delta c.args.bound new c.args.bag.now.items)
    c.add.ensures.ok c.add.ensures.err
    (λ added. AreKept-listed t ring.delta c.args.bound ring.lists.items c.args.bag.now.items kept e can.node can.above can.nowhere new ((c.args.value / ring.delta) % length ring.lists.items) added near)
    (λ same. AreKept-same t ring.delta c.args.bound ring.lists.items c.args.bag.now.items kept new same)

pub returns-then-is_near-clause-dealt : goal.returns-then-is_near-clause-dealt
returns-then-is_near-clause-dealt c =
    let ring = c.args.ring.now in
    let new = c.add.new.self.lists.items in
    let e : ℕ × ℕ = (c.args.node, c.args.value) in
    OnOk-map c.add.result
    (IsAdded ring.lists.items new ((c.args.value / ring.delta) % length ring.lists.items) e)
    ((t : List (Option ℕ)) → IsDealt t ring.delta e ring.lists.items c.args.bag.now.items new c.args.bag.now.items)
    c.add.ensures.ok
    (λ added t. IsDealt-listed t ring.delta e ring.lists.items new c.args.bag.now.items added c.add.ensures.size)

pub returns-clause-kept : goal.returns-clause-kept
returns-clause-kept c t kept can =
    let ring = c.args.ring.now in
    AreKept-bagged t ring.delta c.args.bound ring.lists.items c.args.bag.now.items kept (c.args.node, c.args.value) can.node can.above can.nowhere c.push.new.self.items c.in_ok-push.ensures.items (c.is_near.ensures.far c.if-is_near.false) c.requires.small

pub returns-clause-dealt : goal.returns-clause-dealt
returns-clause-dealt c t = IsDealt-bagged t c.args.ring.now.delta (c.args.node, c.args.value) c.args.ring.now.lists.items c.args.bag.now.items c.push.new.self.items c.in_ok-push.ensures.items

pub returns-then-is_near-clause-placed : goal.returns-then-is_near-clause-placed
returns-then-is_near-clause-placed c was =
    let ring = c.args.ring.now in
    let new = c.add.new.self.lists.items in
    let e : ℕ × ℕ = (c.args.node, c.args.value) in
    let b = c.args.value / ring.delta in
    let near : b < c.args.bound = c.is_near.ensures.near c.if-is_near.true in
    let placed : AreInPlace ring.delta ring.last new = on_result c.add.result
    (IsAdded ring.lists.items new (b % length ring.lists.items) e)
    ((p : ℕ) → entries_at new p ≡ entries_at ring.lists.items p)
    (AreInPlace ring.delta ring.last new)
    c.add.ensures.ok c.add.ensures.err
    (λ added. AreInPlace-added ring.delta ring.last ring.lists.items new (b % length ring.lists.items) e added was c.add.ensures.size (record { small = c.ranges.value.fits; window = (c.requires.from, omega (arith, near, c.requires.room)); place = refl }))
    (λ same. AreInPlace-same ring.delta ring.last ring.lists.items new same c.add.ensures.size was) in
    rw (c.add.ensures.width, c.add.ensures.last) placed
