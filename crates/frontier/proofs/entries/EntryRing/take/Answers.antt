use Rattle.std.proofs.Common.{◌≡◌, length, set, arith, length-set}
use Rattle.buckets.specs.Places.{IsLeastFrom}
use Rattle.frontier.proofs.EntryLists.{AreMarked-taken, AreSmall-next, TakesNext-exchanged, fewer_entries, marked_within, next_bucket}
use Rattle.frontier.proofs.entries.EntryRing.take.Goals as goal

pub exchange-requires : goal.exchange-requires
exchange-requires c =
    let s = c.args.self.now in
    let some : IsLeastFrom s.marks 0 c.in-Some._some = c.in-Some.ensures in
    let b = c.next_marked-bucket.result.0 in
    let place = c.next_marked-bucket.result.1 in
    let told = c.next_marked-bucket.ensures in
    let next = next_bucket s.last s.lists.items s.marks s.marked s.small c.size-size.result c.size-size.ensures.value c.in-Some._some some.member b place told.far told.between told.marked told.place in
    marked_within s.lists.items s.marks s.marked place next.on

pub remove-requires : goal.remove-requires
remove-requires c =
    let s = c.args.self.now in
    let some : IsLeastFrom s.marks 0 c.in-Some._some = c.in-Some.ensures in
    let b = c.next_marked-bucket.result.0 in
    let place = c.next_marked-bucket.result.1 in
    let told = c.next_marked-bucket.ensures in
    let next = next_bucket s.last s.lists.items s.marks s.marked s.small c.size-size.result c.size-size.ensures.value c.in-Some._some some.member b place told.far told.between told.marked told.place in
    omega (arith, marked_within s.lists.items s.marks s.marked place next.on, s.marked.covers)

pub invariant_of-self : goal.invariant_of-self
invariant_of-self c =
    let s = c.args.self.now in
    let some : IsLeastFrom s.marks 0 c.in-Some._some = c.in-Some.ensures in
    let b = c.next_marked-bucket.result.0 in
    let place = c.next_marked-bucket.result.1 in
    let told = c.next_marked-bucket.ensures in
    let next = next_bucket s.last s.lists.items s.marks s.marked s.small c.size-size.result c.size-size.ensures.value c.in-Some._some some.member b place told.far told.between told.marked told.place in
    let moved : c.exchange.new.lists.items ≡ set s.lists.items place c.set_aside.new.entries = c.exchange.ensures.lists in
    let long : length (set s.lists.items place c.set_aside.new.entries) ≡ length s.lists.items = length-set s.lists.items place c.set_aside.new.entries in
    let takes = TakesNext-exchanged s.last s.lists.items s.marks s.marked b place told.far next c.set_aside.new.entries c.set_aside.ensures.none c.exchange.new.entries.items c.exchange.ensures.entries in
    record {
      positive = s.positive;
      some = rw (moved, long) s.some;
      begins = rw (moved, long) next.at;
      marked = rw moved (AreMarked-taken s.lists.items s.marks s.marked place next.on c.set_aside.new.entries c.set_aside.ensures.none c.remove.new.self c.remove.ensures.limit c.remove.ensures.member c.remove.ensures.others long);
      small = rw moved (AreSmall-next s.last b s.lists.items (set s.lists.items place c.set_aside.new.entries) c.exchange.new.entries.items long takes s.small);
    }

pub returns-clause-taken : goal.returns-clause-taken
returns-clause-taken c =
    let s = c.args.self.now in
    let some : IsLeastFrom s.marks 0 c.in-Some._some = c.in-Some.ensures in
    let b = c.next_marked-bucket.result.0 in
    let place = c.next_marked-bucket.result.1 in
    let told = c.next_marked-bucket.ensures in
    let next = next_bucket s.last s.lists.items s.marks s.marked s.small c.size-size.result c.size-size.ensures.value c.in-Some._some some.member b place told.far told.between told.marked told.place in
    let moved : c.exchange.new.lists.items ≡ set s.lists.items place c.set_aside.new.entries = c.exchange.ensures.lists in
    rw moved (TakesNext-exchanged s.last s.lists.items s.marks s.marked b place told.far next c.set_aside.new.entries c.set_aside.ensures.none c.exchange.new.entries.items c.exchange.ensures.entries)

pub returns-clause-none : goal.returns-clause-none
returns-clause-none c =
    let s = c.args.self.now in
    let some : IsLeastFrom s.marks 0 c.in-Some._some = c.in-Some.ensures in
    let b = c.next_marked-bucket.result.0 in
    let place = c.next_marked-bucket.result.1 in
    let told = c.next_marked-bucket.ensures in
    let next = next_bucket s.last s.lists.items s.marks s.marked s.small c.size-size.result c.size-size.ensures.value c.in-Some._some some.member b place told.far told.between told.marked told.place in
    let moved : c.exchange.new.lists.items ≡ set s.lists.items place c.set_aside.new.entries = c.exchange.ensures.lists in
    rw moved (fewer_entries s.lists.items s.marks s.marked place next.on c.set_aside.new.entries c.set_aside.ensures.none)
