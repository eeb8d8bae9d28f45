use Rattle.std.proofs.Common.{refl, sym, subst, arith}
use Rattle.roadnet.specs.declared.refusals.Refusal.{Refusal}
use Rattle.storefile.specs.Standing.{Standing}
use Rattle.store.specs.Migrating.{IsRefusedForNew, IsRefusedForOld, MayEndCopying, CountsCopyFailure}
use Rattle.store.proofs.Migrated.{no_bytes, no_such_room, refused_so, all_copied, all_stand, all_new, all_parts, all_left, all_for_new, all_for_old, all_causes, all_counted, all_empty, all_same, all_honest}
use Rattle.store.proofs.created.copying.copy_in.Goals as goal

pub returns-in-Err-with_given_room : goal.returns-in-Err-with_given_room
returns-in-Err-with_given_room g c =
    let found = c.in-Ok-find.found in
    let x : Standing = record { header = found.header; slot = found.slot; epoch = found.epoch; network = found.network; version = found.version; next = found.next_sequence; unchecked = found.unchecked } in
    let why = sym c.in-Err-with_given_room.ensures.refused.0 in
    refused_so g.O.Disk g.D.Disk c.args.format c.args.room c.args.journal c.args.old.now c.find.new.disk c.args.new c.length_of.new.disk c.in-Err-with_given_room.refusal
    (λ h. subst (IsRefusedForNew (g.D.Disk.content c.args.new)) why (no_bytes (g.D.Disk.content c.args.new) (omega (arith, c.in-Ok.ensures.length h))))
    (λ h. subst (IsRefusedForOld c.args.format (g.O.Disk.content c.args.old.now) c.args.room) why (no_such_room c.args.format (g.O.Disk.content c.args.old.now) x c.args.room (c.in-Ok-find.ensures.standing h) c.in-Err-with_given_room.ensures.refused.2))
    (subst MayEndCopying why refl)
    (subst (λ (r : Refusal). CountsCopyFailure r (g.O.Disk.failures c.args.old.now) (g.O.Disk.failures c.find.new.disk) (g.D.Disk.failures c.args.new) (g.D.Disk.failures c.length_of.new.disk)) why (c.in-Ok-find.ensures.reads.counted, c.in-Ok.ensures.reads.counted))
    (λ h. c.in-Ok-find.ensures.reads.same h) (λ h other. c.length_of.ensures.reads.same h) c.in-Ok-find.ensures.reads.honest c.length_of.ensures.reads.honest

pub returns : goal.returns
returns g c =
    let found = c.in-Ok-find.found in
    let net = c.in-Ok-with_given_room.network in
    let pages = c.unwrap_or-journal_pages.result in
    let x : Standing = record { header = found.header; slot = found.slot; epoch = found.epoch; network = found.network; version = found.version; next = found.next_sequence; unchecked = found.unchecked } in
    let made = c.create_at.ensures in
    let read = c.length_of.ensures.reads in
    record {
      copied = λ h. all_copied c.create_at.result c.args.format (g.O.Disk.content c.args.old.now) x net pages c.args.room c.args.journal (c.in-Ok-find.ensures.standing h) c.in-Ok-with_given_room.ensures.ok c.unwrap_or-journal_pages.ensures made.network made.version made.journal_pages;
      stands = λ h. all_stand c.create_at.result g.D.Disk.content net found.version pages made.network made.version made.journal_pages made.checkpoint_pages (made.stands (read.honest.1 h));
      made = λ h. all_new c.create_at.result g.D.Disk.content net found.version pages made.network made.version made.journal_pages (made.made (read.honest.1 h));
      empty = λ h. all_empty c.create_at.result (g.D.Disk.content c.length_of.new.disk) (g.D.Disk.content c.args.new) (read.same h).same_content (made.empty (read.honest.1 h));
      only = λ h. made.only (read.honest.1 h);
      left = λ h. all_left c.create_at.result g.D.Disk.content g.D.Disk.left (made.only (read.honest.1 h))
          (all_stand c.create_at.result g.D.Disk.content net found.version pages made.network made.version made.journal_pages made.checkpoint_pages (made.stands (read.honest.1 h)));
      tidy = λ h. made.tidy (read.honest.1 h);
      told = λ h. made.told (read.honest.1 h);
      checkpoint_pages = all_parts c.create_at.result net made.network made.checkpoint_pages;
      unchecked = made.unchecked;
      slot = made.slot;
      works = made.works;
      none_going = made.none_going;
      none_in_flight = made.none_in_flight;
      given = made.given;
      refused_for_new = λ h. all_for_new c.create_at.result (g.D.Disk.content c.length_of.new.disk) (g.D.Disk.content c.args.new) (read.same h).same_content made.refused (made.not_empty (read.honest.1 h)) (made.order (read.honest.1 h));
      refused_for_old = λ h. all_for_old c.create_at.result c.args.format (g.O.Disk.content c.args.old.now) c.args.room (c.in-Ok-find.ensures.fits h) made.refused;
      causes = all_causes c.create_at.result made.refused;
      counted = all_counted c.create_at.result g.O.Disk.failures g.D.Disk.failures c.args.old.now c.find.new.disk c.args.new c.length_of.new.disk c.in-Ok-find.ensures.reads.counted c.in-Ok.ensures.reads.counted made.refused made.counted;
      untouched = λ h. c.in-Ok-find.ensures.reads.same h;
      same = λ h. all_same g.D.Disk c.create_at.result c.args.new c.length_of.new.disk (read.same h) (made.same (read.honest.1 h));
      honest = c.in-Ok-find.ensures.reads.honest;
      honest_new = all_honest c.create_at.result g.D.Disk.honest c.args.new c.length_of.new.disk read.honest made.honest;
    }
