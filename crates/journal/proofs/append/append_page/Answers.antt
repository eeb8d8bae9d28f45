use Rattle.std.proofs.Common.{◌≡◌, ◌∙◌, ◌*◌, length, refl, sym, ap, arith}
use Rattle.pages.specs.Contents.{Entry}
use Rattle.pages.specs.Layout.{page_count}
use Rattle.pages.specs.Spelling.{body, entry_page}
use Rattle.storefile.specs.StoreFile.{journal_page_at}
use Rattle.storefile.proofs.Meaning.{page_within}
use Rattle.journal.proofs.append.append_page.Goals as goal

pub write_gated-requires-clause-within : goal.write_gated-requires-clause-within
write_gated-requires-clause-within g c h =
    let inside = page_within c.args.header.now c.args.sequence (length (g.D.Disk.content c.args.disk.now)) c.requires.file.header (c.requires.file.whole h) in
    omega (arith, inside, c.journal_page-number.ensures, c.body_of-body.ensures.size)

pub write_gated-requires-clause-fits : goal.write_gated-requires-clause-fits
write_gated-requires-clause-fits g c =
    let inside = page_within c.args.header.now c.args.sequence (4096 * page_count c.args.header.now) c.requires.file.header refl in
    omega (arith, inside, c.journal_page-number.ensures, c.body_of-body.ensures.size, c.requires.file.header.arcs_to, c.requires.file.header.pages_to)

pub returns-clause-written : goal.returns-clause-written
returns-clause-written g c h =
    let e : Entry = record { sequence = c.args.sequence; first_number = c.args.first_number; groups = c.args.groups.now } in
    let is : c.body_of-body.result.now ≡ body (entry_page e) = c.body_of-body.ensures.bytes ∙ ap body c.encode_journal_page-page.ensures in
    let at : c.journal_page-number.result ≡ journal_page_at c.args.header.now c.args.sequence = c.journal_page-number.ensures in
    rw (sym at, sym is) (c.write_gated.ensures.written h)

pub returns-clause-writes : goal.returns-clause-writes
returns-clause-writes g c =
    let e : Entry = record { sequence = c.args.sequence; first_number = c.args.first_number; groups = c.args.groups.now } in
    let is : c.body_of-body.result.now ≡ body (entry_page e) = c.body_of-body.ensures.bytes ∙ ap body c.encode_journal_page-page.ensures in
    let at : c.journal_page-number.result ≡ journal_page_at c.args.header.now c.args.sequence = c.journal_page-number.ensures in
    record {
      any_moment = λ h. rw (sym at, sym is) (c.write_gated.ensures.writes.any_moment h);
      at_rest = c.write_gated.ensures.writes.at_rest;
      counted = c.write_gated.ensures.writes.counted;
      honest = c.write_gated.ensures.writes.honest;
    }
