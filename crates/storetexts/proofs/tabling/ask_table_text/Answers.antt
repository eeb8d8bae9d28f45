use Rattle.std.proofs.Common.{rules, ◌≡◌, ◌∙◌, ap, sym, subst, refl}
use Rattle.std.specs.Prelude.{IfSome, vec_items}
use Rattle.dimacs.specs.Landmarks.{nodes_text}
use Rattle.dimacs.specs.Texts.{ReadsText}
use Rattle.disk.specs.Contents.{Only}
use Rattle.printing.specs.declared.done.Done.{Done}
use Rattle.storetexts.specs.Asked.{IsRefusedStoreTable}
use Rattle.storetexts.proofs.Judged.{opening_counts}
use Rattle.storetexts.proofs.Meanwhile.{counts_code}
use Rattle.storetexts.proofs.Answered.{counts_unanswered}
use Rattle.storetexts.proofs.Tabled.{asked_of, kind_unanswered, opening_of_two, refused_known, source_fault_known, table_refused_known, target_fault_known}
use Rattle.printing.proofs.ReadTexts.{value_of}
use Rattle.storetexts.proofs.Read.{fault_of}
use Rattle.storetexts.proofs.Checked.{memory_told}
use Rattle.storetexts.proofs.Fitting.{fits, if_no_memory, if_ok}
use Rattle.storetexts.proofs.tabling.ask_table_text.Goals as goal

pub returns-in-Err-clause-writes : goal.returns-in-Err-clause-writes
returns-in-Err-clause-writes g c = record { writes = opening_counts Done c.in-Err.refusal _ c.in-Err.ensures.causes; same = refl }

pub returns-in-Err-clause-codes : goal.returns-in-Err-clause-codes
returns-in-Err-clause-codes g c = opening_of_two c.in-Err.refusal c.in-Err.ensures.causes

pub returns-in-Err-clause-failed : goal.returns-in-Err-clause-failed
returns-in-Err-clause-failed g c = counts_code Done c.in-Err.refusal _ _ c.in-Err.ensures.counted

pub returns-in-Err-clause-refused : goal.returns-in-Err-clause-refused
returns-in-Err-clause-refused g c =
    table_refused_known (g.D.Disk.honest c.args.disk) (g.D.Disk.content c.args.disk) (g.P.Text.bytes c.args.sources.now) (g.Q.Text.bytes c.args.targets.now) (g.P.Text.source c.args.sources.now) (g.Q.Text.source c.args.targets.now) c.in-Err.refusal
    (g.met.P.Text.is_unread c.args.sources.now) (g.met.Q.Text.is_unread c.args.targets.now) (c.in-Err.ensures.causes, c.in-Err.ensures.judged)

pub returns-in-Err-clause-order : goal.returns-in-Err-clause-order
returns-in-Err-clause-order g c honest = memory_told c.in-Err.refusal _ (c.in-Err.ensures.order honest)

pub returns-in-Err-of_text-clause-refused : goal.returns-in-Err-of_text-clause-refused
returns-in-Err-of_text-clause-refused g c =
    let nodes : c.nodes-count.result ≡ c.in-Ok.store.network.nodes = search rules in
    let first = g.P.Text.bytes c.args.sources.now in
    let second = g.Q.Text.bytes c.args.targets.now in
    let from_source = g.P.Text.source c.read_nodes-sources_read.new.text in
    fault_of vec_items 0 c.read_nodes-sources_read.result c.in-Err-of_text.failed c.in-Err-of_text.ensures (λ r. IfSome first (λ text. ReadsText (nodes_text c.nodes-count.result) text from_source r)) c.read_nodes-sources_read.ensures.read
    (λ failed. IfSome first (λ from. IfSome second (λ to. IsRefusedStoreTable (g.D.Disk.honest c.args.disk) (g.D.Disk.content c.args.disk) from to from_source (g.Q.Text.source c.args.targets.now) failed)))
    (source_fault_known _ _ c.in-Ok.store.network c.in-Ok.store.version c.nodes-count.result c.in-Ok.ensures.stands nodes first second from_source (g.Q.Text.source c.args.targets.now))

pub returns-in-Err-of_text-2-clause-refused : goal.returns-in-Err-of_text-2-clause-refused
returns-in-Err-of_text-2-clause-refused g c =
    let nodes : c.nodes-count.result ≡ c.in-Ok.store.network.nodes = search rules in
    let first = g.P.Text.bytes c.args.sources.now in
    let second = g.Q.Text.bytes c.args.targets.now in
    let from_source = g.P.Text.source c.read_nodes-sources_read.new.text in
    let to_source = g.Q.Text.source c.read_nodes-targets_read.new.text in
    let read = value_of vec_items 0 c.read_nodes-sources_read.result c.in-Ok-of_text.from c.in-Ok-of_text.ensures (λ r. IfSome first (λ text. ReadsText (nodes_text c.nodes-count.result) text from_source r)) c.read_nodes-sources_read.ensures.read in
    fault_of vec_items 1 c.read_nodes-targets_read.result c.in-Err-of_text-2.failed c.in-Err-of_text-2.ensures (λ r. IfSome second (λ text. ReadsText (nodes_text c.nodes-count.result) text to_source r)) c.read_nodes-targets_read.ensures.read
    (λ failed. IfSome first (λ from. IfSome second (λ to. IsRefusedStoreTable (g.D.Disk.honest c.args.disk) (g.D.Disk.content c.args.disk) from to from_source to_source failed)))
    (λ fault said. target_fault_known _ _ c.in-Ok.store.network c.in-Ok.store.version c.nodes-count.result c.in-Ok.ensures.stands nodes c.in-Ok-of_text.from.items first second from_source to_source fault read said)

pub returns-clause-answered : goal.returns-clause-answered
returns-clause-answered g c =
    let nodes : c.nodes-count.result ≡ c.in-Ok.store.network.nodes = search rules in
    let from : c.deref.result.now ≡ c.in-Ok-of_text.from.items = search rules in
    let to : c.deref-2.result.now ≡ c.in-Ok-of_text-2.to.items = search rules in
    let answers = c.table_of.ensures.answered in
    let first = g.P.Text.bytes c.args.sources.now in
    let second = g.Q.Text.bytes c.args.targets.now in
    let from_source = g.P.Text.source c.read_nodes-sources_read.new.text in
    let to_source = g.Q.Text.source c.read_nodes-targets_read.new.text in
    asked_of _ _ c.in-Ok.store.network c.in-Ok.store.version c.nodes-count.result c.in-Ok.ensures.stands nodes c.in-Ok-of_text.from.items c.in-Ok-of_text-2.to.items _ _ c.table_of.result.0 first second from_source to_source
    (value_of vec_items 0 c.read_nodes-sources_read.result c.in-Ok-of_text.from c.in-Ok-of_text.ensures (λ r. IfSome first (λ text. ReadsText (nodes_text c.nodes-count.result) text from_source r)) c.read_nodes-sources_read.ensures.read)
    (value_of vec_items 1 c.read_nodes-targets_read.result c.in-Ok-of_text-2.to c.in-Ok-of_text-2.ensures (λ r. IfSome second (λ text. ReadsText (nodes_text c.nodes-count.result) text to_source r)) c.read_nodes-targets_read.ensures.read)
    (rw (from, to) at answers)

pub returns-clause-refused : goal.returns-clause-refused
returns-clause-refused g c =
    let nodes : c.nodes-count.result ≡ c.in-Ok.store.network.nodes = search rules in
    let first = g.P.Text.bytes c.args.sources.now in
    let second = g.Q.Text.bytes c.args.targets.now in
    let from_source = g.P.Text.source c.read_nodes-sources_read.new.text in
    let to_source = g.Q.Text.source c.read_nodes-targets_read.new.text in
    refused_known (g.D.Disk.honest c.args.disk) (g.D.Disk.content c.args.disk) c.in-Ok.store.network c.in-Ok.store.version c.nodes-count.result c.in-Ok.ensures.stands nodes
    c.in-Ok-of_text.from.items c.in-Ok-of_text-2.to.items c.table_of.result.0 first second from_source to_source
    (value_of vec_items 0 c.read_nodes-sources_read.result c.in-Ok-of_text.from c.in-Ok-of_text.ensures (λ r. IfSome first (λ text. ReadsText (nodes_text c.nodes-count.result) text from_source r)) c.read_nodes-sources_read.ensures.read)
    (value_of vec_items 1 c.read_nodes-targets_read.result c.in-Ok-of_text-2.to c.in-Ok-of_text-2.ensures (λ r. IfSome second (λ text. ReadsText (nodes_text c.nodes-count.result) text to_source r)) c.read_nodes-targets_read.ensures.read)
    c.table_of.ensures.answers.refused

pub returns-clause-codes : goal.returns-clause-codes
returns-clause-codes g c = kind_unanswered c.table_of.result.0 c.table_of.ensures.answers.refused

pub returns-clause-failed : goal.returns-clause-failed
returns-clause-failed g c = counts_unanswered c.table_of.result.0 _ _ c.table_of.ensures.answers.refused (ap g.D.Disk.failures c.table_of.ensures.disk ∙ c.in-Ok.ensures.counted)

pub returns-clause-order : goal.returns-clause-order
returns-clause-order g c honest =
    let told = c.in-Ok.ensures.told honest in
    if_no_memory c.table_of.result.0 _ (fits (g.D.Disk.content c.args.disk) told.standing told.is)

pub returns-clause-at_rest : goal.returns-clause-at_rest
returns-clause-at_rest g c honest =
    if_ok c.table_of.result.0 _ (subst (λ (d : g.row.D.Denot). Only (g.D.Disk.content d) (g.D.Disk.left d)) (sym c.table_of.ensures.disk) (c.in-Ok.ensures.at_rest honest))
