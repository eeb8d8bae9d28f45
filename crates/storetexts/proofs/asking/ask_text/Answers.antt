use Rattle.std.proofs.Common.{rules, ◌≡◌, ◌∙◌, ap, sym, subst, refl}
use Rattle.std.specs.Prelude.{IfSome, vec_items}
use Rattle.dimacs.specs.Pairs.{p2p_text}
use Rattle.dimacs.specs.Texts.{ReadsText}
use Rattle.disk.specs.Contents.{Only}
use Rattle.printing.specs.declared.done.Done.{Done}
use Rattle.storetexts.specs.Asked.{IsRefusedAsk}
use Rattle.storetexts.proofs.Judged.{opening_counts, opening_of_store, ask_refused_known}
use Rattle.storetexts.proofs.Meanwhile.{counts_code}
use Rattle.storetexts.proofs.Answered.{asked_of, fault_known, refused_known, kind_unanswered, counts_unanswered}
use Rattle.printing.proofs.ReadTexts.{value_of}
use Rattle.storetexts.proofs.Read.{fault_of}
use Rattle.storetexts.proofs.Checked.{memory_told}
use Rattle.storetexts.proofs.Fitting.{fits, if_no_memory, if_ok}
use Rattle.storetexts.proofs.asking.ask_text.Goals as goal

pub returns-in-Err-clause-writes : goal.returns-in-Err-clause-writes
returns-in-Err-clause-writes g c = record { writes = opening_counts Done c.in-Err.refusal _ c.in-Err.ensures.causes; same = refl }

pub returns-in-Err-clause-codes : goal.returns-in-Err-clause-codes
returns-in-Err-clause-codes g c = opening_of_store c.in-Err.refusal c.in-Err.ensures.causes

pub returns-in-Err-clause-failed : goal.returns-in-Err-clause-failed
returns-in-Err-clause-failed g c = counts_code Done c.in-Err.refusal _ _ c.in-Err.ensures.counted

pub returns-in-Err-clause-refused : goal.returns-in-Err-clause-refused
returns-in-Err-clause-refused g c = ask_refused_known (g.D.Disk.honest c.args.disk) (g.D.Disk.content c.args.disk) (g.S.Text.bytes c.args.p2p.now) (g.S.Text.source c.args.p2p.now) c.in-Err.refusal (g.met.S.Text.is_unread c.args.p2p.now) (c.in-Err.ensures.causes, c.in-Err.ensures.judged)

pub returns-in-Err-of_text-clause-refused : goal.returns-in-Err-of_text-clause-refused
returns-in-Err-of_text-clause-refused g c =
    let nodes : c.nodes.result ≡ c.in-Ok.store.network.nodes = search rules in
    let known = g.S.Text.bytes c.args.p2p.now in
    let source = g.S.Text.source c.read_p2p-read.new.text in
    fault_of vec_items 0 c.read_p2p-read.result c.in-Err-of_text.failed c.in-Err-of_text.ensures (λ r. IfSome known (λ text. ReadsText (p2p_text c.nodes.result) text source r)) c.read_p2p-read.ensures.read
    (λ failed. IfSome known (λ text. IsRefusedAsk (g.D.Disk.honest c.args.disk) (g.D.Disk.content c.args.disk) text source failed))
    (fault_known _ _ c.in-Ok.store.network c.in-Ok.store.version c.nodes.result c.in-Ok.ensures.stands nodes known source)

pub returns-clause-answered : goal.returns-clause-answered
returns-clause-answered g c =
    let nodes : c.nodes.result ≡ c.in-Ok.store.network.nodes = search rules in
    let list : c.deref.result.now ≡ c.in-Ok-of_text.pairs.items = search rules in
    let answers = c.ask_opened.ensures.answered in
    let known = g.S.Text.bytes c.args.p2p.now in
    let source = g.S.Text.source c.read_p2p-read.new.text in
    asked_of _ _ c.in-Ok.store.network c.in-Ok.store.version c.nodes.result c.in-Ok.ensures.stands nodes c.args.routes c.ask_opened.result.0 known source c.in-Ok-of_text.pairs.items _ _
    (value_of vec_items 0 c.read_p2p-read.result c.in-Ok-of_text.pairs c.in-Ok-of_text.ensures (λ r. IfSome known (λ text. ReadsText (p2p_text c.nodes.result) text source r)) c.read_p2p-read.ensures.read) (rw list at answers)

pub returns-clause-refused : goal.returns-clause-refused
returns-clause-refused g c =
    let nodes : c.nodes.result ≡ c.in-Ok.store.network.nodes = search rules in
    let known = g.S.Text.bytes c.args.p2p.now in
    let source = g.S.Text.source c.read_p2p-read.new.text in
    refused_known (g.D.Disk.honest c.args.disk) (g.D.Disk.content c.args.disk) c.in-Ok.store.network c.in-Ok.store.version c.nodes.result c.in-Ok.ensures.stands nodes
    c.ask_opened.result.0 known source c.in-Ok-of_text.pairs.items
    (value_of vec_items 0 c.read_p2p-read.result c.in-Ok-of_text.pairs c.in-Ok-of_text.ensures (λ r. IfSome known (λ text. ReadsText (p2p_text c.nodes.result) text source r)) c.read_p2p-read.ensures.read) c.ask_opened.ensures.answers.refused

pub returns-clause-codes : goal.returns-clause-codes
returns-clause-codes g c = kind_unanswered c.ask_opened.result.0 c.ask_opened.ensures.answers.refused

pub returns-clause-failed : goal.returns-clause-failed
returns-clause-failed g c = counts_unanswered c.ask_opened.result.0 _ _ c.ask_opened.ensures.answers.refused (ap g.D.Disk.failures c.ask_opened.ensures.disk ∙ c.in-Ok.ensures.counted)

pub returns-in-Err-clause-order : goal.returns-in-Err-clause-order
returns-in-Err-clause-order g c honest = memory_told c.in-Err.refusal _ (c.in-Err.ensures.order honest)

pub returns-clause-order : goal.returns-clause-order
returns-clause-order g c honest =
    let told = c.in-Ok.ensures.told honest in
    if_no_memory c.ask_opened.result.0 _ (fits (g.D.Disk.content c.args.disk) told.standing told.is)

pub returns-clause-at_rest : goal.returns-clause-at_rest
returns-clause-at_rest g c honest =
    if_ok c.ask_opened.result.0 _ (subst (λ (d : g.row.D.Denot). Only (g.D.Disk.content d) (g.D.Disk.left d)) (sym c.ask_opened.ensures.disk) (c.in-Ok.ensures.at_rest honest))
