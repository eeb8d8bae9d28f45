use Rattle.std.proofs.Common.{◌≡◌, ℕ, List, [], ◌+◌, ◌++◌, refl, sym, ap, subst, ◌∙◌, arith}
use Rattle.std.proofs.lemmas.Result.{on_ok_weaker}
use Rattle.pages.specs.declared.content.Format.TheVariants.{Two}
use Rattle.pages.specs.Spelling.{header_page, head_page}
use Rattle.store.specs.Created.{Waiting, so_far, IsLaidOut, first_head}
use Rattle.store.proofs.LaidOut.{written_is, laid_out}
use Rattle.store.proofs.created.creation.lay_out.Goals as goal

pub returns-clause-laid_out : goal.returns-clause-laid_out
returns-clause-laid_out g c = λ h.
    let content = g.D.Disk.content in
    let first = c.put_header.ensures.counts.honest.1 h in
    let second = c.put_arcs.ensures.counts.honest.1 first in
    let third = c.put_head.ensures.counts.honest.1 second in
    let fourth = c.put_words.ensures.counts.honest.1 third in
    let fifth = c.put_blank.ensures.counts.honest.1 fourth in
    let none : so_far (g.D.Disk.content c.args.disk.now) c.args.batch.now ≡ [] = ap (λ (w : Waiting). so_far (g.D.Disk.content c.args.disk.now) w) c.requires.start ∙ ap (λ (xs : List ℕ). xs ++ []) (c.requires.empty h) in
    let whole = written_is c.args.header.now c.args.network.now c.args.version
    (so_far (g.D.Disk.content c.args.disk.now) c.args.batch.now) (so_far (g.D.Disk.content c.put_header.new.disk) c.put_header.new.batch) (so_far (g.D.Disk.content c.put_arcs.new.disk) c.put_arcs.new.batch)
    (so_far (g.D.Disk.content c.put_head.new.disk) c.put_head.new.batch) (so_far (g.D.Disk.content c.put_words.new.disk) c.put_words.new.batch) (so_far (g.D.Disk.content c.put_blank.new.disk) c.put_blank.new.batch)
    (header_page c.args.header.now) (head_page Two (first_head c.args.network.now c.args.version)) (c.end_pages.result + 1 + c.slot_pages.result + c.from.result) none
    (c.in_ok-put_header.ensures.written h) refl (c.in_ok-put_arcs.ensures.written first) (c.in_ok-put_head.ensures.written second) refl
    (c.in_ok-put_words.ensures.written third) (c.in_ok-put_blank.ensures.written fourth) (omega (arith, c.end_pages.ensures, c.slot_pages.ensures, c.from.ensures)) in
    on_ok_weaker c.flush.result
    (λ told. subst (λ (d : List ℕ). IsLaidOut d c.args.header.now c.args.network.now c.args.version) (sym (told ∙ whole)) (laid_out c.args.header.now c.args.network.now c.args.version c.put_head.ensures.network.landmarks_to))
    (c.flush.ensures.written fifth)
