use Rattle.std.proofs.Common.{◌≡◌, true, arith, ap, sym, ◌∙◌}
use Rattle.std.specs.List.{list_all}
use Rattle.pages.specs.Reading.{is_ends}
use Rattle.pages.proofs.Places.{arcs_read, arcs_end, ends_are, arcs_spelled}
use Rattle.pages.proofs.arc_page.decode_arc_page.Goals as goal

pub returns-then-not-is_zero_behind : goal.returns-then-not-is_zero_behind
returns-then-not-is_zero_behind c = λ arcs spells.
    let told : c.is_zero_behind.result ≡ true = c.is_zero_behind.ensures ∙ arcs_end c.args.nodes c.args.count c.args.page.now arcs spells in
    absurd (cc (told, c.if-not-is_zero_behind.true))

pub returns-then-not-are_ends : goal.returns-then-not-are_ends
returns-then-not-are_ends c = λ arcs spells.
    let is = c.deref.ensures.value ∙ c.in_ok-ends.ensures ∙ arcs_read c.args.nodes c.args.count c.args.page.now arcs (omega arith) spells in
    let told : c.are_ends.result ≡ true = c.are_ends.ensures ∙ ap (list_all (is_ends c.args.nodes)) is ∙ ends_are c.args.nodes arcs spells.fits in
    absurd (cc (told, c.if-not-are_ends.true))

pub returns : goal.returns
returns c =
    let zeros : c.is_zero_behind.result ≡ true = cc (c.if-not-is_zero_behind.false) in
    let ends : c.are_ends.result ≡ true = cc (c.if-not-are_ends.false) in
    arcs_spelled c.args.nodes c.args.count c.args.page.now c.in_ok-ends.ends.items c.fits-page (omega arith) c.requires
    (sym c.is_zero_behind.ensures ∙ zeros) c.in_ok-ends.ensures
    (ap (list_all (is_ends c.args.nodes)) (sym c.deref.ensures.value) ∙ sym c.are_ends.ensures ∙ ends)
