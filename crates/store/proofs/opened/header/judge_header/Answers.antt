use Rattle.std.proofs.Common.{◌≡◌, ◌∙◌, ℕ, ◌*◌, true, false, ap, sym, subst, arith, eq-eqb}
use Rattle.std.specs.Prelude.{◌==◌}
use Rattle.std.proofs.lemmas.Bool.Decides.{nat_tests}
use Rattle.pages.specs.Formats.{format_number_of}
use Rattle.pages.specs.Layout.{page_count}
use Rattle.storefile.specs.Judging.{begins_as_store, format_of}
use Rattle.storefile.proofs.Decoded.{decoded_header}
use Rattle.pages.specs.Spelling.{Decodes, SpelledHeader}
use Rattle.storefile.proofs.Opening.{format_found}
use Rattle.store.proofs.Steps.{format_by, other_format, no_spelling, other_size, header_known}
use Rattle.store.proofs.opened.header.judge_header.Goals as goal

pub returns-then-format_of-number-clause-header : goal.returns-then-format_of-number-clause-header
returns-then-format_of-number-clause-header c =
    let begins : begins_as_store c.args.length c.args.page.now ≡ true = sym c.begins_as_store.ensures ∙ c.if-not-begins_as_store.false in
    let other : (c.format_of.result == c.number.result) ≡ false = grind (arith, nat_tests) in
    other_format c.args.format c.args.length c.args.page.now begins (ap (λ (n : ℕ). n == format_number_of c.args.format) (sym c.format_of.ensures) ∙ ap (λ (m : ℕ). c.format_of.result == m) (sym c.number.ensures) ∙ other)

pub returns-in_default-clause-header : goal.returns-in_default-clause-header
returns-in_default-clause-header c =
    let begins : begins_as_store c.args.length c.args.page.now ≡ true = sym c.begins_as_store.ensures ∙ c.if-not-begins_as_store.false in
    let one : c.format_of.result ≡ format_number_of c.args.format = omega (arith, c.number.ensures) in
    let format : (format_of c.args.page.now == format_number_of c.args.format) ≡ true = eq-eqb (format_of c.args.page.now) (format_number_of c.args.format) (sym c.format_of.ensures ∙ one) in
    no_spelling c.args.format c.args.length c.args.page.now begins format (decoded_header c.args.page.now c.decode_header.result c.decode_header.ensures ∙ c.in_default.is)

pub returns-then-length-page_count-clause-header : goal.returns-then-length-page_count-clause-header
returns-then-length-page_count-clause-header c =
    let begins : begins_as_store c.args.length c.args.page.now ≡ true = sym c.begins_as_store.ensures ∙ c.if-not-begins_as_store.false in
    let one : c.format_of.result ≡ format_number_of c.args.format = omega (arith, c.number.ensures) in
    let format : (format_of c.args.page.now == format_number_of c.args.format) ≡ true = eq-eqb (format_of c.args.page.now) (format_number_of c.args.format) (sym c.format_of.ensures ∙ one) in
    let other : (c.args.length == 4096 * c.page_count.result) ≡ false = grind (arith, nat_tests) in
    other_size c.args.format c.args.length c.args.page.now c.in-Some.header begins format (decoded_header c.args.page.now c.decode_header.result c.decode_header.ensures ∙ c.in-Some.is)
    (ap (λ (n : ℕ). c.args.length == 4096 * n) (sym c.page_count.ensures) ∙ other)

pub returns-clause-header : goal.returns-clause-header
returns-clause-header c =
    let begins : begins_as_store c.args.length c.args.page.now ≡ true = sym c.begins_as_store.ensures ∙ c.if-not-begins_as_store.false in
    let one : c.format_of.result ≡ format_number_of c.args.format = omega (arith, c.number.ensures) in
    let format : (format_of c.args.page.now == format_number_of c.args.format) ≡ true = eq-eqb (format_of c.args.page.now) (format_number_of c.args.format) (sym c.format_of.ensures ∙ one) in
    let size : c.args.length ≡ 4096 * c.page_count.result = omega arith in
    header_known c.args.format c.args.length c.args.page.now c.in-Some.header begins format (decoded_header c.args.page.now c.decode_header.result c.decode_header.ensures ∙ c.in-Some.is)
    (eq-eqb c.args.length (4096 * page_count c.in-Some.header) (size ∙ ap (λ (n : ℕ). 4096 * n) c.page_count.ensures))

pub returns-clause-format : goal.returns-clause-format
returns-clause-format c =
    let number : c.format_of.result ≡ format_number_of c.args.format = omega (arith, c.number.ensures) in
    let spelled : SpelledHeader c.args.page.now c.in-Some.header = subst (Decodes (SpelledHeader c.args.page.now)) c.in-Some.is c.decode_header.ensures in
    format_by c.in-Some.header.format c.args.format (sym (format_found c.args.page.now c.in-Some.header spelled) ∙ sym c.format_of.ensures ∙ number)
