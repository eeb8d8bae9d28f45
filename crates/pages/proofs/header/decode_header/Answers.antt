use Rattle.std.proofs.Common.{◌≡◌, ◌∙◌, ap, sym, subst}
use Rattle.std.specs.Prelude.{IsTrue}
use Rattle.pages.specs.Spelling.{body, header_page, IsHeader}
use Rattle.pages.proofs.Headers.{header_read}
use Rattle.pages.proofs.header.decode_header.Goals as goal

pub returns-then-not-is_header : goal.returns-then-not-is_header
returns-then-not-is_header c = λ h spells.
    let is : c.read_header-header.result ≡ h = c.read_header-header.ensures ∙ header_read c.args.page.now h spells in
    let told : IsTrue c.is_header.result = c.is_header.ensures.1 (subst IsHeader (sym is) spells.fits) in
    absurd (cc (told, c.if-not-is_header.true))

pub returns-then-not-is_header_page : goal.returns-then-not-is_header_page
returns-then-not-is_header_page c = λ h spells.
    let is : c.read_header-header.result ≡ h = c.read_header-header.ensures ∙ header_read c.args.page.now h spells in
    let told : IsTrue c.is_header_page.result = c.is_header_page.ensures.1 (spells.spelled ∙ ap (λ x. body (header_page x)) (sym is)) in
    absurd (cc (told, c.if-not-is_header_page.true))

pub returns : goal.returns
returns c =
    let fits : IsTrue c.is_header.result = cc (c.if-not-is_header.false) in
    let same : IsTrue c.is_header_page.result = cc (c.if-not-is_header_page.false) in
    record { fits = c.is_header.ensures.0 fits; spelled = c.is_header_page.ensures.0 same }
