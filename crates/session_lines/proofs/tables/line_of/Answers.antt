use Rattle.std.proofs.Common.{rules, ◌∷◌, ◌∙◌, sym}
use lib.Chars.{codes}
use Rattle.session_lines.proofs.Tabled.{no_table_line, other_table, range_line, table_asked, whole_table}
use Rattle.session_lines.proofs.tables.line_of.Goals as goal

pub returns-then-not-is_whole : goal.returns-then-not-is_whole
returns-then-not-is_whole c row are = c.bad_line.ensures (codes "table" ∷ row) (no_table_line row (other_table row c.args.sizes.items c.args.refused are (search rules)))

pub returns-then-refused : goal.returns-then-refused
returns-then-refused c row are = range_line row (whole_table row c.args.sizes.items c.args.refused are (search rules)) (sym are.refused_is ∙ c.if-refused.true)

pub returns : goal.returns
returns c row are = table_asked row c.args.sizes.items c.args.refused are _ (search rules) c.if-refused.false (search rules)
