use Rattle.std.proofs.Common.{◌∙◌, sym}
use Rattle.session_lines.proofs.Naming.{copy_ended}
use Rattle.session_lines.proofs.Staged.{word_ended, unknown_ended}
use Rattle.session_lines.proofs.Tabled.{table_ended}
use Rattle.session_lines.proofs.lines.behind.Goals as goal

pub returns-then-are_copy : goal.returns-then-are_copy
returns-then-are_copy c front is = copy_ended front c.args.blank c.args.letters c.requires (sym c.are_copy.ensures ∙ c.if-are_copy.true) is

pub returns-then-are_table : goal.returns-then-are_table
returns-then-are_table c front is = table_ended front c.args.blank c.args.letters c.new.result c.requires (sym c.are_table.ensures ∙ c.if-are_table.true) c.new.ensures is

pub returns-in-Some : goal.returns-in-Some
returns-in-Some c front is = word_ended front c.args.blank c.args.letters c.in-Some.word c.requires c.in-Some.ensures is

pub returns-in-None : goal.returns-in-None
returns-in-None c front is = unknown_ended front c.args.blank c.args.letters c.requires c.in-None.ensures (sym c.are_copy.ensures ∙ c.if-are_copy.false) (sym c.are_table.ensures ∙ c.if-are_table.false) is
