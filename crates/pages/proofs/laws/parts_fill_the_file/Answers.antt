use Rattle.std.proofs.Common.{arith}
use Rattle.pages.proofs.Layouts.{within, disjoint, fills, no_ends}
use Rattle.pages.proofs.laws.parts_fill_the_file.Goals as goal

pub returns-clause-parts : goal.returns-clause-parts
returns-clause-parts c = record { within = within; disjoint = disjoint; fills = fills }

pub returns-clause-pages : goal.returns-clause-pages
returns-clause-pages c = record { arcs = λ items. (omega arith, omega arith); words = λ items. (omega arith, omega arith) }

pub returns-clause-format_one : goal.returns-clause-format_one
returns-clause-format_one c = no_ends
