-- What the words of a session ask for.
use Rattle.std.specs.Prelude.{ℕ}
use Rattle.session_lines.specs.declared.lines.Line.{Line}
use Rattle.session_lines.specs.declared.lines.Line.TheVariants.{Command as a_command, Query as a_query, Look as a_look, Near as a_near, Route as a_route, Wait as a_wait, Until as an_until, State as a_state, Quit as a_quit, Begin as a_begin, End as an_end, Suppose as a_suppose, Forget as a_forget}
use Rattle.printing.specs.declared.looks.Look.TheVariants.{Arc as arc_of, Between as arcs_of, Landmarks as landmarks_of, Closed as closed_of}
use Rattle.rows.specs.declared.nearby.Near.TheVariants.{Reach as reach_of, Reached as reached_of, Nearest as nearest_of}
use Rattle.roadnet.specs.declared.commands.Command.TheVariants.{Set as set_arc}
use Rattle.rows.specs.declared.queries.Query.TheVariants.{Dist as distance, From as distance_from, Lower as lower_bound}
use Rattle.session_lines.specs.declared.words.Bare.{Bare}
use Rattle.session_lines.specs.declared.words.Bare.TheVariants.{Wait, Quit, Begin, End, Landmarks, Closed, State, Suppose, Forget}
use Rattle.session_lines.specs.declared.words.One.{One}
use Rattle.session_lines.specs.declared.words.One.TheVariants.{Common as one_common, Arc, Until}
use Rattle.session_lines.specs.declared.words.Two.{Two}
use Rattle.session_lines.specs.declared.words.Two.TheVariants.{Common as two_common, Arcs, Reach, Reached, Nearest, Route}
use Rattle.dimacs.specs.declared.commands.words.TwoNumbers.TheVariants.{Set, Dist, From, Lower}
use Rattle.dimacs.specs.Spelling.{one_command}
use Rattle.dimacs.specs.declared.fault.Code.{Code}
use Rattle.dimacs.specs.declared.fault.Code.TheVariants.{BadLine, NumberRange}

-- what a word asks for with its numbers
abbrev pub bare_line : Bare → Line
bare_line Wait = a_wait
bare_line Quit = a_quit
bare_line Begin = a_begin
bare_line End = an_end
bare_line Landmarks = a_look landmarks_of
bare_line Closed = a_look closed_of
bare_line State = a_state
bare_line Suppose = a_suppose
bare_line Forget = a_forget

abbrev pub one_line : One → ℕ → Line
one_line (one_common word) n = a_command (one_command word n)
one_line Arc n = a_look (arc_of n)
one_line Until n = an_until n

abbrev pub two_line : Two → ℕ → ℕ → Line
two_line (two_common Set) n m = a_command (set_arc n m)
two_line (two_common Dist) n m = a_query (distance n m)
two_line (two_common From) n m = a_query (distance_from n m)
two_line (two_common Lower) n m = a_query (lower_bound n m)
two_line Arcs n m = a_look (arcs_of n m)
two_line Reach n m = a_near (reach_of n m)
two_line Reached n m = a_near (reached_of n m)
two_line Nearest n m = a_near (nearest_of n m)
two_line Route n m = a_route n m

-- the code, within a group, of a line of this word one of whose numbers is out of range
abbrev pub one_out_of_range : One → Code
one_out_of_range (one_common word) = NumberRange
one_out_of_range other = BadLine

abbrev pub two_out_of_range : Two → Code
two_out_of_range (two_common Set) = NumberRange
two_out_of_range other = BadLine
