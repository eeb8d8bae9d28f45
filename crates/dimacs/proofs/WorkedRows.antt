-- The definitions computed on worked texts.
use Rattle.std.proofs.Common.{◌≡◌, ℕ, List, [], ◌∷◌, ◌++◌, Option, Some, None, Ok, Err, refl}
use lib.Chars.{codes}
use Rattle.dimacs.specs.declared.fault.Code.TheVariants.{BadLine, NoProblemLine, SecondProblemLine, WrongKind, NumberRange, NodeRange, LengthRange, LineCount, TooLarge, GroupSize, OpenGroup}
use Rattle.dimacs.specs.declared.fault.Fault.{Fault}
use Rattle.dimacs.specs.Format.{Format, gr, ss, p2p}
use Rattle.dimacs.specs.Lines.{lines, fields, rows}
use Rattle.dimacs.specs.Faults.{code_of, applies, fault_at, fault_of, end_code}
use Rattle.dimacs.specs.Commands.{command_code, commands}
use Rattle.dimacs.specs.Joint.{before_run, after_run}
use Rattle.roadnet.specs.declared.commands.Command.TheVariants.{Set, Mark, Unmark, Reopen, Lay}
use Rattle.dimacs.specs.Landmarks.{ss_text}
use Rattle.dimacs.specs.Pairs.{p2p_text}
use Rattle.dimacs.specs.Commanded.{group_code, group_text}
use Rattle.dimacs.specs.Texts.{content_by}

abbrev fault : Format → List ℕ → Option Fault
fault f text = fault_of (code_of f) (end_code f) (rows text)

abbrev at : ℕ → List ℕ → List ℕ
at feed line = line ++ (feed ∷ [])

lines_split : lines (at 10 (codes "a") ++ at 13 (codes "b") ++ 10 ∷ codes "c") ≡ codes "a" ∷ codes "b" ∷ codes "c" ∷ []
lines_split = refl

no_last_feed : lines (at 10 (codes "a")) ≡ codes "a" ∷ []
no_last_feed = refl

one_carriage_return : lines (at 13 (at 13 (codes "a"))) ≡ at 13 (codes "a") ∷ []
one_carriage_return = refl

empty_line : lines (10 ∷ 10 ∷ []) ≡ [] ∷ [] ∷ []
empty_line = refl

blanks : fields (9 ∷ codes " a  1" ++ 9 ∷ codes "2 ") ≡ codes "a" ∷ codes "1" ∷ codes "2" ∷ []
blanks = refl

empty_text : fault gr [] ≡ Some (fault_at 0 NoProblemLine)
unfolding code_of applies
empty_text = refl

early_arc : fault gr (codes "a 1 2 3") ≡ Some (fault_at 1 NoProblemLine)
unfolding code_of applies
early_arc = refl

early_short_arc : fault gr (codes "a 1 2") ≡ Some (fault_at 1 BadLine)
unfolding code_of applies
early_short_arc = refl

negative_length : fault gr (at 10 (codes "c S6") ++ at 10 (codes "p sp 6 8") ++ codes "a 1 2 -5") ≡ Some (fault_at 3 LengthRange)
unfolding code_of applies
negative_length = refl

point : fault gr (at 10 (codes "c S6") ++ at 10 (codes "p sp 6 8") ++ codes "a 1 2 5.0") ≡ Some (fault_at 3 BadLine)
unfolding code_of applies
point = refl

too_many_nodes : fault gr (codes "p sp 33554433 0") ≡ Some (fault_at 1 TooLarge)
unfolding code_of applies
too_many_nodes = refl

too_many_arcs : fault gr (codes "p sp 3 67108865") ≡ Some (fault_at 1 TooLarge)
unfolding code_of applies
too_many_arcs = refl

other_kind : fault gr (codes "p max 6 8") ≡ Some (fault_at 1 WrongKind)
unfolding code_of applies
other_kind = refl

no_nodes : fault gr (codes "p sp 0 0") ≡ Some (fault_at 1 NumberRange)
unfolding code_of applies
no_nodes = refl

unreadable : fault gr (codes "p sp 9223372036854775808 1") ≡ Some (fault_at 1 NumberRange)
unfolding code_of applies
unreadable = refl

beyond : fault gr (at 10 (codes "p sp 1 0") ++ codes "a 1 1 1") ≡ Some (fault_at 2 LineCount)
unfolding code_of applies
beyond = refl

node_before_length : fault gr (at 10 (codes "p sp 2 1") ++ codes "a 3 2 -1") ≡ Some (fault_at 2 NodeRange)
unfolding code_of applies
node_before_length = refl

any_bytes : fault gr (255 ∷ []) ≡ Some (fault_at 1 BadLine)
unfolding code_of applies
any_bytes = refl

any_comment : fault gr (at 10 (codes "p sp 1 0") ++ codes "c" ++ 255 ∷ 0 ∷ []) ≡ None
unfolding code_of applies
any_comment = refl

second_of_other_kind : fault gr (at 10 (codes "p sp 1 0") ++ codes "p max") ≡ Some (fault_at 2 SecondProblemLine)
unfolding code_of applies
second_of_other_kind = refl

landmarks : fault (ss 6) (at 10 (codes "p aux sp ss 3") ++ at 10 (codes "s 6") ++ at 10 (codes "s 3") ++ codes "s 6") ≡ None
unfolding code_of applies
landmarks = refl

no_landmark : fault (ss 6) (at 10 (codes "p aux sp ss 3") ++ codes "s 7") ≡ Some (fault_at 2 NodeRange)
unfolding code_of applies
no_landmark = refl

landmarks_of_other_kind : fault (ss 6) (codes "p sp 6 8") ≡ Some (fault_at 1 WrongKind)
unfolding code_of applies
landmarks_of_other_kind = refl

no_count : fault (ss 6) (codes "p aux sp ss") ≡ Some (fault_at 1 BadLine)
unfolding code_of applies
no_count = refl

pairs : fault (p2p 6) (at 10 (codes "p aux sp p2p 2") ++ at 10 (codes "q 1 6") ++ codes "q 6 1") ≡ None
unfolding code_of applies
pairs = refl

command_fault : List ℕ → Option Fault
unfolding command_code
command_fault text = fault_of (command_code commands) (λ rows. None) (rows text)

negative_command : command_fault (codes "close -1") ≡ Some (fault_at 1 NumberRange)
unfolding command_fault command_code
negative_command = refl

minus_zero_command : command_fault (codes "set 1 -0") ≡ Some (fault_at 1 NumberRange)
unfolding command_fault command_code
minus_zero_command = refl

short_command : command_fault (at 10 (codes "# set") ++ at 10 [] ++ codes "set 1") ≡ Some (fault_at 3 BadLine)
unfolding command_fault command_code
short_command = refl

five_commands : command_fault (at 10 (codes "set 1 2") ++ at 10 (codes "close 1") ++ at 10 (codes "reopen 9") ++ at 10 (codes "mark 1") ++ codes "unmark 1") ≡ None
unfolding command_fault command_code
five_commands = refl

-- a text that is cut at a line `run`
abbrev joined : List ℕ
joined = at 10 (codes "p sp 1 0") ++ at 10 (codes " run") ++ codes "dist 1 1"

cut_before : before_run (rows joined) ≡ rows (codes "p sp 1 0")
cut_before = refl

cut_after : after_run (rows joined) ≡ rows (codes "dist 1 1")
cut_after = refl

run_alone : before_run (rows (codes "run running")) ≡ rows (codes "run running")
run_alone = refl

-- what the other texts say
landmarks_once : content_by (ss_text 6) (rows (at 10 (codes "p aux sp ss 3") ++ at 10 (codes "s 6") ++ at 10 (codes "s 3") ++ codes "s 6")) ≡ Ok (3 ∷ 6 ∷ [])
unfolding code_of applies
landmarks_once = refl

pairs_in_order : content_by (p2p_text 6) (rows (at 10 (codes "p aux sp p2p 2") ++ at 10 (codes "q 1 6") ++ codes "q 6 1")) ≡ Ok (record { source = 1; target = 6 } ∷ record { source = 6; target = 1 } ∷ [])
unfolding code_of applies
pairs_in_order = refl

six_commands : content_by group_text (rows (at 10 (codes "set 9 1") ++ at 10 (codes "set 1 2147483648") ++ at 10 (codes "set 9 2147483648") ++ at 10 (codes "mark 7") ++ at 10 (codes "unmark 3") ++ codes "reopen 7"))
    ≡ Ok ((Set 9 1 ∷ []) ∷ (Set 1 2147483648 ∷ []) ∷ (Set 9 2147483648 ∷ []) ∷ (Mark 7 ∷ []) ∷ (Unmark 3 ∷ []) ∷ (Reopen 7 ∷ []) ∷ [])
unfolding command_code group_code
six_commands = refl

-- groups
two_groups : content_by group_text (rows (at 10 (codes "begin") ++ at 10 (codes "set 8 4") ++ at 10 (codes "# end") ++ at 10 [] ++ at 10 (codes "lay 6 1 7") ++ at 10 (codes " end ") ++ codes "reopen 7"))
    ≡ Ok ((Set 8 4 ∷ Lay 6 1 7 ∷ []) ∷ (Reopen 7 ∷ []) ∷ [])
unfolding command_code group_code
two_groups = refl

empty_group : content_by group_text (rows (at 10 (codes "begin") ++ codes "end")) ≡ Err (fault_at 2 GroupSize)
unfolding command_code group_code
empty_group = refl

open_group : content_by group_text (rows (at 10 (codes "begin") ++ codes "reopen 7")) ≡ Err (fault_at 2 OpenGroup)
unfolding command_code group_code
open_group = refl

begun_twice : content_by group_text (rows (at 10 (codes "begin") ++ codes "begin")) ≡ Err (fault_at 2 BadLine)
unfolding command_code group_code
begun_twice = refl

end_alone : content_by group_text (rows (codes "end")) ≡ Err (fault_at 1 BadLine)
unfolding command_code group_code
end_alone = refl

two_fields : content_by group_text (rows (codes "begin 1")) ≡ Err (fault_at 1 BadLine)
unfolding command_code group_code
two_fields = refl

short_lay : content_by group_text (rows (codes "lay 1 2")) ≡ Err (fault_at 1 BadLine)
unfolding command_code group_code
short_lay = refl

too_many_landmarks : fault (ss 6) (codes "p aux sp ss 16777217") ≡ Some (fault_at 1 TooLarge)
unfolding code_of applies
too_many_landmarks = refl
