-- The lines of a session: those of command texts, the queries of scripts, those that look at the network or at the desk, those about the nodes near one, `route`,
-- `wait`, `until` and `quit`, `begin` and `end` about a group, `suppose` before one that is supposed, `forget`, `copy`, behind which a name stands, and `table`,
-- behind which as many numbers stand as the first two of them say.
use Rattle.std.specs.Prelude.{◌≡◌, ℕ, Bool, true, false, ◌||◌, List, [], ◌∷◌, ◌++◌, take, Option, None, Some, is_some, if◌then◌else◌}
use Rattle.std.specs.Option.{option_map}
use Rattle.std.specs.Str.{bytes_eq}
use lib.Chars.{codes}
use Rattle.dimacs.specs.declared.fault.Code.{Code}
use Rattle.dimacs.specs.Commands.{Form, form, commands, command_code}
use Rattle.dimacs.specs.Commanded.{command_from}
use Rattle.dimacs.specs.Content.{size_at}
use Rattle.dimacs.specs.Faults.{Row, is_empty, is_remark, item_fields}
use Rattle.rows.specs.declared.queries.Query.TheVariants.{Dist, From, Lower}
use Rattle.session_lines.specs.declared.lines.Line.{Line}
use Rattle.session_lines.specs.declared.lines.Line.TheVariants.{Ignored, Command, Query, Look, Near, Route, Table, Unkept, Copy, Wait, Until, State, Quit, Begin, End, Refused, Suppose, Forget}
use Rattle.rows.specs.declared.nearby.Near.TheVariants.{Reach, Reached, Nearest}
use Rattle.printing.specs.declared.looks.Look.TheVariants.{Arc, Between, Landmarks, Closed}
use Rattle.session_lines.specs.declared.names.Name.{Name}
use Rattle.session_lines.specs.Listings.{sources_of, targets_of, BeginInOrder}
use Rattle.session_lines.specs.Names.{copy_of}
use Rattle.session_lines.specs.Tables.{is_table, sources_in, table_code, targets_in}

-- the words of a session behind which numbers stand, with how many follow them
abbrev pub forms : List Form
forms = commands ++ form (codes "dist") 2 ∷ form (codes "from") 2 ∷ form (codes "lower") 2 ∷ form (codes "arc") 1 ∷ form (codes "arcs") 2 ∷ form (codes "reach") 2 ∷ form (codes "reached") 2 ∷ form (codes "nearest") 2 ∷ form (codes "route") 2 ∷ form (codes "landmarks") 0 ∷ form (codes "closed") 0 ∷ form (codes "wait") 0 ∷ form (codes "until") 1 ∷ form (codes "state") 0 ∷ form (codes "quit") 0 ∷ form (codes "begin") 0 ∷ form (codes "end") 0 ∷ form (codes "suppose") 0 ∷ form (codes "forget") 0 ∷ []

-- the bytes of a name
abbrev pub name_of : Name → List ℕ
name_of name = take name.count name.bytes

-- the code of a line: none of `copy` with a name; that of `table` by its numbers; and else by the table of command texts with these words
abbrev pub session_code : Row → Option Code
session_code row = if is_some (copy_of row) then None else (if is_table row then table_code (item_fields row) else command_code forms [] row)

-- the words of a group's lines: those of commands, and `end`
abbrev pub grouped_forms : List Form
grouped_forms = commands ++ form (codes "end") 0 ∷ []

-- the code of a line within a group, by these words alone: each other line is BadLine there
abbrev pub grouped_code : Row → Option Code
grouped_code row = command_code grouped_forms [] row

-- what a line asks for, by its word and the numbers behind it
abbrev pub session_line_from : List ℕ → Row → Option Line
session_line_from word others = if bytes_eq word (codes "dist") then Some (Query (Dist (size_at others 0) (size_at others 1)))
    else (if bytes_eq word (codes "from") then Some (Query (From (size_at others 0) (size_at others 1)))
    else (if bytes_eq word (codes "lower") then Some (Query (Lower (size_at others 0) (size_at others 1)))
    else (if bytes_eq word (codes "arc") then Some (Look (Arc (size_at others 0)))
    else (if bytes_eq word (codes "arcs") then Some (Look (Between (size_at others 0) (size_at others 1)))
    else (if bytes_eq word (codes "reach") then Some (Near (Reach (size_at others 0) (size_at others 1)))
    else (if bytes_eq word (codes "reached") then Some (Near (Reached (size_at others 0) (size_at others 1)))
    else (if bytes_eq word (codes "nearest") then Some (Near (Nearest (size_at others 0) (size_at others 1)))
    else (if bytes_eq word (codes "route") then Some (Route (size_at others 0) (size_at others 1))
    else (if bytes_eq word (codes "landmarks") then Some (Look Landmarks)
    else (if bytes_eq word (codes "closed") then Some (Look Closed)
    else (if bytes_eq word (codes "wait") then Some Wait
    else (if bytes_eq word (codes "until") then Some (Until (size_at others 0))
    else (if bytes_eq word (codes "state") then Some State
    else (if bytes_eq word (codes "quit") then Some Quit
    else (if bytes_eq word (codes "begin") then Some Begin
    else (if bytes_eq word (codes "end") then Some End
    else (if bytes_eq word (codes "suppose") then Some Suppose
    else (if bytes_eq word (codes "forget") then Some Forget
    else option_map Command (command_from word others)))))))))))))))))))

abbrev pub session_line_of : Row → Option Line
session_line_of [] = None
session_line_of (word ∷ others) = session_line_from word others

-- the line has no fault and asks for this
abbrev pub AsksFor : Row → Line → Type 0
AsksFor row line = (session_code row ≡ None) × (session_line_of row ≡ Some line)

-- the line has no fault and asks for these sources and targets
pub record AsksForTable (row : Row) (sources targets : List ℕ) : Type 0 where
  pub table : is_table row ≡ true
  pub plain : session_code row ≡ None
  pub sources_are : sources ≡ sources_in (item_fields row)
  pub targets_are : targets ≡ targets_in (item_fields row)

-- The line asks for nothing, or for this, or has this fault, and that one within a group. Of a line `table` for one of whose numbers no memory was given
-- it is said that the numbers up to that one are in order.
abbrev pub IsLine : Row → Line → Type 0
IsLine row Ignored = (is_empty row || is_remark 35 row) ≡ true
IsLine row (Refused code grouped) = (session_code row ≡ Some code) × (grouped_code row ≡ Some grouped)
IsLine row (Command command) = AsksFor row (Command command)
IsLine row (Query query) = AsksFor row (Query query)
IsLine row (Look look) = AsksFor row (Look look)
IsLine row (Near near) = AsksFor row (Near near)
IsLine row (Route source target) = AsksFor row (Route source target)
IsLine row (Table table) = AsksForTable row (sources_of table) (targets_of table)
IsLine row Unkept = (is_table row ≡ true) × BeginInOrder (item_fields row)
IsLine row (Copy name) = copy_of row ≡ Some (name_of name)
IsLine row Wait = AsksFor row Wait
IsLine row (Until number) = AsksFor row (Until number)
IsLine row State = AsksFor row State
IsLine row Suppose = AsksFor row Suppose
IsLine row Forget = AsksFor row Forget
IsLine row Quit = AsksFor row Quit
IsLine row Begin = AsksFor row Begin
IsLine row End = AsksFor row End

-- the line `quit`, which ends a session
abbrev pub is_quit : Line → Bool
is_quit Quit = true
is_quit other = false
