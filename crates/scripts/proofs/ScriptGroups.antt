-- Lines of a script that are taken, within groups and outside of them, and what is taken after each.
use Rattle.std.proofs.Common.{◌≡◌, ◌∙◌, Bool, true, false, true≢false, ◌||◌, List, [], ◌∷◌, ◌++◌, Option, None, Some, Ok, Err, map, refl, sym, ap, append_assoc}
use Rattle.std.specs.Prelude.{is_some, option_map}
use Rattle.std.specs.List.{cons_option}
use Rattle.std.proofs.lemmas.List.{append-nil, map-append}
use lib.Chars.{codes}
use Rattle.roadnet.specs.declared.commands.Command.{Command}
use Rattle.roadnet.specs.Groups.{IsGroup}
use Rattle.dimacs.specs.declared.fault.Code.{Code}
use Rattle.dimacs.specs.declared.fault.Code.TheVariants.{BadLine}
use Rattle.dimacs.specs.Commands.{commands, command_code}
use Rattle.dimacs.specs.Commanded.{begins, command_of, ends, group_code}
use Rattle.dimacs.specs.CommandReading.{ReadsCommandLine as ReadsCommand}
use Rattle.dimacs.specs.Faults.{Row, is_empty, is_remark}
use Rattle.dimacs.specs.OpenGroups.{is_full_group, IsUnended, IsNotAdded}
use Rattle.dimacs.specs.Taking.{ByMemory, Takes}
use Rattle.dimacs.proofs.CommandRows.{code_of_table, ignored_row as ignored_command}
use Rattle.dimacs.proofs.GroupCodes.{begin_bad, begin_within, begin_clean, opened_by_begin, end_bad, end_clean, opened_by_end, not_ended, other_clean, other_fault, opened_by_other, command_fits, opened_by_command, not_added, still_shut}
use Rattle.dimacs.proofs.GroupRows.{no_bound}
use Rattle.dimacs.proofs.Items.{by_memory_of, told}
use Rattle.disk.specs.declared.stoppable.Pick.{Pick}
use Rattle.machine.specs.declared.events.Event.{Event}
use Rattle.scripts.specs.declared.script_texts.EventLines.{EventLines}
use Rattle.scripts.specs.ScriptTexts.{ScriptLine, GroupLine, as_line, event_at, event_code, script_line_of, lines_behind, lines_in, script_line_code}
use Rattle.scripts.specs.ScriptReading.{HasEvents, ReadsScriptLine}
use Rattle.scripts.proofs.ScriptLines.{ignored_row}

-- ---- one line more
pub behind_more : (before earlier : List Row) (row : Row) → lines_behind before (earlier ++ row ∷ []) ≡ lines_behind before earlier ++ event_at (before ++ earlier) row
behind_more before [] row = append-nil (event_at before row) ∙ ap (λ (b : List Row). event_at b row) (sym (append-nil before))
behind_more before (r ∷ rs) row =
    ap (λ (l : List ScriptLine). event_at before r ++ l) (behind_more (before ++ r ∷ []) rs row)
    ∙ (sym (append_assoc (event_at before r) (lines_behind (before ++ r ∷ []) rs) (event_at ((before ++ r ∷ []) ++ rs) row))
    ∙ ap (λ (b : List Row). (event_at before r ++ lines_behind (before ++ r ∷ []) rs) ++ event_at b row) (append_assoc before (r ∷ []) rs))

or_right : (a b : Bool) → b ≡ true → (a || b) ≡ true
or_right true b e = refl
or_right false b e = e

or_left : (a b : Bool) → a ≡ true → (a || b) ≡ true
or_left true b e = refl
or_left false b e = absurd (let never : ⊥ = cc in never)

module _ (earlier : List Row) (old : EventLines) (has : HasEvents earlier old) where
  -- ---- which table judges the line
  as_group : (row : Row) → (is_some old.open || (begins row || ends row)) ≡ true → script_line_code earlier row ≡ group_code earlier row
  unfolding script_line_code
  as_group row e = rw (has.opened_is, e) refl

  as_event : (row : Row) → old.open ≡ None → begins row ≡ false → ends row ≡ false → script_line_code earlier row ≡ event_code earlier row
  unfolding script_line_code
  as_event row shut no_begin no_end = rw (has.opened_is, shut, no_begin, no_end) refl

  -- the code of the line, told so
  told_as : (row : Row) (code : Code) (o : Option Code) → script_line_code earlier row ≡ o → ByMemory code (o ≡ Some code) (o ≡ None) → Takes script_line_code HasEvents earlier row old (Err code)
  told_as row code o is why = by_memory_of code why (λ fault. is ∙ fault) (λ none. is ∙ none)

  by_begin : (rest : Row) → (is_some old.open || (begins (codes "begin" ∷ rest) || ends (codes "begin" ∷ rest))) ≡ true
  by_begin rest = or_right (is_some old.open) (begins (codes "begin" ∷ rest) || ends (codes "begin" ∷ rest)) refl

  by_end : (rest : Row) → (is_some old.open || (begins (codes "end" ∷ rest) || ends (codes "end" ∷ rest))) ≡ true
  by_end rest = or_right (is_some old.open) (begins (codes "end" ∷ rest) || ends (codes "end" ∷ rest)) refl

  -- ---- what the events are then
  goes_on : (row : Row) (new : EventLines) (events : List ScriptLine) → map as_line new.events.items ≡ map as_line old.events.items ++ events → event_at earlier row ≡ events → map as_line new.events.items ≡ lines_in (earlier ++ row ∷ [])
  goes_on row new events said at =
      said ∙ ap (λ (l : List ScriptLine). l ++ events) has.events_are ∙ (ap (λ (l : List ScriptLine). lines_in earlier ++ l) (sym at) ∙ sym (behind_more [] earlier row))

  no_more : (new : EventLines) → new.events.items ≡ old.events.items → map as_line new.events.items ≡ map as_line old.events.items ++ []
  no_more new same = ap (map as_line) same ∙ sym (append-nil (map as_line old.events.items))

  one_more : (new : EventLines) (event : Event Pick) → new.events.items ≡ old.events.items ++ event ∷ [] → map as_line new.events.items ≡ map as_line old.events.items ++ as_line event ∷ []
  one_more new event pushed = ap (map as_line) pushed ∙ map-append as_line old.events.items (event ∷ [])

  -- ---- `begin`
  pub begin_bad_line : (rest : Row) → is_empty rest ≡ false → Takes script_line_code HasEvents earlier (codes "begin" ∷ rest) old (Err BadLine)
  begin_bad_line rest bad = as_group (codes "begin" ∷ rest) (by_begin rest) ∙ begin_bad earlier old.open has.opened_is rest bad

  pub begin_in_group : (rest : Row) → is_empty rest ≡ true → is_some old.open ≡ true → Takes script_line_code HasEvents earlier (codes "begin" ∷ rest) old (Err BadLine)
  begin_in_group rest alone within = as_group (codes "begin" ∷ rest) (by_begin rest) ∙ begin_within earlier old.open has.opened_is rest alone within

  pub takes_begin : (rest : Row) (new : EventLines) → is_empty rest ≡ true → old.open ≡ None → new.events.items ≡ old.events.items → new.open ≡ Some [] → Takes script_line_code HasEvents earlier (codes "begin" ∷ rest) new (Ok tt)
  takes_begin rest new alone shut same opened = (
    as_group (codes "begin" ∷ rest) (by_begin rest) ∙ begin_clean earlier old.open has.opened_is rest alone shut,
    record {
      events_are = goes_on (codes "begin" ∷ rest) new [] (no_more new same) refl;
      opened_is = opened_by_begin earlier old.open has.opened_is rest ∙ sym opened;
    },
  )

  -- ---- `end`
  pub end_bad_line : (rest : Row) → is_empty rest ≡ false → Takes script_line_code HasEvents earlier (codes "end" ∷ rest) old (Err BadLine)
  end_bad_line rest bad = as_group (codes "end" ∷ rest) (by_end rest) ∙ end_bad earlier old.open has.opened_is rest bad

  pub end_refused : (rest : Row) (code : Code) → is_empty rest ≡ true → IsUnended old.open code → Takes script_line_code HasEvents earlier (codes "end" ∷ rest) old (Err code)
  end_refused rest code alone why = told_as (codes "end" ∷ rest) code (group_code earlier (codes "end" ∷ rest)) (as_group (codes "end" ∷ rest) (by_end rest)) (not_ended earlier old.open has.opened_is rest alone code why)

  module _ (rest : Row) (cs : List Command) (alone : is_empty rest ≡ true) (within : old.open ≡ Some cs) (sized : IsGroup cs) where
    pub end_clean_line : script_line_code earlier (codes "end" ∷ rest) ≡ None
    end_clean_line = as_group (codes "end" ∷ rest) (by_end rest) ∙ end_clean earlier old.open has.opened_is rest cs alone within sized.0

    at_end : event_at earlier (codes "end" ∷ rest) ≡ GroupLine cs ∷ []
    at_end = rw (has.opened_is, within) refl

    pub takes_end : (new : EventLines) (event : Event Pick) → as_line event ≡ GroupLine cs → new.events.items ≡ old.events.items ++ event ∷ [] → new.open ≡ None → Takes script_line_code HasEvents earlier (codes "end" ∷ rest) new (Ok tt)
    takes_end new event is pushed opened = (
      end_clean_line,
      record {
        events_are = goes_on (codes "end" ∷ rest) new (as_line event ∷ []) (one_more new event pushed) (at_end ∙ ap (λ (l : ScriptLine). l ∷ []) (sym is));
        opened_is = opened_by_end earlier old.open has.opened_is rest ∙ sym opened;
      },
    )

  module _ (row : Row) (no_begin : begins row ≡ false) (no_end : ends row ≡ false) where
    -- ---- a line within a group
    module _ (within : is_some old.open ≡ true) where
      in_group : script_line_code earlier row ≡ group_code earlier row
      in_group = as_group row (or_left (is_some old.open) (begins row || ends row) within)

      at_none : event_at earlier row ≡ []
      at_none = rw (no_end, no_begin, has.opened_is, within) refl

      pub takes_command : (command : Command) → command_of row ≡ Some command → command_code commands earlier row ≡ None → (new : EventLines) (cs : List Command) → old.open ≡ Some cs → is_full_group old.open ≡ false
          → new.events.items ≡ old.events.items → new.open ≡ Some (cs ++ command ∷ []) → Takes script_line_code HasEvents earlier row new (Ok tt)
      takes_command command says clean new cs is fits same opened = (
        in_group ∙ command_fits earlier old.open has.opened_is row no_begin no_end command says clean fits,
        record {
          events_are = goes_on row new [] (no_more new same) at_none;
          opened_is = opened_by_command earlier old.open has.opened_is row no_begin no_end command says cs is ∙ sym opened;
        },
      )

      pub takes_added : (command : Command) → command_of row ≡ Some command → command_code commands earlier row ≡ None → (new : EventLines) → is_full_group old.open ≡ false
          → new.events.items ≡ old.events.items → new.open ≡ option_map (λ (cs : List Command). cs ++ command ∷ []) old.open → Takes script_line_code HasEvents earlier row new (Ok tt)
      takes_added command says clean new fits same opened = by_open old.open refl
        where
          by_open : (o : Option (List Command)) → old.open ≡ o → Takes script_line_code HasEvents earlier row new (Ok tt)
          by_open None e = absurd (true≢false (sym within ∙ ap (λ (o : Option (List Command)). is_some o) e))
          by_open (Some cs) e =
              takes_command command says clean new cs e fits same (opened ∙ ap (λ (o : Option (List Command)). option_map (λ (l : List Command). l ++ command ∷ []) o) e)

      pub command_refused : (command : Command) → command_of row ≡ Some command → command_code commands earlier row ≡ None → (code : Code) → IsNotAdded old.open code → Takes script_line_code HasEvents earlier row old (Err code)
      command_refused command says clean code why = told_as row code (group_code earlier row) in_group (not_added earlier old.open has.opened_is row no_begin no_end command says clean code why)

      pub takes_no_command : ReadsCommand row (Ok None) → Takes script_line_code HasEvents earlier row old (Ok tt)
      takes_no_command reads = (
        in_group ∙ other_clean earlier old.open has.opened_is row no_begin no_end (reads.0 earlier) reads.1,
        record {
          events_are = goes_on row old [] (no_more old refl) at_none;
          opened_is = opened_by_other earlier old.open has.opened_is row no_begin no_end reads.1;
        },
      )

      pub no_command_line : (code : Code) → ReadsCommand row (Err code) → Takes script_line_code HasEvents earlier row old (Err code)
      no_command_line code reads =
          told script_line_code earlier row code (code_of_table commands earlier row code (reads earlier)) (in_group ∙ other_fault earlier old.open has.opened_is row no_begin no_end code (reads earlier))

    -- ---- a line outside of groups
    module _ (shut : old.open ≡ None) where
      out_of_group : script_line_code earlier row ≡ event_code earlier row
      out_of_group = as_event row shut no_begin no_end

      at_line : event_at earlier row ≡ cons_option (script_line_of row) []
      at_line = rw (no_end, no_begin, has.opened_is, shut) refl

      pub takes_nothing : ReadsScriptLine row (Ok None) → Takes script_line_code HasEvents earlier row old (Ok tt)
      takes_nothing reads = (
        out_of_group ∙ reads.0 earlier,
        record {
          events_are = goes_on row old [] (no_more old refl) (at_line ∙ rw reads.1 refl);
          opened_is = still_shut earlier old.open has.opened_is row no_begin no_end shut ∙ sym shut;
        },
      )

      pub takes_event : (event : Event Pick) (new : EventLines) → ReadsScriptLine row (Ok (Some event)) → new.events.items ≡ old.events.items ++ event ∷ [] → new.open ≡ old.open → Takes script_line_code HasEvents earlier row new (Ok tt)
      takes_event event new reads pushed opened = (
        out_of_group ∙ reads.0 earlier,
        record {
          events_are = goes_on row new (as_line event ∷ []) (one_more new event pushed) (at_line ∙ rw reads.1 refl);
          opened_is = still_shut earlier old.open has.opened_is row no_begin no_end shut ∙ sym (opened ∙ shut);
        },
      )

      pub event_clean : (event : Event Pick) → ReadsScriptLine row (Ok (Some event)) → script_line_code earlier row ≡ None
      event_clean event reads = out_of_group ∙ reads.0 earlier

      pub takes_fault : (code : Code) → ReadsScriptLine row (Err code) → Takes script_line_code HasEvents earlier row old (Err code)
      takes_fault code reads = by_memory_of code reads (λ fault. out_of_group ∙ fault earlier) (λ none. out_of_group ∙ none earlier)

-- ---- a comment
pub takes_remark : (earlier : List Row) (row : Row) (taken : EventLines) → is_remark 35 row ≡ true → HasEvents earlier taken
    → (script_line_code earlier row ≡ None) × HasEvents (earlier ++ row ∷ []) taken
takes_remark earlier row taken e has = by_open taken.open refl
  where
    by_open : (o : Option (List Command)) → taken.open ≡ o → (script_line_code earlier row ≡ None) × HasEvents (earlier ++ row ∷ []) taken
    by_open None shut = takes_nothing earlier taken has row (no_bound row e).0 (no_bound row e).1 shut (ignored_row row (or_right (is_empty row) (is_remark 35 row) e))
    by_open (Some cs) within = takes_no_command earlier taken has row (no_bound row e).0 (no_bound row e).1 (ap is_some within) (ignored_command row (or_right (is_empty row) (is_remark 35 row) e))
