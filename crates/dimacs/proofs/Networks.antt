-- The network of the lines before the first line `run`, or their fault.
use Rattle.std.proofs.Common.{◌≡◌, ℕ, true, List, length, Option, Some, None, Result, Ok, Err}
use Rattle.std.specs.Prelude.{IfSome}
use Rattle.roadnet.specs.Net.{Net}
use Rattle.dimacs.specs.declared.lines.feed.Ended.{Ended}
use Rattle.dimacs.specs.declared.graphs.gr_lines.GrLines.{GrLines}
use Rattle.dimacs.specs.declared.fault.Fault.{Fault}
use Rattle.dimacs.specs.Format.{gr}
use Rattle.dimacs.specs.Lines.{rows}
use Rattle.dimacs.specs.Faults.{Row, code_of}
use Rattle.dimacs.specs.Content.{gr_text}
use Rattle.dimacs.specs.Joint.{before_run}
use Rattle.dimacs.specs.Ends.{BreaksOff, FailsIn, ReadsLines}
use Rattle.dimacs.specs.Texts.{EndsText, map_ok}
use Rattle.dimacs.specs.Gr.{ReadsBeforeRun}
use Rattle.dimacs.specs.Progress.{HasTaken}
use Rattle.dimacs.proofs.Items.{by_code_of}
use Rattle.dimacs.proofs.TextEnds.{content_ends, content_is, content_fault, same_code}

pub told_before_run : (known left : Option (List ℕ)) (fault : Fault) → IfSome known (λ text. ReadsLines {S = GrLines} (code_of gr) HasTaken true text left (Err fault)) → IfSome known (λ text. ReadsBeforeRun text left (Err fault))
told_before_run None left fault read = tt
told_before_run (Some text) left fault read =
    same_code (FailsIn (code_of gr) text (before_run (rows text)) left fault.line) (BreaksOff (code_of gr) (rows text) (before_run (rows text)) fault.line) fault.code read (content_fault gr_text HasTaken (before_run (rows text)) fault)

pub ended_before_run : (known left : Option (List ℕ)) (ended : Ended GrLines) (result : Result Net Fault) → IfSome known (λ text. ReadsLines (code_of gr) HasTaken true text left (Ok ended))
    → ((lines : List Row) → HasTaken lines ended.taker → ended.lines ≡ length lines → EndsText gr_text lines result) → IfSome known (λ text. ReadsBeforeRun text left (map_ok (λ net. (net, ended.at_run)) result))
ended_before_run None left ended result read ends = tt
ended_before_run (Some text) left ended (Ok net) read ends =
    let end = ends (before_run (rows text)) read.lines.taken read.lines.count in
    record { network = content_is gr_text HasTaken (before_run (rows text)) net read.lines.clean end.0 end.1; at_run = read.at_run; rest = read.rest }
ended_before_run (Some text) left ended (Err fault) read ends =
    let end = ends (before_run (rows text)) read.lines.taken read.lines.count in
    by_code_of (FailsIn (code_of gr) text (before_run (rows text)) left fault.line) fault.code end.0
    (λ e. content_ends gr_text HasTaken (before_run (rows text)) fault read.lines.clean e end.1)
    (λ none. absurd none)
