use Rattle.std.proofs.lemmas.Result.{err_from_is_err_and}
use Rattle.dimacs.proofs.TextEnds.{read_ended, read_told}
use Rattle.scripts.specs.ScriptTexts.{script_text}
use Rattle.scripts.specs.ScriptReading.{HasEvents}
use Rattle.scripts.proofs.script_texts.read_script.Goals as goal

pub returns-clause-read : goal.returns-clause-read
returns-clause-read g c = read_ended script_text HasEvents _ _ c.in_ok-ended.ended _ c.in_ok-ended.ensures.read c.events_at_end.ensures.ends

pub returns-in_err-ended-clause-read : goal.returns-in_err-ended-clause-read
returns-in_err-ended-clause-read g c =
    let p = err_from_is_err_and c.from_residual.result c.from_residual.ensures.1 in
    rw (p.1, p.2) (read_told script_text HasEvents (g.S.Text.bytes c.args.text.now) (g.S.Text.source c.give_lines.new.self) _ c.in_err-ended.ensures.read)
