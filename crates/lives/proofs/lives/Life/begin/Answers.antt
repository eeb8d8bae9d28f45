use Rattle.store.proofs.StateKept.{works_if_calm}
use Rattle.lives.proofs.lives.Life.begin.Goals as goal

pub returns-in-Ok-clause-told : goal.returns-in-Ok-clause-told
returns-in-Ok-clause-told g c =
    let told = c.version-opened.ensures in
    let works = works_if_calm c.args.store c.requires.calm in
    record { room = told.room; only = λ came. told.only (told.honest came) works; stands = λ came. told.stands came works }

pub returns-in-Err-clause-told : goal.returns-in-Err-clause-told
returns-in-Err-clause-told g c =
    let told = c.version-opened.ensures in
    let works = works_if_calm c.args.store c.requires.calm in
    record { room = told.room; only = λ came. told.only (told.honest came) works; stands = λ came. told.stands came works }
