use Rattle.std.proofs.Common.{◌∙◌, length, sym}
use Rattle.filedisk.specs.Noted.{gave}
use Rattle.filedisk.proofs.Tries.{read_keeps_failed, read_keeps_synced}
use Rattle.filedisk.proofs.system_file.SystemFileRawFile.read_some.Goals as goal

pub invariant_of-self : goal.invariant_of-self
invariant_of-self c =
    let old = c.args.self.now.file.notes.calls in
    let new = c.read_uninterrupted-answer.new.file.notes.calls in
    let count = length c.args.into.now in
    let outcome = gave c.read_uninterrupted-answer.new.into c.read_uninterrupted-answer.result in
    record {
      failed = c.args.self.now.failed ∙ sym (read_keeps_failed c.args.at count outcome old new c.read_uninterrupted-answer.ensures.made);
      synced = λ known. read_keeps_synced c.args.at count outcome old new c.read_uninterrupted-answer.ensures.made ∙ c.args.self.now.synced known;
    }
