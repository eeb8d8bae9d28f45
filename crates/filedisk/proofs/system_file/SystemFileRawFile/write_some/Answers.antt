use Rattle.std.proofs.Common.{◌∙◌, sym}
use Rattle.filedisk.specs.Noted.{told_number}
use Rattle.filedisk.proofs.Tries.{write_keeps_failed, write_keeps_synced}
use Rattle.filedisk.proofs.system_file.SystemFileRawFile.write_some.Goals as goal

pub invariant_of-self : goal.invariant_of-self
invariant_of-self c =
    let old = c.args.self.now.file.notes.calls in
    let new = c.write_uninterrupted-answer.new.file.notes.calls in
    let outcome = told_number c.write_uninterrupted-answer.result in
    record {
      failed = c.args.self.now.failed ∙ sym (write_keeps_failed c.args.at c.args.bytes.now outcome old new c.write_uninterrupted-answer.ensures.made);
      synced = λ known. write_keeps_synced c.args.at c.args.bytes.now outcome old new c.write_uninterrupted-answer.ensures.made ∙ c.args.self.now.synced known;
    }
