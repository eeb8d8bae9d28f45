use Rattle.std.proofs.Common.{◌≡◌, ap, sym, ◌∙◌, subst, List, [], ◌∷◌, ◌++◌}
use Rattle.history.specs.declared.entries.Entry.{Entry}
use Rattle.history.specs.declared.entries.Entry.TheVariants.{Closed}
use Rattle.history.specs.Chains.{chain}
use Rattle.history.specs.Entries.{beginning, IsClosed}
use Rattle.history.specs.Origins.{Name}
use Rattle.history.proofs.Beginnings.{open_endless, closed_end, beginning_more}
use Rattle.history.proofs.Chains.{chain_more}
use Rattle.history.proofs.histories.History.close.Goals as goal

pub invariant_of-result : goal.invariant_of-result
invariant_of-result c =
    let i = c.self.invariant in
    let root = c.self.inside.root in
    let before = chain root c.self.inside.seen.log in
    let added : chain root c.write.new.seen.log ≡ before ++ Closed ∷ [] =
    chain_more root c.self.inside.seen.log c.write.new.seen.log _ c.write.ensures.written (open_endless before i.0) (ap (λ p. p.nib.key) c.of-own.ensures ∙ i.6) in
    subst IsClosed (sym added) (closed_end before i.0)

pub returns : goal.returns
returns c =
    let i = c.self.invariant in
    let root = c.self.inside.root in
    let before = chain root c.self.inside.seen.log in
    let added : chain root c.write.new.seen.log ≡ before ++ Closed ∷ [] =
    chain_more root c.self.inside.seen.log c.write.new.seen.log _ c.write.ensures.written (open_endless before i.0) (ap (λ p. p.nib.key) c.of-own.ensures ∙ i.6) in
    let name : Name = record { book = c.write.new.seen.book; pen = root } in
    ap (λ (l : List Entry). beginning name l) added ∙ (beginning_more name before Closed i.0
    ∙ (ap (λ b. beginning (record { book = b; pen = root }) before) c.write.ensures.book ∙ c.self.view_is))
