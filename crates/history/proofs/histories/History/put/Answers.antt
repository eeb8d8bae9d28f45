use Rattle.std.proofs.Common.{◌≡◌, ap, sym, ◌∙◌, ⊎_elim, subst, arith, List, [], ◌∷◌, ◌++◌, length}
use Rattle.history.specs.declared.entries.Entry.{Entry}
use Rattle.history.specs.Chains.{chain, next_pen}
use Rattle.history.specs.Entries.{accepted, beginning, is_endless, version_of, IsDeskOpen}
use Rattle.history.specs.Origins.{Name, Beginning}
use Rattle.history.specs.Rules.{book_head_of}
use Rattle.history.specs.Written.{with_entry}
use Rattle.history.proofs.Beginnings.{open_endless, open_more, count_more, origin_more, beginning_more}
use Rattle.history.proofs.Chains.{chain_more, next_more}
use Rattle.history.proofs.histories.History.put.Goals as goal

pub invariant_of-self : goal.invariant_of-self
invariant_of-self c =
    let i = c.self.invariant in
    let root = c.self.inside.root in
    let old = c.again-seen.result.log in
    let before = chain root c.self.inside.seen.log in
    let as_seen = ap (λ s. s.log) c.again-seen.ensures in
    let endless = ap (λ l. is_endless (chain root l)) as_seen ∙ open_endless before i.0 in
    let same = ap (λ p. p.nib.key) c.of-own.ensures ∙ (i.6 ∙ sym (ap (next_pen root) as_seen)) in
    let added : chain root c.write.new.seen.log ≡ before ++ c.args.entry ∷ [] =
    chain_more root old c.write.new.seen.log _ c.write.ensures.written endless same ∙ ap (λ l. chain root l ++ c.args.entry ∷ []) as_seen in
    let follows = next_more root old c.write.new.seen.log _ c.write.ensures.written endless same in
    let book = c.write.ensures.book ∙ ap (λ s. s.book) c.again-seen.ensures in (
      subst IsDeskOpen (sym added) (open_more before c.args.entry c.requires.endless i.0),
      omega (arith, i.1, ap (λ (l : List Entry). length (accepted l)) added, count_more before c.args.entry, c.counted-more.ensures.value),
      i.2 ∙ (sym (ap (λ o. o.version) (origin_more (record { book = c.self.inside.seen.book; pen = root }) before (c.args.entry ∷ []) i.0)) ∙ sym (ap version_of added)),
      i.3 ∙ ap book_head_of (sym book),
      c.new_pen-next.ensures.book ∙ sym book,
      c.new_pen-next.ensures.right,
      sym (follows ∙ ap (λ p. p.nib.key) c.of-following.ensures),
      ⊎_elim (λ none. omega (arith, i.7, none, c.counted-more.ensures.value))
          (λ room. omega (arith, i.1, room, ap (λ (b : Beginning). length b.groups) c.self.view_is, c.counted-more.ensures.few)) c.requires.room,
    )

pub returns : goal.returns
returns c =
    let i = c.self.invariant in
    let root = c.self.inside.root in
    let old = c.again-seen.result.log in
    let before = chain root c.self.inside.seen.log in
    let as_seen = ap (λ s. s.log) c.again-seen.ensures in
    let endless = ap (λ l. is_endless (chain root l)) as_seen ∙ open_endless before i.0 in
    let same = ap (λ p. p.nib.key) c.of-own.ensures ∙ (i.6 ∙ sym (ap (next_pen root) as_seen)) in
    let added : chain root c.write.new.seen.log ≡ before ++ c.args.entry ∷ [] =
    chain_more root old c.write.new.seen.log _ c.write.ensures.written endless same ∙ ap (λ l. chain root l ++ c.args.entry ∷ []) as_seen in
    let book = c.write.ensures.book ∙ ap (λ s. s.book) c.again-seen.ensures in
    let name : Name = record { book = c.write.new.seen.book; pen = root } in
    ap (λ (l : List Entry). beginning name l) added ∙ (beginning_more name before c.args.entry i.0
    ∙ (ap (λ b. with_entry (beginning (record { book = b; pen = root }) before) c.args.entry) book ∙ ap (λ v. with_entry v c.args.entry) c.self.view_is))
