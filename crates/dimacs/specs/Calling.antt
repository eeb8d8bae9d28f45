-- What a call does to a text that it reads, in one word: for contracts of calls over any text.
use Rattle.std.specs.Prelude.{◌≡◌, ℕ}
use Rattle.dimacs.specs.declared.lines.text.Text.{Ghosts}

-- It comes from the same reader, whose failed calls are counted so.
pub record KeepsText {S R : Type 0} (Counts : ℕ → ℕ → R → Type 0) (text : Ghosts S) (result : R) (old new : S) : Type 0 where
  pub counts : Counts (text.failures old) (text.failures new) result
  pub same : text.reader new ≡ text.reader old
