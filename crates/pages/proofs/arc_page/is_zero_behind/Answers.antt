use Rattle.std.proofs.Common.{ℕ, ◌*◌, ap, ◌∙◌, arith}
use Rattle.std.specs.Prelude.{◌==◌}
use Rattle.std.specs.List.{list_all}
use Rattle.std.proofs.lemmas.Slice.{between_to_end}
use Rattle.pages.proofs.arc_page.is_zero_behind.Goals as goal

pub returns : goal.returns
returns c = c.are_zero.ensures ∙ ap (list_all (λ (byte : ℕ). byte == 0)) (between_to_end c.args.page.now (8 * c.args.count) 4096 (omega arith))
