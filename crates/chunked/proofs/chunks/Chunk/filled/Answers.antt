use Rattle.std.proofs.Common.{◌∙◌, ◌-◌, ◌++◌, replicate, take, ap₂}
use Rattle.chunked.proofs.chunks.Chunk.filled.Goals as goal

pub returns : goal.returns
returns g c = c.in_ok-resize.ensures.items ∙ ap₂ (λ l n. take 1024 l ++ replicate (1024 - n) c.args.value) c.in_ok-items.ensures.items c.in_ok-items.ensures.len
