use Rattle.std.proofs.Common.{◌≡◌, ℕ, ◌+◌, ◌-◌, ◌*◌, ◌≤◌, List, length, take, drop, refl, ap, ◌∙◌, arith, length-take}
use Rattle.std.specs.List.{slice_range}
use Rattle.pagereader.specs.Runs.{PageRun}
use Rattle.pagereader.proofs.Runs.{copied_page}
use Rattle.pagereader.proofs.reader.PageReader.copy.Goals as goal

pub returns : goal.returns
returns c =
    let first : c.self.inside.first ≡ c.args.self.now.first = ap (λ (r : PageRun). r.first) c.self.view_is in
    let bytes : take (4096 * c.self.inside.count) c.self.inside.buffer.items ≡ c.args.self.now.bytes = ap (λ (r : PageRun). r.bytes) c.self.view_is in
    let i : ℕ = c.args.k - c.self.inside.first in
    let within : i + 1 ≤ c.self.inside.count = omega (arith, ap length bytes, length-take (4096 * c.self.inside.count) c.self.inside.buffer.items) in
    c.copy_from_slice.ensures.after
    ∙ ap (λ (xs : List ℕ). slice_range xs (i * 4096) (i * 4096 + 4096)) c.deref.ensures.value
    ∙ copied_page c.self.inside.buffer.items c.self.inside.count i (i * 4096 + 4096) within refl
    ∙ ap (λ (xs : List ℕ). take 4096 (drop (4096 * i) xs)) bytes
    ∙ ap (λ (f : ℕ). take 4096 (drop (4096 * (c.args.k - f)) c.args.self.now.bytes)) first
