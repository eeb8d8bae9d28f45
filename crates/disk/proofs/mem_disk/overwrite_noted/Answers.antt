use Rattle.std.proofs.Common.{refl, ◌≡◌, ℕ, ◌+◌, ◌-◌, min, length, take, drop, ap, ◌∙◌, arith, rules}
use Rattle.std.proofs.Math.Seq.{sets}
use Rattle.disk.specs.Contents.{overwritten}
use Rattle.disk.specs.declared.mem_disk.Write.{Write}
use Rattle.disk.proofs.Overwritten.{length-overwritten}
use Rattle.disk.proofs.Undone.{undone}
use Rattle.disk.proofs.mem_disk.overwrite_noted.Goals as goal

pub returns-clause-noted : goal.returns-clause-noted
returns-clause-noted c =
    let old = c.args.content.now.items in
    let new = c.overwrite.new.content.items in
    let at = c.args.at in
    let n = c.min-within.result in
    let count = length c.args.bytes.now in
    let w : Write = record { at = at; count = count; length_before = c.len-length_before.result; replaced = c.in_ok-replaced.replaced } in
    let before : c.len-length_before.result ≡ length old = search rules in
    let now : new ≡ overwritten old at c.args.bytes.now = search rules in
    let part : c.in_ok-replaced.replaced.items ≡ take (at + n - at) (drop at old) = search rules in
    let size : at + n - at ≡ n = omega arith in
    let within : n ≡ min count (length old - at) = omega (arith, c.min-within.ensures) in
    record {
      write = w;
      noted = c.in_ok-note.ensures.ok;
      place = refl;
      size = refl;
      undone = (λ i. sets (take (before i) (now i)) at (take count ((part ∙ ap (λ (k : ℕ). take k (drop at old)) size) i))) ∙ undone old c.args.bytes.now at n c.requires within;
      longer = omega (arith, ap length now, length-overwritten old c.args.bytes.now at c.requires);
    }
