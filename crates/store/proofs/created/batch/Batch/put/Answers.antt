use Rattle.std.proofs.Common.{◌≡◌, ◌≤◌, ℕ, List, ◌+◌, ◌*◌, ◌-◌, ◌++◌, length, take, sym, ap, ◌∙◌, append_assoc, arith}
use Rattle.std.proofs.lemmas.List.{with_items_is}
use borrow.Rule.Slice.PartMut.{put_mid}
use Rattle.store.specs.Created.{Waiting, so_far}
use Rattle.store.proofs.Growing.{grown, length-put}
use Rattle.store.proofs.created.batch.Batch.put.Goals as goal

pub returns-then-self-lt-PAGES_AT_ONCE-clause-written : goal.returns-then-self-lt-PAGES_AT_ONCE-clause-written
returns-then-self-lt-PAGES_AT_ONCE-clause-written g c = λ h.
    let content = g.D.Disk.content c.args.disk.now in
    let bytes : List ℕ = c.deref_mut.result.now in
    let count : ℕ = c.self.inside.count in
    let value : c.deref_mut.result.now ≡ c.self.inside.bytes.items = c.deref_mut.ensures.value in
    let fits : 4096 * count + 4096 ≤ length bytes = omega (arith, ap length value, c.self.invariant.0, c.self.invariant.1) in
    let after : 4096 * (count + 1) ≡ 4096 * count + 4096 = omega arith in
    let longer = put_mid (4096 * c.self.inside.count) (4096 * c.self.inside.count + 4096 - 4096 * c.self.inside.count) c.deref_mut.result.now c.copy_from_slice.new.self in
    let size : length c.copy_from_slice.new.self ≡ 4096 = omega (arith, ap length c.copy_from_slice.ensures.after) in
    let whole : length (put_mid (4096 * c.self.inside.count) (4096 * c.self.inside.count + 4096 - 4096 * c.self.inside.count) c.deref_mut.result.now c.copy_from_slice.new.self) ≡ c.self.inside.bytes.len =
    omega (arith, length-put (4096 * c.self.inside.count) (4096 * c.self.inside.count + 4096 - 4096 * c.self.inside.count) c.deref_mut.result.now c.copy_from_slice.new.self (omega (arith, fits)) (omega (arith, size)), ap length value, c.self.inside.bytes.ok.0) in
    ap (λ (xs : List ℕ). content ++ take (4096 * (c.self.inside.count + 1)) xs) (with_items_is c.self.inside.bytes longer whole)
    ∙ ap (λ (k : ℕ). content ++ take k longer) after
    ∙ ap (λ (xs : List ℕ). content ++ xs) (grown (4096 * count) _ bytes c.copy_from_slice.new.self c.args.page.now fits c.copy_from_slice.ensures.after (omega arith))
    ∙ sym (append_assoc content (take (4096 * count) bytes) c.args.page.now)
    ∙ ap (λ (xs : List ℕ). (content ++ take (4096 * count) xs) ++ c.args.page.now) value
    ∙ ap (λ (w : Waiting). so_far content w ++ c.args.page.now) c.self.view_is
