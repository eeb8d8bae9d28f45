use Rattle.std.proofs.Common.{◌≡◌, ◌∙◌, ◌++◌, List, ℕ, length, ap, append_assoc}
use Rattle.byteorder.specs.Endian.{big_bytes}
use Rattle.pages.specs.Formats.{arcs_field}
use Rattle.pages.proofs.slot_head.put_front.Goals as goal

five : (p a b c d e n1 n2 n3 n4 n5 : List ℕ) → n1 ≡ p ++ a → n2 ≡ n1 ++ b → n3 ≡ n2 ++ c → n4 ≡ n3 ++ d → n5 ≡ n4 ++ e → n5 ≡ p ++ (a ++ b ++ c ++ d ++ e)
five p a b c d e n1 n2 n3 n4 n5 e1 e2 e3 e4 e5 =
    rw (e5, e4, e3, e2, e1)
    (ap (λ (xs : List ℕ). xs ++ c ++ d ++ e) (append_assoc p a b) ∙ ap (λ (xs : List ℕ). xs ++ d ++ e) (append_assoc p (a ++ b) c) ∙ ap (λ (xs : List ℕ). xs ++ e) (append_assoc p (a ++ b ++ c) d) ∙ append_assoc p (a ++ b ++ c ++ d) e)

pub returns : goal.returns
returns c =
    five c.args.page.now (big_bytes 8 c.args.epoch) (big_bytes 8 c.args.version) (big_bytes 8 c.args.next_sequence) (big_bytes 4 (length c.args.landmarks.now)) (arcs_field c.args.format c.args.arcs) _ _ _ _ _
    c.put_u64.ensures c.put_u64-2.ensures c.put_u64-3.ensures c.put_u32.ensures c.put_arcs.ensures
