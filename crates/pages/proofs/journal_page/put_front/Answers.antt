use Rattle.std.proofs.Common.{◌≡◌, ◌∙◌, ◌++◌, List, ℕ, ap, append_assoc}
use Rattle.byteorder.specs.Endian.{big_bytes}
use Rattle.pages.specs.Spelling.{zeros}
use Rattle.pages.proofs.journal_page.put_front.Goals as goal

four : (p a b c d n1 n2 n3 n4 : List ℕ) → n1 ≡ p ++ a → n2 ≡ n1 ++ b → n3 ≡ n2 ++ c → n4 ≡ n3 ++ d → n4 ≡ p ++ (a ++ b ++ c ++ d)
four p a b c d n1 n2 n3 n4 e1 e2 e3 e4 = rw (e4, e3, e2, e1) (ap (λ (xs : List ℕ). xs ++ c ++ d) (append_assoc p a b) ∙ ap (λ (xs : List ℕ). xs ++ d) (append_assoc p (a ++ b) c) ∙ append_assoc p (a ++ b ++ c) d)

pub returns : goal.returns
returns c =
    four c.args.page.now (big_bytes 8 c.args.sequence) (big_bytes 8 c.args.first_number) (big_bytes 2 c.args.count) (zeros 14) _ _ _ _ c.put_u64.ensures c.put_u64-2.ensures c.put_u16.ensures c.skip.ensures
