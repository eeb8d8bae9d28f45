-- One pair more is answered.
use Rattle.std.proofs.Common.{◌≡◌, ℕ, ◌+◌, ◌<◌, List, [], ◌∷◌, ◌++◌, length, get_or, take, sym, subst}
use Rattle.std.proofs.lemmas.List.{take_more}
use Rattle.std.proofs.lemmas.Slice.Zip.{all_zipped_more}
use Rattle.roadnet.specs.Net.{Net}
use Rattle.rows.specs.declared.queries.Query.TheVariants.{Dist}
use Rattle.rows.specs.declared.queries.Reply.{Reply}
use Rattle.rows.specs.Replies.{IsRight}
use Rattle.rows.specs.Batches.{AreRightBy}

-- the reply to a pair whose ends were told
pub right_of : (net : Net) (told s told_target t : ℕ) (reply : Reply) → told ≡ s → told_target ≡ t → IsRight net (Dist told told_target) reply → IsRight net (Dist s t) reply
right_of net told s told_target t reply first second right = subst (λ (x : ℕ). IsRight net (Dist s x) reply) second (subst (λ (x : ℕ). IsRight net (Dist x told_target) reply) first right)

module _ {P : Type 0} (net : Net) (source target : P → ℕ) where
  pub right_more : (pairs : List P) (i : ℕ) (d : P) (replies : List Reply) (reply : Reply) → i < length pairs
      → AreRightBy net source target (take i pairs) replies → IsRight net (Dist (source (get_or pairs i d)) (target (get_or pairs i d))) reply
      → AreRightBy net source target (take (i + 1) pairs) (replies ++ reply ∷ [])
  right_more pairs i d replies reply lt before here =
      subst (λ (ps : List P). AreRightBy net source target ps (replies ++ reply ∷ [])) (sym (take_more pairs i d lt))
      (all_zipped_more (λ (p : P) (r : Reply). IsRight net (Dist (source p) (target p)) r) (take i pairs) replies (get_or pairs i d) reply before here)
