-- The word that a field spells, and a field that spells none.
use Rattle.std.proofs.Common.{◌≡◌, ◌∙◌, ℕ, Bool, true, false, cond, List, [], ◌∷◌, None, Some, refl, sym, ap, subst}
use Rattle.std.specs.Prelude.{is_some}
use Rattle.std.specs.List.{find, list_all}
use Rattle.std.specs.Str.{bytes_eq}
use Rattle.std.proofs.lemmas.Bool.{and_parts, false_from_ne_true}
use Rattle.std.proofs.lemmas.Slice.Eq.{bytes_eq-Decides}
use Rattle.dimacs.specs.Commands.{Form, form_of}
use Rattle.dimacs.specs.Faults.{Row}
use Rattle.dimacs.specs.Spelling.{spelled_word}

found_passes : {X : Type 0} (test : X → Bool) (xs : List X) (x : X) → find test xs ≡ Some x → test x ≡ true
found_passes test [] x e = absurd (let absurdity : ⊥ = cc in absurdity)
found_passes test (y ∷ ys) x e = at (test y) refl (found_passes test ys x) e
  where
    at : (b : Bool) → test y ≡ b → (find test ys ≡ Some x → test x ≡ true) → cond b (Some y) (find test ys) ≡ Some x → test x ≡ true
    at true is later e = let same : y ≡ x = cc in subst (λ z. test z ≡ true) same is
    at false is later e = later e

module _ {W : Type 0} (spelling : W → List ℕ) (words : List W) where
  pub spelled : (field : List ℕ) (word : W) → spelled_word spelling words field ≡ Some word → field ≡ spelling word
  spelled field word e = (bytes_eq-Decides field (spelling word)).0 (found_passes (λ w. bytes_eq field (spelling w)) words word e)

  -- a field that spells no word is unlike what spells one
  unlike_word : (field other : List ℕ) → spelled_word spelling words field ≡ None → is_some (spelled_word spelling words other) ≡ true → bytes_eq field other ≡ false
  unlike_word field other none some =
      false_from_ne_true (bytes_eq field other) (λ e.
      let same : field ≡ other = (bytes_eq-Decides field other).0 e in
      let clash : true ≡ false = sym some ∙ ap (λ (l : List ℕ). is_some (spelled_word spelling words l)) (sym same) ∙ ap is_some none in
      let absurdity : ⊥ = cc in absurdity)

  -- such a field begins no line of these forms, where the word of each form is one of the words
  pub unformed : (field : List ℕ) (others : Row) (forms : List Form) → spelled_word spelling words field ≡ None → list_all (λ f. is_some (spelled_word spelling words f.word)) forms ≡ true
      → form_of forms (field ∷ others) ≡ None
  unformed field others [] none among = refl
  unformed field others (f ∷ forms) none among =
      let parts = and_parts _ _ among in
      rw (unlike_word field f.word none parts.0) (unformed field others forms none parts.1)
