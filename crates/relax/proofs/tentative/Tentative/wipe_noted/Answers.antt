use Rattle.std.proofs.Common.{◌≡◌, ◌∙◌, ◌∷◌, ◌<◌, ◌≤◌, ℕ, List, All, None, map, length, get_or, sym, subst}
use Rattle.std.proofs.lemmas.List.Elements.{Contains-get_or}
use Rattle.relax.specs.Values.{value_at, value_of_word}
use Rattle.relax.specs.Noted.{AreNoted}
use Rattle.relax.proofs.Noting.{AreNoted-blank, blank_after}
use Rattle.relax.proofs.tentative.Tentative.wipe_noted.Goals as goal

pub clear_all-requires : goal.clear_all-requires
clear_all-requires c = record {
  nodes = subst (λ (l : List ℕ). All (λ u. (1 ≤ u) × (u < length c.args.self.now)) l) (sym c.deref.ensures.value) (λ k d lt. c.requires.noted.within (get_or c.args.noted.items k d) (Contains-get_or c.args.noted.items k d lt));
}

pub invariant_of-self : goal.invariant_of-self
invariant_of-self c =
    let cleared = subst (λ (l : List ℕ). All (λ u. value_at c.clear_all.new.self u ≡ None) l) c.deref.ensures.value c.clear_all.ensures.cleared in
    let blank = blank_after c.args.self.now c.clear_all.new.self c.args.noted.items c.requires.noted cleared c.clear_all.ensures.others c.clear_all.ensures.places in
    subst (λ (l : List ℕ). AreNoted (None ∷ map value_of_word c.self.inside.words.items) l) (sym c.clear.ensures.items) (AreNoted-blank (None ∷ map value_of_word c.self.inside.words.items) (length c.args.self.now) (c.self.view_is ∙ blank))

pub returns : goal.returns
returns c =
    let cleared = subst (λ (l : List ℕ). All (λ u. value_at c.clear_all.new.self u ≡ None) l) c.deref.ensures.value c.clear_all.ensures.cleared in
    record { blank = c.self.view_is ∙ blank_after c.args.self.now c.clear_all.new.self c.args.noted.items c.requires.noted cleared c.clear_all.ensures.others c.clear_all.ensures.places }
