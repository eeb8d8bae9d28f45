-- Replies in a network with its arcs the other way round.
use Rattle.std.proofs.Common.{◌≡◌, ◌∙◌, ℕ, Bool, true, false, ◌&&◌, List, [], ◌∷◌, Result, Ok, Err, refl, sym, ap, IfOk}
use Rattle.std.specs.Global.{Vec}
use Rattle.std.specs.Prelude.{not}
use Rattle.roadnet.specs.declared.refusals.Refusal.TheVariants.{NoSuchNode}
use Rattle.roadnet.specs.Causes.{first_applying}
use Rattle.roadnet.specs.Net.{Net, IsNetwork}
use Rattle.roadnet.specs.Reversal.{reversed}
use Rattle.roadnet.proofs.Reversed.{least_reverses, no_walk_reverses}
use Rattle.roadnet.specs.Step.{is_node}
use Rattle.rows.specs.declared.queries.Query.TheVariants.{Dist}
use Rattle.rows.specs.declared.queries.Reply.{Reply}
use Rattle.rows.specs.declared.queries.Reply.TheVariants.{Length, NoWalk, AtLeast, Refused}
use Rattle.rows.specs.Replies.{IsRight, query_refusal_of}
use Rattle.rows.specs.Batches.{AreRightBy}

exchanged : (a b : Bool) → (a && b) ≡ (b && a)
exchanged true true = refl
exchanged true false = refl
exchanged false true = refl
exchanged false false = refl

-- the same queries are refused
same_refusal : (net : Net) (s t : ℕ) → query_refusal_of (reversed net) (Dist t s) ≡ query_refusal_of net (Dist s t)
same_refusal net s t = ap (λ (b : Bool). first_applying ((NoSuchNode, not b) ∷ [])) (exchanged (is_node net t) (is_node net s))

module _ (net : Net) (is : IsNetwork net) where
  pub right_turned : (s t : ℕ) (reply : Reply) → IsRight (reversed net) (Dist t s) reply → IsRight net (Dist s t) reply
  right_turned s t (Length d) right = (sym (same_refusal net s t) ∙ right.0, least_reverses net s t d is right.1)
  right_turned s t NoWalk right = (sym (same_refusal net s t) ∙ right.0, no_walk_reverses net s t is right.1)
  right_turned s t (AtLeast d) right = absurd right.1
  right_turned s t (Refused refusal) right = sym (same_refusal net s t) ∙ right

  module _ {P : Type 0} (source target : P → ℕ) where
    pub all_turned : (pairs : List P) (replies : List Reply) → AreRightBy (reversed net) target source pairs replies → AreRightBy net source target pairs replies
    all_turned [] [] right = tt
    all_turned [] (r ∷ rs) right = absurd right
    all_turned (p ∷ ps) [] right = absurd right
    all_turned (p ∷ ps) (r ∷ rs) right = (right_turned (source p) (target p) r right.0, all_turned ps rs right.1)

    pub if_turned : {E : Type 0} (pairs : List P) (result : Result (Vec Reply) E) → IfOk result (λ replies. AreRightBy (reversed net) target source pairs replies.items) → IfOk result (λ replies. AreRightBy net source target pairs replies.items)
    if_turned pairs (Ok replies) right = all_turned pairs replies.items right
    if_turned pairs (Err e) right = tt
