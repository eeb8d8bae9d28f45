-- Lists that are cut into chunks, worked on chunk by chunk, and put together again.
use Rattle.std.proofs.Common.{◌≡◌, ℕ, zero, suc, ◌<◌, List, [], ◌∷◌, ◌++◌, length, map, take, drop, flat_map, refl, sym, ap, ap₂, ◌∙◌, Ok, Err, IfOk, MatchResult, Result}
use Rattle.std.specs.Global.{Vec}
use Rattle.std.specs.List.{All, AllZip, Contains}
use Rattle.std.specs.Borrow.{Bor}
use Rattle.std.proofs.lemmas.Grind.{flat_map-append}
use Rattle.std.proofs.lemmas.List.Elements.{All-cons, All-nil, All-take, All-drop}
use Rattle.rayon.specs.Lists.{chunks_of, chunks_from}
use Rattle.rayon.proofs.ToStd.{chunks_of-concat}

module _ {X : Type 0} (P : X → Type 0) (size : ℕ) where
  All-chunks_from : (fuel : ℕ) (xs : List X) → All P xs → All (λ (c : List X). All P c) (chunks_from fuel size xs)
  All-chunks_from zero xs h = All-nil (λ (c : List X). All P c)
  All-chunks_from (suc n) [] h = All-nil (λ (c : List X). All P c)
  All-chunks_from (suc n) (x ∷ xs) h = All-cons (λ (c : List X). All P c) (take size (x ∷ xs)) (chunks_from n size (drop size (x ∷ xs))) (All-take P size (x ∷ xs) h) (All-chunks_from n (drop size (x ∷ xs)) (All-drop P size (x ∷ xs) h))

  -- what holds of each item holds of each item of each chunk
  pub All-chunks : (xs : List X) → All P xs → All (λ (c : List X). All P c) (chunks_of size xs)
  All-chunks xs h = All-chunks_from (length xs) xs h

module _ {X Y : Type 0} (f : X → List Y) where
  -- lists that are made of the parts of a list, one after another, are made of the whole
  flat_map-parts : (parts : List (List X)) → flat_map (λ part. flat_map f part) parts ≡ flat_map f (flat_map (λ l. l) parts)
  flat_map-parts [] = refl
  flat_map-parts (part ∷ parts) = ap (λ l. flat_map f part ++ l) (flat_map-parts parts) ∙ sym (flat_map-append f part (flat_map (λ l. l) parts))

  pub flat_map-chunks : (size : ℕ) (xs : List X) → 0 < size → flat_map (λ part. flat_map f part) (chunks_of size xs) ≡ flat_map f xs
  flat_map-chunks size xs positive = flat_map-parts (chunks_of size xs) ∙ ap (flat_map f) (chunks_of-concat size xs positive)

  -- the lists that each part gave
  lists_of : (E : Type 0) (parts : List (Bor (List X))) (lists : List (Vec Y)) → AllZip (λ (part : Bor (List X)) (r : Result (Vec Y) E). IfOk r (λ list. list.items ≡ flat_map f part.now)) parts (map Ok lists) → flat_map (λ (list : Vec Y). list.items) lists ≡ flat_map (λ part. flat_map f part) (map (λ (part : Bor (List X)). part.now) parts)
  lists_of E [] [] h = refl
  lists_of E [] (list ∷ lists) h = absurd h
  lists_of E (part ∷ parts) [] h = absurd h
  lists_of E (part ∷ parts) (list ∷ lists) h = ap₂ (λ xs ys. xs ++ ys) h.0 (lists_of E parts lists h.1)

  pub lists_of_chunks : (E : Type 0) (size : ℕ) (xs : List X) (parts : List (Bor (List X))) (results : List (Result (Vec Y) E)) (lists : List (Vec Y)) → 0 < size → map (λ (part : Bor (List X)). part.now) parts ≡ chunks_of size xs → AllZip (λ (part : Bor (List X)) (r : Result (Vec Y) E). IfOk r (λ list. list.items ≡ flat_map f part.now)) parts results → results ≡ map Ok lists → flat_map (λ (list : Vec Y). list.items) lists ≡ flat_map f xs
  lists_of_chunks E size xs parts results lists positive cut each ok =
      lists_of E parts lists (rw (← ok) each) ∙ (ap (flat_map (λ part. flat_map f part)) cut ∙ flat_map-chunks size xs positive)

-- what holds of lists that were collected holds of the list of them, where each was made
pub from_collected : {Y E : Type 0} (r : Result (Vec (Vec Y)) E) (results : List (Result (Vec Y) E)) (P : List (Vec Y) → Type 0) → MatchResult r (λ all. (lists : List (Vec Y)) × (results ≡ map Ok lists) × (all.items ≡ lists)) (λ e. Contains results (Err e)) → ((lists : List (Vec Y)) → results ≡ map Ok lists → P lists) → IfOk r (λ all. P all.items)
from_collected (Ok all) results P (lists, ok, is) each = rw is (each lists ok)
from_collected (Err e) results P h each = tt
