-- Lists that are cut into parts, of which each is worked on for itself.
use Rattle.std.proofs.Common.{◌≡◌, List, [], ◌∷◌, map, All, Contains, Ok, Err, IfOk, MatchResult, Result}
use Rattle.std.specs.Global.{Vec}
use Rattle.std.specs.List.{AllZip}
use Rattle.std.specs.Borrow.{Bor}
use Rattle.std.proofs.lemmas.List.Elements.{All-cons, All-nil}

module _ {X Y : Type 0} (E : Type 0) (P : Y → Type 0) where
  each_list : (parts : List (Bor (List X))) (lists : List (Vec Y)) → AllZip (λ (part : Bor (List X)) (r : Result (Vec Y) E). IfOk r (λ list. All P list.items)) parts (map Ok lists) → All (λ (list : Vec Y). All P list.items) lists
  each_list [] [] h = All-nil (λ (list : Vec Y). All P list.items)
  each_list [] (list ∷ lists) h = absurd h
  each_list (part ∷ parts) [] h = All-nil (λ (list : Vec Y). All P list.items)
  each_list (part ∷ parts) (list ∷ lists) h = All-cons (λ (l : Vec Y). All P l.items) list lists h.0 (each_list parts lists h.1)

  -- what holds of each list that was made holds of each that was collected
  pub from_parts : (r : Result (Vec (Vec Y)) E) (parts : List (Bor (List X))) (results : List (Result (Vec Y) E))
      → MatchResult r (λ all. (lists : List (Vec Y)) × (results ≡ map Ok lists) × (all.items ≡ lists)) (λ e. Contains results (Err e))
      → AllZip (λ (part : Bor (List X)) (r : Result (Vec Y) E). IfOk r (λ list. All P list.items)) parts results → IfOk r (λ all. All (λ (list : Vec Y). All P list.items) all.items)
  from_parts (Ok all) parts results (lists, ok, is) each = rw is (each_list parts lists (rw (← ok) each))
  from_parts (Err e) parts results h each = tt
