-- One line more of nodes near one, or of the answers to pairs.
use Rattle.std.proofs.Common.{◌≡◌, ◌∙◌, ℕ, ◌+◌, ◌<◌, List, [], ◌∷◌, ◌++◌, Option, length, get_or, take, sym, ap, subst, append_assoc, append-nil, arith}
use Rattle.std.specs.List.{flat_map}
use Rattle.std.specs.Io.KnownBytes.{Appends}
use Rattle.std.proofs.KnownBytes.{Appends-trans}
use Rattle.std.proofs.lemmas.Grind.{flat_map-append}
use Rattle.std.proofs.lemmas.List.{take_more, length-take-le}
use Rattle.rows.specs.declared.queries.Query.TheVariants.{Dist}
use Rattle.rows.specs.declared.queries.Reply.{Reply}
use Rattle.printing.specs.Printed.{answer_line}
use Rattle.printing.specs.Nodes.{pair_lines}

-- what is written of each, one more
flat_more : {X : Type 0} (line : X → List ℕ) (xs : List X) (i : ℕ) (d : X) → i < length xs → flat_map line (take (i + 1) xs) ≡ flat_map line (take i xs) ++ line (get_or xs i d)
flat_more line xs i d lt =
    ap (flat_map line) (take_more xs i d lt) ∙ flat_map-append line (take i xs) (get_or xs i d ∷ [])
    ∙ ap (λ (l : List ℕ). flat_map line (take i xs) ++ l) (append-nil (line (get_or xs i d)))

pub line_more : {X : Type 0} (line : X → List ℕ) (xs : List X) (i : ℕ) (d : X) (old mid new : Option (List ℕ)) → i < length xs
    → Appends old mid (flat_map line (take i xs)) → Appends mid new (line (get_or xs i d)) → Appends old new (flat_map line (take (i + 1) xs))
line_more line xs i d old mid new lt before here = subst (Appends old new) (sym (flat_more line xs i d lt)) (Appends-trans old mid new _ _ before here)

push_line : (pairs : List (ℕ × ℕ)) (replies : List Reply) (pair : ℕ × ℕ) (reply : Reply) → length replies ≡ length pairs
    → pair_lines (pairs ++ pair ∷ []) (replies ++ reply ∷ []) ≡ pair_lines pairs replies ++ answer_line (Dist pair.0 pair.1) reply
push_line [] [] pair reply same = append-nil (answer_line (Dist pair.0 pair.1) reply)
push_line [] (r ∷ rs) pair reply same = absurd (omega (arith, same))
push_line (p ∷ ps) [] pair reply same = absurd (omega (arith, same))
push_line (p ∷ ps) (r ∷ rs) pair reply same =
    ap (λ l. answer_line (Dist p.0 p.1) r ++ l) (push_line ps rs pair reply (omega (arith, same)))
    ∙ sym (append_assoc (answer_line (Dist p.0 p.1) r) (pair_lines ps rs) (answer_line (Dist pair.0 pair.1) reply))

pairs_more : (pairs : List (ℕ × ℕ)) (replies : List Reply) (i : ℕ) (d : ℕ × ℕ) (e : Reply) → i < length pairs → i < length replies
    → pair_lines (take (i + 1) pairs) (take (i + 1) replies) ≡ pair_lines (take i pairs) (take i replies) ++ answer_line (Dist (get_or pairs i d).0 (get_or pairs i d).1) (get_or replies i e)
pairs_more pairs replies i d e lt lt' =
    let more : take (i + 1) pairs ≡ take i pairs ++ get_or pairs i d ∷ [] = take_more pairs i d lt in
    let more' : take (i + 1) replies ≡ take i replies ++ get_or replies i e ∷ [] = take_more replies i e lt' in
    let long = length-take-le i pairs (omega (arith, lt)) in
    let long' = length-take-le i replies (omega (arith, lt')) in
    let pushed : pair_lines (take i pairs ++ get_or pairs i d ∷ []) (take i replies ++ get_or replies i e ∷ []) ≡ pair_lines (take i pairs) (take i replies) ++ answer_line (Dist (get_or pairs i d).0 (get_or pairs i d).1) (get_or replies i e) =
    push_line (take i pairs) (take i replies) (get_or pairs i d) (get_or replies i e) (long' ∙ sym long) in
    rw (more, more') pushed

pub pair_written : (pairs : List (ℕ × ℕ)) (replies : List Reply) (i : ℕ) (d : ℕ × ℕ) (e : Reply) (old mid new : Option (List ℕ)) → i < length pairs → i < length replies
    → Appends old mid (pair_lines (take i pairs) (take i replies)) → Appends mid new (answer_line (Dist (get_or pairs i d).0 (get_or pairs i d).1) (get_or replies i e))
    → Appends old new (pair_lines (take (i + 1) pairs) (take (i + 1) replies))
pair_written pairs replies i d e old mid new lt lt' before here = subst (Appends old new) (sym (pairs_more pairs replies i d e lt lt')) (Appends-trans old mid new _ _ before here)
