-- One pair more is answered.
use Rattle.std.proofs.Common.{◌≡◌, ◌∙◌, ℕ, ◌+◌, ◌<◌, List, [], ◌∷◌, ◌++◌, Option, length, get_or, take, sym, ap, subst, append_assoc, append-nil, arith}
use Rattle.std.specs.Io.KnownBytes.{Appends}
use Rattle.std.proofs.KnownBytes.{Appends-trans}
use Rattle.std.proofs.lemmas.List.{take_more, length-take-le}
use Rattle.dimacs.specs.declared.lists.pairs.Pair.{Pair}
use Rattle.rows.specs.declared.queries.Query.{Query}
use Rattle.rows.specs.declared.queries.Reply.{Reply}
use Rattle.printing.specs.Printed.{answer_line}
use Rattle.querytexts.specs.Batch.{pair_query_of, answer_lines}

push_line : (pairs : List Pair) (replies : List Reply) (pair : Pair) (reply : Reply) → length replies ≡ length pairs
    → answer_lines (pairs ++ pair ∷ []) (replies ++ reply ∷ []) ≡ answer_lines pairs replies ++ answer_line (pair_query_of pair) reply
push_line [] [] pair reply same = append-nil (answer_line (pair_query_of pair) reply)
push_line [] (r ∷ rs) pair reply same = absurd (omega (arith, same))
push_line (p ∷ ps) [] pair reply same = absurd (omega (arith, same))
push_line (p ∷ ps) (r ∷ rs) pair reply same =
    ap (λ l. answer_line (pair_query_of p) r ++ l) (push_line ps rs pair reply (omega (arith, same)))
    ∙ sym (append_assoc (answer_line (pair_query_of p) r) (answer_lines ps rs) (answer_line (pair_query_of pair) reply))

lines_of_one_more : (pairs : List Pair) (replies : List Reply) (i : ℕ) (d : Pair) (e : Reply) → i < length pairs → i < length replies
    → answer_lines (take (i + 1) pairs) (take (i + 1) replies) ≡ answer_lines (take i pairs) (take i replies) ++ answer_line (pair_query_of (get_or pairs i d)) (get_or replies i e)
lines_of_one_more pairs replies i d e lt lt' =
    let more : take (i + 1) pairs ≡ take i pairs ++ get_or pairs i d ∷ [] = take_more pairs i d lt in
    let more' : take (i + 1) replies ≡ take i replies ++ get_or replies i e ∷ [] = take_more replies i e lt' in
    let long = length-take-le i pairs (omega (arith, lt)) in
    let long' = length-take-le i replies (omega (arith, lt')) in
    let pushed : answer_lines (take i pairs ++ get_or pairs i d ∷ []) (take i replies ++ get_or replies i e ∷ []) ≡ answer_lines (take i pairs) (take i replies) ++ answer_line (pair_query_of (get_or pairs i d)) (get_or replies i e) = push_line (take i pairs) (take i replies) (get_or pairs i d) (get_or replies i e) (long' ∙ sym long) in
    rw (more, more') pushed

pub written_more : (pairs : List Pair) (replies : List Reply) (i : ℕ) (d : Pair) (e : Reply) (query : Query) (old mid new : Option (List ℕ)) → i < length pairs → i < length replies
    → query ≡ pair_query_of (get_or pairs i d) → Appends old mid (answer_lines (take i pairs) (take i replies)) → Appends mid new (answer_line query (get_or replies i e))
    → Appends old new (answer_lines (take (i + 1) pairs) (take (i + 1) replies))
written_more pairs replies i d e query old mid new lt lt' asked before here =
    let line = subst (λ (q : Query). Appends mid new (answer_line q (get_or replies i e))) asked here in
    subst (Appends old new) (sym (lines_of_one_more pairs replies i d e lt lt')) (Appends-trans old mid new _ _ before line)
