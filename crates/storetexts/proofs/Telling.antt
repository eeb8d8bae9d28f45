-- One outcome more is told.
use Rattle.std.proofs.Common.{◌≡◌, ◌∙◌, ℕ, ◌+◌, ◌<◌, List, [], ◌∷◌, ◌++◌, Option, length, get_or, map, take, sym, ap, subst, append-nil}
use Rattle.std.specs.Prelude.{All}
use Rattle.std.specs.Io.KnownBytes.{Appends}
use Rattle.std.proofs.KnownBytes.{Appends-trans}
use Rattle.std.proofs.lemmas.List.{take_more, map-append}
use Rattle.std.proofs.lemmas.List.Elements.{All-nil, All-cons, All-append}
use Rattle.std.proofs.lemmas.Grind.{flat_map-append}
use Rattle.printing.specs.Replied.{printed_reply, printed_replies}
use Rattle.storetexts.specs.declared.outcomes.Outcome.{Outcome}
use Rattle.storetexts.specs.Outcomes.{reply_of, outcome_lines, IsGroupSettled}
use Rattle.storetexts.specs.Applying.{LinesTold}

line_of_one_more : (os : List Outcome) (i : ℕ) (d : Outcome) → i < length os → outcome_lines (take (i + 1) os) ≡ outcome_lines (take i os) ++ printed_reply (reply_of (get_or os i d))
line_of_one_more os i d lt =
    let last : Outcome = get_or os i d in
    ap outcome_lines (take_more os i d lt)
    ∙ (ap printed_replies (map-append reply_of (take i os) (last ∷ []))
    ∙ (flat_map-append printed_reply (map reply_of (take i os)) (reply_of last ∷ [])
    ∙ ap (λ (l : List ℕ). outcome_lines (take i os) ++ l) (append-nil (printed_reply (reply_of last)))))

pub told_more : (os : List Outcome) (i : ℕ) (d : Outcome) (before mid new : Option (List ℕ)) → i < length os → LinesTold before mid os i → Appends mid new (printed_reply (reply_of (get_or os i d))) → LinesTold before new os (i + 1)
told_more os i d before mid new lt told here = subst (Appends before new) (sym (line_of_one_more os i d lt)) (Appends-trans before mid new _ _ told here)

pub settled_more : (durable : ℕ) (os : List Outcome) (i : ℕ) (d : Outcome) → i < length os → All (IsGroupSettled durable) (take i os) → IsGroupSettled durable (get_or os i d) → All (IsGroupSettled durable) (take (i + 1) os)
settled_more durable os i d lt before here =
    subst (All (IsGroupSettled durable)) (sym (take_more os i d lt)) (All-append (IsGroupSettled durable) (take i os) (get_or os i d ∷ []) before (All-cons (IsGroupSettled durable) (get_or os i d) [] here (All-nil (IsGroupSettled durable))))
