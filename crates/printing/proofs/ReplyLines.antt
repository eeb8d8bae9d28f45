-- One reply more is printed.
use Rattle.std.proofs.Common.{◌≡◌, ◌∙◌, ℕ, ◌+◌, ◌<◌, List, [], ◌∷◌, ◌++◌, Option, length, get_or, take, sym, ap, subst, append-nil}
use Rattle.std.specs.Io.KnownBytes.{Appends}
use Rattle.std.proofs.KnownBytes.{Appends-trans}
use Rattle.std.proofs.lemmas.List.{take_more}
use Rattle.std.proofs.lemmas.Grind.{flat_map-append}
use Rattle.machine.specs.declared.events.Replied.{Replied}
use Rattle.printing.specs.Replied.{printed_reply, printed_replies}

lines_more : (replies : List Replied) (i : ℕ) (d : Replied) → i < length replies → printed_replies (take (i + 1) replies) ≡ printed_replies (take i replies) ++ printed_reply (get_or replies i d)
lines_more replies i d lt =
    ap printed_replies (take_more replies i d lt) ∙ flat_map-append printed_reply (take i replies) (get_or replies i d ∷ [])
    ∙ ap (λ (l : List ℕ). printed_replies (take i replies) ++ l) (append-nil (printed_reply (get_or replies i d)))

pub printed_more : (replies : List Replied) (i : ℕ) (d : Replied) (old mid new : Option (List ℕ)) → i < length replies
    → Appends old mid (printed_replies (take i replies)) → Appends mid new (printed_reply (get_or replies i d)) → Appends old new (printed_replies (take (i + 1) replies))
printed_more replies i d old mid new lt before here = subst (Appends old new) (sym (lines_more replies i d lt)) (Appends-trans old mid new _ _ before here)
