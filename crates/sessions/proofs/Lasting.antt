-- What is left of sessions that have ended.
use Rattle.std.proofs.Common.{◌≡◌, ◌∙◌, ◌≤◌, List, [], ◌∷◌, ◌++◌, All, Option, None, Some, get_or, refl, sym, subst}
use Rattle.std.proofs.lemmas.List.{append-nil}
use Rattle.std.proofs.lemmas.List.Elements.{All-push, All-nil}
use Rattle.std.specs.Option.{ForSome}
use Rattle.std.specs.Prelude.{IfSome}
use mathlib.Core.List.{IsPrefix}
use Rattle.history.specs.Origins.{Origin, Beginning}
use Rattle.history.specs.Claims.{IsAcknowledgedIn}
use Rattle.history.proofs.Beginnings.{acknowledged_more, prefix_trans}
use Rattle.machine.specs.declared.calls.Ticket.{Ticket}
use Rattle.sessions.specs.Told.{HaveReceipts, known_to}
use Rattle.sessions.specs.Turns.{SessionStanding, IsSessionAt, IsSessionKept, new_state}
use Rattle.sessions.specs.Past.{AreLeft, HoldsMore}
use Rattle.sessions.proofs.Answered.{kept_in}

-- a beginning has what one has that begins it
pub holds_joined : (origin : Origin) (less more : Beginning) → more.origin ≡ less.origin → less.origin ≡ origin → IsPrefix less.groups more.groups → less.acknowledged ≤ more.acknowledged
    → HoldsMore origin (Some less) (Some more)
holds_joined origin less more same of begins told = (
  (λ tickets held. (same ∙ of, λ k d lt. acknowledged_more less more (get_or tickets k d) same begins told (held.1 k d lt))),
  begins,
)

pub holds_same : (origin : Origin) (one : Option Beginning) → HoldsMore origin one one
holds_same origin one = ((λ tickets held. held), ([], append-nil (known_to one)))

-- nothing is had of no beginning
pub holds_of_none : (origin : Origin) (front : Beginning) → front.origin ≡ origin → HoldsMore origin None (Some front)
holds_of_none origin front of = (
  (λ tickets none. (of, subst (λ (ts : List Ticket). All (IsAcknowledgedIn front) ts) (sym none) (All-nil (IsAcknowledgedIn front)))),
  (front.groups, refl),
)

pub holds_nothing : (origin : Origin) (more : Option Beginning) → ForSome more (λ front. front.origin ≡ origin) → HoldsMore origin None more
holds_nothing origin None of = holds_same origin None
holds_nothing origin (Some front) of = holds_of_none origin front (of front refl)

-- one session more
pub left_with : (origin : Origin) (receipts more_receipts all_receipts seen more_seen all_seen place_receipts place : Option Beginning) (sessions : List SessionStanding) (last : SessionStanding)
    → HoldsMore origin receipts all_receipts → HoldsMore origin more_receipts all_receipts → HoldsMore origin seen all_seen → HoldsMore origin more_seen all_seen
    → more_receipts ≡ place_receipts → more_seen ≡ place
    → AreLeft origin receipts seen sessions → IsSessionAt origin place place_receipts last → AreLeft origin all_receipts all_seen (sessions ++ last ∷ [])
left_with origin receipts more_receipts all_receipts seen more_seen all_seen place_receipts place sessions last had more had_seen more_seen_in same known left is =
    All-push (λ (one : SessionStanding). HaveReceipts origin all_receipts one.durable × IsPrefix one.state.known (known_to all_seen)) sessions last
    (λ k d lt. (had.0 _ ((left k d lt).0), prefix_trans _ _ _ ((left k d lt).1) had_seen.1)) (
      more.0 _ (subst (λ (f : Option Beginning). HaveReceipts origin f last.durable) (sym same) is.durable),
      rw is.known (subst (λ (f : Option Beginning). IsPrefix (known_to f) (known_to all_seen)) known more_seen_in.1),
    )

-- what was told is in the closed history, and what was seen was shown
pub kept_of : (origin : Origin) (whole shown : Beginning) (receipts seen : Option Beginning) (last : SessionStanding) → whole.origin ≡ origin
    → IfSome receipts (λ front. IsPrefix front.groups whole.groups × (front.acknowledged ≤ whole.acknowledged)) → IsPrefix (known_to seen) shown.groups
    → HaveReceipts origin receipts last.durable × IsPrefix last.state.known (known_to seen) → IsSessionKept whole shown last
kept_of origin whole shown receipts seen last same holds was_shown has =
    let unseen : SessionStanding = record { left = []; told = []; durable = last.durable; group = None; state = new_state } in
    let receipted = kept_in origin whole shown None receipts unseen same holds (shown.groups, refl) (record { known = refl; durable = has.0 }) in
    record {
      durable = receipted.durable;
      known = λ kept keeps. prefix_trans last.state.known shown.groups kept (prefix_trans last.state.known (known_to seen) shown.groups has.1 was_shown) keeps.shown_too;
    }

pub all_kept : (origin : Origin) (whole shown : Beginning) (receipts seen : Option Beginning) (sessions : List SessionStanding) → whole.origin ≡ origin
    → IfSome receipts (λ front. IsPrefix front.groups whole.groups × (front.acknowledged ≤ whole.acknowledged)) → IsPrefix (known_to seen) shown.groups
    → AreLeft origin receipts seen sessions → All (IsSessionKept whole shown) sessions
all_kept origin whole shown receipts seen sessions same holds was_shown left = λ k d lt. kept_of origin whole shown receipts seen (get_or sessions k d) same holds was_shown (left k d lt)
