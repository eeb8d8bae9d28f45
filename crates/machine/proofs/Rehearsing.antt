-- For a loop over a script's events: how far its run has come, and how it ends.
use Rattle.std.proofs.Common.{◌≡◌, ◌⊎◌, List, [], ◌∷◌, ◌++◌, Option, None, Some, refl, sym, ◌∙◌, ap}
use Rattle.std.specs.Prelude.{map}
use Rattle.std.specs.List.{flat_map}
use Rattle.std.proofs.lemmas.List.{append-nil, map-append}
use Rattle.std.proofs.lemmas.List.Concat.{flat_map-append}
use Rattle.roadnet.specs.declared.refusals.Refusal.{Refusal}
use Rattle.roadnet.specs.declared.refusals.Refusal.TheVariants.{OutOfMemory, Device}
use Rattle.machine.specs.declared.events.Event.{Event}
use Rattle.machine.specs.declared.events.Replied.{Replied}
use Rattle.machine.specs.Machine.{Machine, groups_to}
use Rattle.machine.specs.Lives.{Does, StopsFor, Turn, Passes, Lives}
use Rattle.machine.specs.Lives.Ends.{Whole, NoMemory, NotOpened}
use Rattle.machine.proofs.OverLives.{passes_more}

-- these events were replied to so, and led to m
pub record Ran {P : Type 0} (first : Machine) (events : List (Event P)) (replies : List Replied) (m : Machine) : Type 0 where
  pub turns : List (Turn P)
  pub events_are : events ≡ map (λ turn. turn.0) turns
  pub replies_are : replies ≡ flat_map (λ turn. turn.1) turns
  pub passes : Passes first turns m

pub ran_none : (P : Type 0) (first : Machine) → Ran {P = P} first [] [] first
ran_none P first = record { turns = []; events_are = refl; replies_are = refl; passes = refl }

pub events_more : {P : Type 0} (turns : List (Turn P)) (events : List (Event P)) (e : Event P) (now : List Replied) → events ≡ map (λ turn. turn.0) turns → events ++ e ∷ [] ≡ map (λ turn. turn.0) (turns ++ (e, now) ∷ [])
events_more turns events e now are = ap (λ (xs : List (Event _)). xs ++ e ∷ []) are ∙ sym (map-append (λ (turn : Turn _). turn.0) turns ((e, now) ∷ []))

pub replies_more : {P : Type 0} (turns : List (Turn P)) (replies : List Replied) (e : Event P) (now : List Replied) → replies ≡ flat_map (λ turn. turn.1) turns → replies ++ now ≡ flat_map (λ turn. turn.1) (turns ++ (e, now) ∷ [])
replies_more turns replies e now are =
    ap (λ (xs : List Replied). xs ++ now) are
    ∙ (ap (λ (xs : List Replied). flat_map (λ (turn : Turn _). turn.1) turns ++ xs) (sym (append-nil now))
    ∙ sym (flat_map-append (λ (turn : Turn _). turn.1) turns ((e, now) ∷ [])))

module _ {P : Type 0} (first m : Machine) (events : List (Event P)) (replies : List Replied) (r : Ran first events replies m) where
  pub ran_more : (new : Machine) (e : Event P) (now : List Replied) → Does m e now new → Ran first (events ++ e ∷ []) (replies ++ now) new
  ran_more new e now does = record {
    turns = r.turns ++ (e, now) ∷ [];
    events_are = events_more r.turns events e now r.events_are;
    replies_are = replies_more r.turns replies e now r.replies_are;
    passes = passes_more r.turns (e, now) first m new r.passes does;
  }

  pub lives_whole : Lives first events replies None m.accepted m
  lives_whole = record {
    turns = r.turns;
    rest = [];
    events_are = r.events_are ∙ sym (append-nil (map (λ turn. turn.0) r.turns));
    replies_are = r.replies_are;
    ends = Whole r.passes refl refl refl;
  }

  no_turns : (turns : List (Turn P)) → map (λ turn. turn.0) turns ≡ [] → turns ≡ []
  no_turns [] e = refl
  no_turns (turn ∷ turns) e = absurd cc

  pub lives_no_memory : (rest : List (Event P)) → (rest ≡ [] → events ≡ []) → Lives first (events ++ rest) replies (Some OutOfMemory) m.accepted m
  lives_no_memory rest before = record {
    turns = r.turns;
    rest = rest;
    events_are = ap (λ (xs : List (Event P)). xs ++ rest) r.events_are;
    replies_are = r.replies_are;
    ends = NoMemory r.passes (λ e. no_turns r.turns (sym r.events_are ∙ before e)) refl refl;
  }

  pub lives_not_opened : (last : Machine) (e : Event P) (now : List Replied) (rest : List (Event P)) (ended : Option Refusal) → StopsFor m e now last → (ended ≡ Some OutOfMemory) ⊎ (ended ≡ Some Device)
      → Lives first ((events ++ e ∷ []) ++ rest) (replies ++ now) ended (groups_to last last.durable) last
  lives_not_opened last e now rest ended stops why = record {
    turns = r.turns ++ (e, now) ∷ [];
    rest = rest;
    events_are = ap (λ (xs : List (Event P)). xs ++ rest) (events_more r.turns events e now r.events_are);
    replies_are = replies_more r.turns replies e now r.replies_are;
    ends = NotOpened r.turns (e, now) m refl r.passes stops why refl;
  }
