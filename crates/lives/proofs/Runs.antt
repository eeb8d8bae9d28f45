-- A run of events goes on, and ends.
use Rattle.std.proofs.Common.{◌≡◌, ◌⊎◌, ⊎_elim, inl, inr, ℕ, ◌+◌, ◌-◌, ◌≤◌, false, List, [], ◌∷◌, ◌++◌, length, take, Option, Some, None, refl, sym, ◌∙◌, ap, subst, arith, append_assoc}
use Rattle.std.proofs.lemmas.List.{append-nil}
use Rattle.roadnet.specs.declared.groups.Group.{Group}
use Rattle.roadnet.specs.declared.refusals.Refusal.{Refusal}
use Rattle.roadnet.specs.declared.refusals.Refusal.TheVariants.{OutOfMemory, Device}
use Rattle.roadnet.specs.Step.{after}
use Rattle.storefile.specs.StoreFile.{StandsTidyFor}
use Rattle.disk.specs.Contents.{Only}
use Rattle.store.specs.State.{StoreState, IsDurable}
use Rattle.store.proofs.StateKept.{left_durable}
use Rattle.keeper.proofs.Held.{at_base}
use Rattle.lives.specs.Cutting.{StandsAsTold}
use Rattle.keeper.specs.Keeping.{IsDurableIn, Holds, sizes_of}
use Rattle.machine.specs.declared.events.Writing.{Writing}
use Rattle.machine.specs.declared.events.Event.{Event}
use Rattle.machine.specs.declared.events.Event.TheVariants.{Submit, Flush, Checkpoint, CheckpointStep, Task, Publish, Ask, Stop, StopWithin}
use Rattle.machine.specs.declared.events.Replied.{Replied}
use Rattle.machine.specs.declared.events.Replied.TheVariants.{Refused, Opened, Stopped}
use Rattle.machine.specs.Machine.{Sizes, Machine, IsState, start, most_versions, groups_to}
use Rattle.machine.specs.Calls.{StopsAndOpens}
use Rattle.machine.specs.LifeInRun.{within}
use Rattle.machine.specs.Lives.{Writes, StopComes, Does, StopsFor, Lives, HoldsDurable}
use Rattle.machine.proofs.InRun.{holds_in, groups_in, network_in}
use Rattle.machine.proofs.Kept.{left_between}
use Rattle.machine.proofs.Rehearsing.{Ran, ran_more, lives_whole, lives_no_memory, lives_not_opened}
use Rattle.lives.specs.Rehearsing.{is_stop, within_of, First, HasRun, HasLived, BeginsAfter}
use Rattle.lives.proofs.LivesInRun.{Later, later_none, does_later, does_in, writes_in}
use Rattle.lives.proofs.Stopped.{opens_in, there_after, begun_after, sizes_after}

-- what was told of a write before the stop's own reply
pub record Told (old mid : Machine) (w : Writing) (replies replies' : List Replied) : Type 0 where
  pub told : List Replied
  pub comes : (final : Replied) → StopComes old w (told ++ final ∷ []) final mid
  pub is : replies' ≡ replies ++ told

-- lists that are known by equations alone
pub run_as : {P : Type 0} (first : First) (events : List (Event P)) (replies replies' : List Replied) (history history' : List Group) (m : Machine) → replies' ≡ replies → history' ≡ history → HasRun first events replies history m → HasRun first events replies' history' m
run_as first events replies replies' history history' m a b r =
    subst (λ (rs : List Replied). HasRun first events rs history' m) (sym a) (subst (λ (cs : List Group). HasRun first events replies cs m) (sym b) r)

pub lives_as : {P : Type 0} (left : List ℕ → Type 0) (first : First) (events : List (Event P)) (replies replies' : List Replied) (ended : Option Refusal) (history history' : List Group) → replies' ≡ replies → history' ≡ history
    → HasLived left first events replies ended history → HasLived left first events replies' ended history'
lives_as left first events replies replies' ended history history' a b r =
    subst (λ (rs : List Replied). HasLived left first events rs ended history') (sym a)
    (subst (λ (cs : List Group). HasLived left first events replies ended cs) (sym b) r)

pub lives_of : {P : Type 0} (left : List ℕ → Type 0) (first : First) (events events' : List (Event P)) (replies : List Replied) (ended : Option Refusal) (history : List Group) → events ≡ events'
    → HasLived left first events replies ended history → HasLived left first events' replies ended history
lives_of left first events events' replies ended history e r =
    subst (λ (es : List (Event _)). HasLived left first es replies ended history) e r

-- what a stop leaves of a store that was just opened
pub held_at_start : {D : Type 0} (s : StoreState D) (content : List ℕ) (left : List ℕ → Type 0) → Only content left → IsDurable s content → (c : List ℕ) → left c → IsDurableIn (start (sizes_of s) s.network s.version s.unchecked) c
held_at_start s content left only stands c was = record {
  version = s.version;
  left = inl refl;
  network = s.network;
  network_is = at_base s.network s.network (s.version - s.version) [] refl refl;
  stands = left_durable s content left only stands c was;
}

-- what was durable of a life that has halted
pub durable_front : (opened durable : ℕ) (m : Machine) (groups : List Group) → opened ≡ m.base_version → durable ≡ m.durable → groups ≡ m.accepted → take (durable - opened) groups ≡ take (m.durable - m.base_version) m.accepted
durable_front opened durable m groups a b c = rw (a, b, c) refl

module _ {P : Type 0} (first : First) (events : List (Event P)) (replies : List Replied) (history : List Group) (m : Machine) (r : HasRun first events replies history m) where
  abbrev pub in_run : Machine → Machine
  in_run x = within first.network first.version history x

  ran : Ran (start first.sizes first.network first.version first.unchecked) events replies (in_run m)
  ran = record { turns = r.turns; events_are = r.events_are; replies_are = r.replies_are; passes = r.passes }

  durable_as : (x : Machine) (c : List ℕ) → x.sizes ≡ first.sizes → IsDurableIn x c → HoldsDurable (StandsTidyFor first.sizes.journal_pages first.sizes.checkpoint_pages) x c
  durable_as x c is held = subst (λ (z : Sizes). HoldsDurable (StandsTidyFor z.journal_pages z.checkpoint_pages) x c) is held

  -- one event more
  pub run_more : (e : Event P) (now : List Replied) (new : Machine) → is_stop e ≡ false → IsState m → Does m e now new → HasRun first (events ++ e ∷ []) (replies ++ now) history new
  run_more e now new calm s does =
      let later = does_later e m new now calm s does in
      let all = ran_more _ _ events replies ran (in_run new) e now (does_in first.network first.version history m new r.there r.begun s e now calm does) in
      record {
        turns = all.turns;
        events_are = all.events_are;
        replies_are = all.replies_are;
        passes = all.passes;
        version_to = r.version_to;
        unchecked_to = r.unchecked_to;
        there = r.there ∙ ap Some (sym later.later.base);
        begun = later.later.base_version ∙ r.begun;
        sizes_are = later.later.sizes ∙ r.sizes_are;
      }

  -- ---- a stop, of which the machine in the life was mid
  module _ (mid : Machine) (l : Later m mid) where
    begun_then : mid.base_version ≡ first.version + length history
    begun_then = l.later.base_version ∙ r.begun

    there_then : after first.network history ≡ Some mid.base
    there_then = r.there ∙ ap Some (sym l.later.base)

    abbrev pub history_with : Machine → List Group
    history_with next = history ++ groups_to mid next.base_version

    pub opens_then : (next : Machine) → BeginsAfter mid next → StopsAndOpens (in_run mid) next.base_version (within first.network first.version (history_with next) next)
    opens_then next b = opens_in first.network first.version history mid next begun_then l.state b

    -- what the disk holds for the life, it holds for the run
    pub durable_then : (c : List ℕ) → IsDurableIn mid c → IsDurableIn (in_run mid) c
    durable_then c held = holds_in (StandsTidyFor mid.sizes.journal_pages mid.sizes.checkpoint_pages) first.network first.version history mid c begun_then there_then l.state held

    pub holds_then : (content : List ℕ) (left : List ℕ → Type 0) → Holds content left mid → Holds content left (in_run mid)
    holds_then content left h = record { only = h.only; each_left = λ c was. durable_then c (h.each_left c was) }

    pub opened_then : (version : ℕ) (c : List ℕ) → StandsAsTold mid (Opened version) c → StandsAsTold (in_run mid) (Opened version) c
    opened_then version c h =
        let between = left_between mid l.state h.0.version h.0.left in
        let later : mid.base_version ≤ h.0.version = omega (arith, between.0, between.1, l.state.base_opened, l.state.opened_shown, l.state.shown_durable) in (
          record {
            version = h.0.version;
            left = h.0.left;
            network = h.0.network;
            network_is = network_in first.network first.version history mid begun_then there_then h.0.version later ∙ h.0.network_is;
            stands = h.0.stands;
          },
          h.1,
        )

    pub run_opened : (e : Event P) (now : List Replied) (next : Machine) → BeginsAfter mid next → Does (in_run m) e now (within first.network first.version (history_with next) next) → HasRun first (events ++ e ∷ []) (replies ++ now) (history_with next) next
    run_opened e now next b does =
        let all = ran_more _ _ events replies ran (within first.network first.version (history_with next) next) e now does in
        record {
          turns = all.turns;
          events_are = all.events_are;
          replies_are = all.replies_are;
          passes = all.passes;
          version_to = r.version_to;
          unchecked_to = r.unchecked_to;
          there = there_after first.network first.version history mid next begun_then l.state b there_then;
          begun = begun_after first.network first.version history mid next begun_then l.state b;
          sizes_are = sizes_after first.network first.version history mid next begun_then l.state b ∙ (l.later.sizes ∙ r.sizes_are);
        }

    sizes_then : mid.sizes ≡ first.sizes
    sizes_then = l.later.sizes ∙ r.sizes_are

    -- what is left is not opened, or has no first view
    pub run_not_opened : (left : List ℕ → Type 0) (e : Event P) (now : List Replied) (rest : List (Event P)) (ended : Option Refusal) → StopsFor (in_run m) e now (in_run mid) → (ended ≡ Some OutOfMemory) ⊎ (ended ≡ Some Device)
        → ((c : List ℕ) → left c → IsDurableIn mid c)
        → HasLived left first ((events ++ e ∷ []) ++ rest) (replies ++ now) ended (history ++ take (mid.durable - mid.base_version) mid.accepted)
    run_not_opened left e now rest ended stops why each = record {
      version_to = r.version_to;
      unchecked_to = r.unchecked_to;
      last = in_run mid;
      lives = subst (λ (h : List Group). Lives (start first.sizes first.network first.version first.unchecked) ((events ++ e ∷ []) ++ rest) (replies ++ now) ended h (in_run mid))
          (groups_in first.network first.version history mid begun_then mid.durable (omega (arith, l.state.base_opened, l.state.opened_shown, l.state.shown_durable)))
          (lives_not_opened _ _ events replies ran (in_run mid) e now rest ended stops why);
      each_left = λ c was. holds_in (StandsTidyFor first.sizes.journal_pages first.sizes.checkpoint_pages) first.network first.version history mid c begun_then there_then l.state (durable_as mid c sizes_then (each c was));
    }

    -- the disk stops within the event, or behind it
    pub cut_within : (w : Writing) (final : Replied) → Writes m w (Refused Device) mid → IsState m → StopComes (in_run m) w (final ∷ []) final (in_run mid)
    cut_within w final writes s = inl (writes_in first.network first.version history m mid r.there r.begun s w (Refused Device) writes, refl)

    pub cut_behind : (w : Writing) (reply final : Replied) → Writes m w reply mid → IsState m → StopComes (in_run m) w (reply ∷ final ∷ []) final (in_run mid)
    cut_behind w reply final writes s = inr (reply, writes_in first.network first.version history m mid r.there r.begun s w reply writes, refl)

    -- what is told before the stop's own reply
    abbrev pub TellsBefore : Writing → List Replied → Type 0
    TellsBefore w told = (final : Replied) → StopComes (in_run m) w (told ++ final ∷ []) final (in_run mid)

    pub tells_nothing : (w : Writing) → IsState m → Writes m w (Refused Device) mid → TellsBefore w []
    tells_nothing w s writes final = cut_within w final writes s

    pub tells_answer : (w : Writing) (reply : Replied) → IsState m → Writes m w reply mid → TellsBefore w (reply ∷ [])
    tells_answer w reply s writes final = cut_behind w reply final writes s

    pub does_within : (e : Event P) (w : Writing) (told : List Replied) (next : Machine) → within_of e ≡ Some w → TellsBefore w told → BeginsAfter mid next
        → Does (in_run m) e (told ++ Opened next.base_version ∷ []) (within first.network first.version (history_with next) next)
    does_within e w told next is tells b = does e is
      where
        does : (x : Event P) → within_of x ≡ Some w → Does (in_run m) x (told ++ Opened next.base_version ∷ []) (within first.network first.version (history_with next) next)
        does (StopWithin call picks w') is =
            let same : w ≡ w' = cc in
            (in_run mid, next.base_version, subst (λ (v : Writing). StopComes (in_run m) v (told ++ Opened next.base_version ∷ []) (Opened next.base_version) (in_run mid)) same (tells (Opened next.base_version)), opens_then next b)
        does (Submit c) is = cc
        does Flush is = cc
        does Checkpoint is = cc
        does (CheckpointStep pages) is = cc
        does Task is = cc
        does Publish is = cc
        does (Ask query) is = cc
        does Stop is = cc

    pub opened_within : (e : Event P) (w : Writing) (told : List Replied) (next : Machine) → within_of e ≡ Some w → TellsBefore w told → BeginsAfter mid next
        → HasRun first (events ++ e ∷ []) ((replies ++ told) ++ Opened next.base_version ∷ []) (history_with next) next
    opened_within e w told next is tells b =
        subst (λ (rs : List Replied). HasRun first (events ++ e ∷ []) rs (history_with next) next) (sym (append_assoc replies told (Opened next.base_version ∷ [])))
        (run_opened e (told ++ Opened next.base_version ∷ []) next b (does_within e w told next is tells b))

    pub not_opened_within : (left : List ℕ → Type 0) (e : Event P) (w : Writing) (told : List Replied) (rest : List (Event P)) (ended : Option Refusal) → within_of e ≡ Some w → TellsBefore w told → (ended ≡ Some OutOfMemory) ⊎ (ended ≡ Some Device)
        → ((c : List ℕ) → left c → IsDurableIn mid c)
        → HasLived left first ((events ++ e ∷ []) ++ rest) ((replies ++ told) ++ Stopped ∷ []) ended (history ++ take (mid.durable - mid.base_version) mid.accepted)
    not_opened_within left e w told rest ended is tells why each =
        subst (λ (rs : List Replied). HasLived left first ((events ++ e ∷ []) ++ rest) rs ended (history ++ take (mid.durable - mid.base_version) mid.accepted)) (sym (append_assoc replies told (Stopped ∷ [])))
        (run_not_opened left e (told ++ Stopped ∷ []) rest ended (stops e is) why each)
      where
        stops : (x : Event P) → within_of x ≡ Some w → StopsFor (in_run m) x (told ++ Stopped ∷ []) (in_run mid)
        stops (StopWithin call picks w') is =
            let same : w ≡ w' = cc in
            subst (λ (v : Writing). StopComes (in_run m) v (told ++ Stopped ∷ []) Stopped (in_run mid)) same (tells Stopped)
        stops (Submit c) is = cc
        stops Flush is = cc
        stops Checkpoint is = cc
        stops (CheckpointStep pages) is = cc
        stops Task is = cc
        stops Publish is = cc
        stops (Ask query) is = cc
        stops Stop is = cc

    pub told_of : (w : Writing) (reply : Replied) (replies' : List Replied) → IsState m → Writes m w reply mid
        → (replies' ≡ replies ++ reply ∷ []) ⊎ ((reply ≡ Refused Device) × (replies' ≡ replies)) → Told (in_run m) (in_run mid) w replies replies'
    told_of w reply replies' s writes told =
        ⊎_elim (λ all. record { told = reply ∷ []; comes = tells_answer w reply s writes; is = all })
        (λ cut. record { told = []; comes = tells_nothing w s (subst (λ (x : Replied). Writes m w x mid) cut.0 writes); is = cut.1 ∙ sym (append-nil replies) }) told

    pub opened_told : (e : Event P) (w : Writing) (replies' : List Replied) (next : Machine) → within_of e ≡ Some w → Told (in_run m) (in_run mid) w replies replies' → BeginsAfter mid next → HasRun first (events ++ e ∷ []) (replies' ++ Opened next.base_version ∷ []) (history_with next) next
    opened_told e w replies' next is t b =
        run_as first (events ++ e ∷ []) ((replies ++ t.told) ++ Opened next.base_version ∷ []) (replies' ++ Opened next.base_version ∷ []) (history_with next) (history_with next) next
        (ap (λ (rs : List Replied). rs ++ Opened next.base_version ∷ []) t.is) refl
        (opened_within e w t.told next is t.comes b)

    pub not_opened_told : (left : List ℕ → Type 0) (e : Event P) (w : Writing) (replies' : List Replied) (rest : List (Event P)) (ended : Option Refusal) → within_of e ≡ Some w → Told (in_run m) (in_run mid) w replies replies' → (ended ≡ Some OutOfMemory) ⊎ (ended ≡ Some Device)
        → ((c : List ℕ) → left c → IsDurableIn mid c)
        → HasLived left first ((events ++ e ∷ []) ++ rest) (replies' ++ Stopped ∷ []) ended (history ++ take (mid.durable - mid.base_version) mid.accepted)
    not_opened_told left e w replies' rest ended is t why each =
        lives_as left first ((events ++ e ∷ []) ++ rest) ((replies ++ t.told) ++ Stopped ∷ []) (replies' ++ Stopped ∷ []) ended (history ++ take (mid.durable - mid.base_version) mid.accepted) (history ++ take (mid.durable - mid.base_version) mid.accepted)
        (ap (λ (rs : List Replied). rs ++ Stopped ∷ []) t.is) refl
        (not_opened_within left e w t.told rest ended is t.comes why each)

  -- ---- a stop between two calls
  pub opened_by_stop : (next : Machine) → IsState m → BeginsAfter m next → HasRun first (events ++ Stop ∷ []) (replies ++ Opened next.base_version ∷ []) (history ++ groups_to m next.base_version) next
  opened_by_stop next s b = run_opened m (later_none m s) Stop (Opened next.base_version ∷ []) next b (next.base_version, opens_then m (later_none m s) next b, refl)

  pub not_opened_by_stop : (left : List ℕ → Type 0) (rest : List (Event P)) (ended : Option Refusal) → IsState m → (ended ≡ Some OutOfMemory) ⊎ (ended ≡ Some Device) → ((c : List ℕ) → left c → IsDurableIn m c)
      → HasLived left first ((events ++ Stop ∷ []) ++ rest) (replies ++ Stopped ∷ []) ended (history ++ take (m.durable - m.base_version) m.accepted)
  not_opened_by_stop left rest ended s why each = run_not_opened m (later_none m s) left Stop (Stopped ∷ []) rest ended (refl, refl) why each

  -- ---- every event was run, or no memory is given for the next one
  module _ (left : List ℕ → Type 0) (s : IsState m) (each : (c : List ℕ) → left c → IsDurableIn m c) where
    pub run_whole : HasLived left first events replies None (history ++ m.accepted)
    run_whole = record {
      version_to = r.version_to;
      unchecked_to = r.unchecked_to;
      last = in_run m;
      lives = lives_whole _ _ events replies ran;
      each_left = λ c was. holds_in (StandsTidyFor first.sizes.journal_pages first.sizes.checkpoint_pages) first.network first.version history m c r.begun r.there s (durable_as m c r.sizes_are (each c was));
    }

    pub run_no_memory : (rest : List (Event P)) → (rest ≡ [] → events ≡ []) → HasLived left first (events ++ rest) replies (Some OutOfMemory) (history ++ m.accepted)
    run_no_memory rest before = record {
      version_to = r.version_to;
      unchecked_to = r.unchecked_to;
      last = in_run m;
      lives = lives_no_memory _ _ events replies ran rest before;
      each_left = λ c was. holds_in (StandsTidyFor first.sizes.journal_pages first.sizes.checkpoint_pages) first.network first.version history m c r.begun r.there s (durable_as m c r.sizes_are (each c was));
    }

-- a run that begins
pub run_none : {P : Type 0} (first : First) → first.version ≤ most_versions → first.unchecked ≤ first.sizes.journal_pages
    → HasRun {P = P} first [] [] [] (start first.sizes first.network first.version first.unchecked)
run_none first low few = record {
  turns = [];
  events_are = refl;
  replies_are = refl;
  passes = refl;
  version_to = low;
  unchecked_to = few;
  there = refl;
  begun = omega arith;
  sizes_are = refl;
}
