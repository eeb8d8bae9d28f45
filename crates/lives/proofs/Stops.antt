-- A turn with a stop, in one life of a run, has cut the disk of that life.
use Rattle.std.specs.Prelude.{◌≢◌}
use Rattle.std.proofs.Common.{◌≡◌, ◌⊎◌, ◌≤◌, ℕ, List, [], ◌∷◌, ◌++◌, Some, refl, ◌∙◌, ap, subst, append_assoc}
use Rattle.roadnet.specs.declared.groups.Group.{Group}
use Rattle.roadnet.specs.declared.refusals.Refusal.TheVariants.{Device}
use Rattle.disk.specs.declared.disk.Disk.{Ghosts}
use Rattle.disk.specs.declared.stoppable.Stoppable.{Ghosts as StoppableGhosts}
use Rattle.disk.specs.declared.stoppable.Pick.{Pick}
use Rattle.disk.specs.declared.stoppable.Pick.TheVariants.{Old}
use Rattle.machine.specs.declared.events.Writing.{Writing}
use Rattle.machine.specs.declared.events.Event.{Event}
use Rattle.machine.specs.declared.events.Event.TheVariants.{Submit, Flush, Checkpoint, CheckpointStep, Task, Publish, Ask, Stop, StopWithin}
use Rattle.machine.specs.declared.events.Replied.{Replied}
use Rattle.machine.specs.declared.events.Replied.TheVariants.{Refused, Opened, Stopped}
use Rattle.machine.specs.Machine.{Machine, IsState, groups_to}
use Rattle.machine.specs.LifeInRun.{within}
use Rattle.machine.specs.Lives.{StopComes}
use Rattle.lives.specs.Cutting.{IsCut, WasArmed, StopsOn, call_of, StandsAsTold, HasCut, TurnsTo, TurnsLast, picks_of}
use Rattle.keeper.specs.Keeping.{IsDurableIn, HoldsFor}
use Rattle.lives.specs.Rehearsing.{within_of, First, HasRun, BeginsAfter}
use Rattle.lives.proofs.LivesInRun.{Later, later_none}
use Rattle.lives.proofs.Runs.{Told, opens_then, holds_then, durable_then, opened_then, does_within}

-- the event's own reply, if one came, and the stop's
stops_on : {D : Type 0} (disk : Ghosts D) (stoppable : StoppableGhosts D) (old m : Machine) (event : Event Pick) (w : Writing) (call : ℕ) (replies : List Replied) (last : Replied) (now : D) → within_of event ≡ Some w → call_of event ≡ Some call
    → StopComes old w replies last m → WasArmed disk stoppable call old now → (replies ≡ last ∷ [] → stoppable.armed now ≡ Some 0) → (replies ≡ Refused Device ∷ last ∷ [] → stoppable.armed now ≢ Some 0) → StopsOn disk stoppable old event replies last now m
stops_on disk stoppable old m (StopWithin call' picks w') w call replies last now is names comes was alone own =
    let same : w ≡ w' = cc in
    let number : call ≡ call' = cc in
    (subst (λ (v : Writing). StopComes old v replies last m) same comes, subst (λ (n : ℕ). WasArmed disk stoppable n old now) number was, alone, own)
stops_on disk stoppable old m (Submit c) w call replies last now is names comes was alone own = cc
stops_on disk stoppable old m Flush w call replies last now is names comes was alone own = cc
stops_on disk stoppable old m Checkpoint w call replies last now is names comes was alone own = cc
stops_on disk stoppable old m (CheckpointStep pages) w call replies last now is names comes was alone own = cc
stops_on disk stoppable old m Task w call replies last now is names comes was alone own = cc
stops_on disk stoppable old m Publish w call replies last now is names comes was alone own = cc
stops_on disk stoppable old m (Ask query) w call replies last now is names comes was alone own = cc
stops_on disk stoppable old m Stop w call replies last now is names comes was alone own = cc

module _ {D : Type 0} (d : Ghosts D) (s : StoppableGhosts D)
    (first : First) (events : List (Event Pick)) (replies : List Replied) (history : List Group) (m : Machine) (r : HasRun first events replies history m) (mid : Machine) (l : Later m mid) where
  abbrev pub in_this : Machine → Machine
  in_this x = within first.network first.version history x

  cuts : (event : Event Pick) (told : List Replied) (last : Replied) (disk : D) (picks : List Pick) (cut : List ℕ) → StopsOn d s (in_this m) event told last disk (in_this mid) → HoldsFor d disk mid → IsCut d s picks disk cut
      → StandsAsTold (in_this mid) last cut → HasCut d s (in_this m) event told picks cut
  cuts event told last disk picks cut stops h taken stands = record {
    machine = in_this mid;
    stopped = disk;
    told = last;
    stops = stops;
    holds = (h.0, holds_then first events replies history m r mid l (d.content disk) (d.left disk) h.1);
    is_cut = taken;
    stands = stands;
  }

  -- the disk was armed in this life
  pub was_armed : (call : ℕ) (before disk : D) → IsState m → HoldsFor d before m → (1 ≤ call → (s.armed before ≡ Some call) ⊎ (s.armed before ≡ Some 0)) → d.moment before ≤ d.moment disk → WasArmed d s call (in_this m) disk
  was_armed call before disk state h armed_then later = record {
    before = before;
    holds = (h.0, holds_then first events replies history m r m (later_none m state) (d.content before) (d.left before) h.1);
    is_armed = armed_then;
    later = later;
  }

  -- ---- within an event, or behind it
  module _ (event : Event Pick) (w : Writing) (picks : List Pick) (is : within_of event ≡ Some w) (call : ℕ) (names : call_of event ≡ Some call) (taken_of : picks_of event ≡ Some picks) (replies' : List Replied) (t : Told (in_this m) (in_this mid) w replies replies')
      (disk : D) (h : HoldsFor d disk mid) (cut : List ℕ) (taken : IsCut d s picks disk cut) (was : WasArmed d s call (in_this m) disk)
      (alone : (last : Replied) → t.told ++ last ∷ [] ≡ last ∷ [] → s.armed disk ≡ Some 0) (own : (last : Replied) → t.told ++ last ∷ [] ≡ Refused Device ∷ last ∷ [] → s.armed disk ≢ Some 0) where
    pub within_turn : (next : Machine) (now : List Replied) (history' : List Group) (began : List ℕ) → BeginsAfter mid next → StandsAsTold mid (Opened next.base_version) cut → now ≡ replies' ++ Opened next.base_version ∷ []
        → history' ≡ history ++ groups_to mid next.base_version → began ≡ cut → TurnsTo d s (in_this m) event replies now (within first.network first.version history' next) began
    within_turn next now history' began b stands told left_of same =
        let final : Replied = Opened next.base_version in
        rw (left_of, same) (record {
          told = t.told ++ final ∷ [];
          replies_are = told ∙ (ap (λ (rs : List Replied). rs ++ final ∷ []) t.is ∙ append_assoc replies t.told (final ∷ []));
          does = does_within first events replies history m r mid l event w t.told next is t.comes b;
          has_cut = rw taken_of (cuts event (t.told ++ final ∷ []) final disk picks cut (stops_on d s (in_this m) (in_this mid) event w call (t.told ++ final ∷ []) final disk is names (t.comes final) was (alone final) (own final)) h taken
              (opened_then first events replies history m r mid l next.base_version cut stands));
        })

    pub within_last : (now : List Replied) → IsDurableIn mid cut → now ≡ replies' ++ Stopped ∷ [] → TurnsLast d s (in_this m) event replies now
    within_last now held told = record {
      told = t.told ++ Stopped ∷ [];
      replies_are = told ∙ (ap (λ (rs : List Replied). rs ++ Stopped ∷ []) t.is ∙ append_assoc replies t.told (Stopped ∷ []));
      has_cut = rw taken_of (
        cut,
        cuts event (t.told ++ Stopped ∷ []) Stopped disk picks cut (stops_on d s (in_this m) (in_this mid) event w call (t.told ++ Stopped ∷ []) Stopped disk is names (t.comes Stopped) was (alone Stopped) (own Stopped)) h taken
            (durable_then first events replies history m r mid l cut held),
      );
    }

module _ {D : Type 0} (d : Ghosts D) (s : StoppableGhosts D)
    (first : First) (events : List (Event Pick)) (replies : List Replied) (history : List Group) (m : Machine) (r : HasRun first events replies history m) (state : IsState m)
    (disk : D) (h : HoldsFor d disk m) (cut : List ℕ) (taken : IsCut d s (Old ∷ []) disk cut) where
  -- ---- between two calls
  abbrev pub in_now : Machine → Machine
  in_now x = within first.network first.version history x

  pub stop_turn : (next : Machine) (now : List Replied) (history' : List Group) (began : List ℕ) → BeginsAfter m next → StandsAsTold m (Opened next.base_version) cut → now ≡ replies ++ Opened next.base_version ∷ []
      → history' ≡ history ++ groups_to m next.base_version → began ≡ cut → TurnsTo d s (in_now m) Stop replies now (within first.network first.version history' next) began
  stop_turn next now history' began b stands told left_of same =
      rw (left_of, same) (record {
        told = Opened next.base_version ∷ [];
        replies_are = told;
        does = (next.base_version, opens_then first events replies history m r m (later_none m state) next b, refl);
        has_cut = cuts d s first events replies history m r m (later_none m state) Stop (Opened next.base_version ∷ []) (Opened next.base_version) disk (Old ∷ []) cut (refl, refl) h taken
            (opened_then first events replies history m r m (later_none m state) next.base_version cut stands);
      })

  pub stop_last : (now : List Replied) → IsDurableIn m cut → now ≡ replies ++ Stopped ∷ [] → TurnsLast d s (in_now m) Stop replies now
  stop_last now held told = record {
    told = Stopped ∷ [];
    replies_are = told;
    has_cut = (cut, cuts d s first events replies history m r m (later_none m state) Stop (Stopped ∷ []) Stopped disk (Old ∷ []) cut (refl, refl) h taken (durable_then first events replies history m r m (later_none m state) cut held));
  }
