-- The commands in flight.
use Rattle.std.proofs.Common.{◌≡◌, inl, inr, ℕ, Bool, true, false, List, [], None, refl, sym, ◌∙◌, ap, subst}
use Rattle.std.specs.Prelude.{Result, Ok, Err, OnOk, OnErr, IfErr, MatchResult, if◌then◌else◌}
use Rattle.std.specs.Bool.{Decides}
use Rattle.disk.specs.declared.disk.Disk.{Ghosts}
use Rattle.roadnet.specs.declared.commands.Command.{Command}
use Rattle.roadnet.specs.declared.refusals.Refusal.{Refusal}
use Rattle.roadnet.specs.declared.refusals.Refusal.TheVariants.{Device}
use Rattle.roadnet.specs.Net.{Net}
use Rattle.pages.specs.declared.header.Header.{Header}
use Rattle.pages.specs.Layout.{slot_pages}
use Rattle.storefile.specs.StoreFile.{StandsTidyFor}
use Rattle.storefile.specs.Standing.{IsBeforeOrAfter}
use Rattle.store.specs.declared.paged.state.Paged.{Paged}
use Rattle.store.specs.Committing.{MayRefuseCommit, refusal_of_commit}
use Rattle.store.specs.Checkpointing.{MayRefuseCheckpoint, refusal_of_checkpoint}
use Rattle.store.specs.Durable.{told_by}
use Rattle.store.specs.State.{state_of}
use Rattle.store.proofs.Committed.{left_stands}
use Rattle.store.proofs.StateKept.{RestsTidily}

either_way : {X : Type 0} (broken : Bool) → (broken ≡ false → X) → (broken ≡ true → X) → X
either_way true works breaks = breaks refl
either_way false works breaks = works refl

-- ---- what a broken store refuses with

device_at_checkpoint : (broken : Bool) (e : Refusal) → broken ≡ true → MayRefuseCheckpoint (refusal_of_checkpoint broken) e → e ≡ Device → ⊥
device_at_checkpoint false e broke told device = cc
device_at_checkpoint true e broke (inl is) device = cc
device_at_checkpoint true e broke (inr none) device = let is = none.0 in cc

device_at_commit : (broken : Bool) (version unchecked journal_pages : ℕ) (net : Net) (commands : List (List Command)) (e : Refusal) → MayRefuseCommit (refusal_of_commit broken version unchecked journal_pages net commands) e → e ≡ Device → broken ≡ false
device_at_commit false version unchecked journal_pages net commands e told device = refl
device_at_commit true version unchecked journal_pages net commands e (inl is) device = cc
device_at_commit true version unchecked journal_pages net commands e (inr none) device = let is = none.0 in cc

-- ---- the commands in flight after a commit

-- where the disk failed in it, its commands are in flight, and else those that were
abbrev pub AreInFlight : {T : Type 0} → Result T Refusal → Bool → List (List Command) → List (List Command) → List (List Command) → Type 0
AreInFlight result failed commands before after = Decides failed (result ≡ Err Device) × (after ≡ (if failed then commands else before))

pub in_flight_at_device : {T : Type 0} (result : Result T Refusal) (failed : Bool) (commands before after : List (List Command)) → AreInFlight result failed commands before after → IfErr result (λ e. e ≡ Device → after ≡ commands)
in_flight_at_device (Ok v) failed commands before after are = tt
in_flight_at_device (Err e) true commands before after are = λ device. are.1
in_flight_at_device (Err e) false commands before after are = λ device. let never : false ≡ true = are.0.1 (ap Err device) in absurd cc

pub in_flight_else : {T : Type 0} (result : Result T Refusal) (failed : Bool) (commands before after : List (List Command)) → AreInFlight result failed commands before after → IfErr result (λ e. (e ≡ Device → ⊥) → after ≡ before)
in_flight_else (Ok v) failed commands before after are = tt
in_flight_else (Err e) true commands before after are = λ other. let is = are.0.0 refl in let device : e ≡ Device = cc in absurd (other device)
in_flight_else (Err e) false commands before after are = λ other. are.1

pub none_at_ok : {T : Type 0} (result : Result T Refusal) (broken : Bool) (commands : List (List Command)) → OnOk result (broken ≡ false) → (broken ≡ false → commands ≡ []) → OnOk result (commands ≡ [])
none_at_ok (Ok v) broken commands works none = none works
none_at_ok (Err e) broken commands works none = tt

module _ {D : Type 0} {disk : Ghosts D} where
  -- a store that works worked before
  pub worked_before : {T : Type 0} (result : Result T Refusal) (old new : Paged D disk) → IfErr result (λ refusal. (refusal ≡ Device → ⊥) → new ≡ old) → IfErr result (λ refusal. refusal ≡ Device → new.broken ≡ true)
      → OnOk result (old.broken ≡ false) → new.broken ≡ false → old.broken ≡ false
  worked_before (Ok v) old new same breaks worked works = worked
  worked_before (Err e) old new same breaks worked works =
      let other : e ≡ Device → ⊥ = λ device. let never : true ≡ false = sym (breaks device) ∙ works in cc in
      subst (λ (pages : Paged D disk). pages.broken ≡ false) (same other) works

  -- while it works a commit puts none in flight
  pub in_flight_still : {T : Type 0} (result : Result T Refusal) (failed : Bool) (new : Paged D disk) (commands before after : List (List Command)) → AreInFlight result failed commands before after
      → IfErr result (λ refusal. refusal ≡ Device → new.broken ≡ true) → new.broken ≡ false → after ≡ before
  in_flight_still result false new commands before after are breaks works = are.1
  in_flight_still (Ok v) true new commands before after are breaks works = let never = are.0.0 refl in cc
  in_flight_still (Err e) true new commands before after are breaks works =
      let is = are.0.0 refl in
      let device : e ≡ Device = cc in
      let never : true ≡ false = sym (breaks device) ∙ works in cc

  -- the same state of a store where its pages and its commands in flight are the same
  pub same_state : {T : Type 0} (result : Result T Refusal) (old new : Paged D disk) (given : D) (before after : List (List Command)) → IfErr result (λ refusal. (refusal ≡ Device → ⊥) → new ≡ old) → IfErr result (λ refusal. (refusal ≡ Device → ⊥) → after ≡ before)
      → IfErr result (λ refusal. (refusal ≡ Device → ⊥) → state_of new given after ≡ state_of old given before)
  same_state (Ok v) old new given before after same still = tt
  same_state (Err e) old new given before after same still = λ other. subst (λ (pages : Paged D disk). state_of new given after ≡ state_of pages given before) (same other) (subst (λ (list : List (List Command)). state_of new given after ≡ state_of new given list) (still other) refl)

  -- ---- what a stop may leave

  -- each content that is left stands for what the store says, or for that after these commands
  abbrev pub LeavesWith : Paged D disk → List (List Command) → Type 0
  LeavesWith pages commands = (c : List ℕ) → disk.left pages.disk c → IsBeforeOrAfter pages.found.header.journal_pages (slot_pages pages.found.header) pages.found.network pages.found.version commands c

  pub left_always : (pages : Paged D disk) (commands : List (List Command)) → (pages.broken ≡ false → RestsTidily pages) → (pages.broken ≡ true → LeavesWith pages commands) → LeavesWith pages commands
  left_always pages commands rests broke =
      either_way pages.broken (λ works c was. let held = rests works in inl (left_stands (disk.content pages.disk) (disk.left pages.disk) (told_by pages) held.0 held.1 c was)) broke

  -- what stands for what one store says stands for what another says that says the same
  pub stands_still : (old new : Paged D disk) (commands : List (List Command)) → new.found.header ≡ old.found.header → new.found.network ≡ old.found.network → new.found.version ≡ old.found.version → (c : List ℕ)
      → IsBeforeOrAfter old.found.header.journal_pages (slot_pages old.found.header) old.found.network old.found.version commands c → IsBeforeOrAfter new.found.header.journal_pages (slot_pages new.found.header) new.found.network new.found.version commands c
  stands_still old new commands header network version c way =
      subst (λ (h : Header). IsBeforeOrAfter h.journal_pages (slot_pages h) new.found.network new.found.version commands c) (sym header)
      (subst (λ (n : Net). IsBeforeOrAfter old.found.header.journal_pages (slot_pages old.found.header) n new.found.version commands c) (sym network)
      (subst (λ (v : ℕ). IsBeforeOrAfter old.found.header.journal_pages (slot_pages old.found.header) old.found.network v commands c) (sym version) way))

  -- a checkpoint of a store that then is broken
  pub left_after_checkpoint : {T : Type 0} (result : Result T Refusal) (old new : Paged D disk) (commands : List (List Command))
      → MatchResult result (λ _. refusal_of_checkpoint old.broken ≡ None) (MayRefuseCheckpoint (refusal_of_checkpoint old.broken)) → IfErr result (λ refusal. (refusal ≡ Device → ⊥) → new ≡ old) → OnOk result (new.broken ≡ false)
      → new.found.header ≡ old.found.header → new.found.network ≡ old.found.network → new.found.version ≡ old.found.version
      → (old.broken ≡ false → (c : List ℕ) → disk.left new.disk c → StandsTidyFor old.found.header.journal_pages (slot_pages old.found.header) c old.found.network old.found.version) → (old.broken ≡ true → LeavesWith old commands) → new.broken ≡ true → LeavesWith new commands
  left_after_checkpoint (Ok v) old new commands refused same works header network version left held broken = let never : true ≡ false = sym broken ∙ works in cc
  left_after_checkpoint (Err e) old new commands refused same works header network version left held broken =
      either_way old.broken (λ worked c was. stands_still old new commands header network version c (inl (left worked c was)))
      (λ broke.
      let is : new ≡ old = same (device_at_checkpoint old.broken e broke refused) in
      subst (λ (pages : Paged D disk). LeavesWith pages commands) (sym is) (held broke))

  -- a commit of a store that then is broken
  pub left_after_commit : {T : Type 0} (result : Result T Refusal) (failed : Bool) (old new : Paged D disk) (commands before after : List (List Command))
      → MatchResult result (λ _. refusal_of_commit old.broken old.found.version old.found.unchecked old.found.header.journal_pages old.found.network commands ≡ None) (MayRefuseCommit (refusal_of_commit old.broken old.found.version old.found.unchecked old.found.header.journal_pages old.found.network commands))
      → AreInFlight result failed commands before after → IfErr result (λ refusal. (refusal ≡ Device → ⊥) → new ≡ old) → OnOk result (new.broken ≡ false)
      → new.found.header ≡ old.found.header → OnErr result ((new.found.network ≡ old.found.network) × (new.found.version ≡ old.found.version) × (new.found.unchecked ≡ old.found.unchecked) × (new.found.next_sequence ≡ old.found.next_sequence))
      → (old.broken ≡ false → (c : List ℕ) → disk.left new.disk c → IsBeforeOrAfter old.found.header.journal_pages (slot_pages old.found.header) old.found.network old.found.version commands c) → (old.broken ≡ true → LeavesWith old before) → new.broken ≡ true → LeavesWith new after
  left_after_commit (Ok v) failed old new commands before after refused are same works header kept left held broken = let never : true ≡ false = sym broken ∙ works in cc
  left_after_commit (Err e) true old new commands before after refused are same works header kept left held broken =
      let is = are.0.0 refl in
      let device : e ≡ Device = cc in
      let worked = device_at_commit old.broken old.found.version old.found.unchecked old.found.header.journal_pages old.found.network commands e refused device in
      subst (LeavesWith new) (sym are.1) (λ c was. stands_still old new commands header kept.0 kept.1 c (left worked c was))
  left_after_commit (Err e) false old new commands before after refused are same works header kept left held broken =
      let other : e ≡ Device → ⊥ = λ device. let never : false ≡ true = are.0.1 (ap Err device) in cc in
      let is : new ≡ old = same other in
      subst (LeavesWith new) (sym are.1) (subst (λ (pages : Paged D disk). LeavesWith pages before) (sym is) (held (subst (λ (pages : Paged D disk). pages.broken ≡ true) is broken)))
