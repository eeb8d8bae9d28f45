-- What a keeper's disk holds, from one call to the next.
use Rattle.std.proofs.Common.{◌≡◌, ◌⊎◌, ⊎_elim, inl, inr, ℕ, ◌≤◌, Bool, true, false, List, [], ◌∷◌, ◌++◌, length, take, Some, Result, Ok, Err, refl, sym, ◌∙◌, ap, subst, arith}
use Rattle.std.specs.Prelude.{OnOk, IfErr, MatchResult}
use Rattle.std.specs.Bool.{Decides}
use Rattle.std.proofs.Math.Seq.{take-nil}
use Rattle.std.proofs.lemmas.List.{take-append-le}
use Rattle.disk.specs.Moments.{LeavesOnly}
use Rattle.disk.proofs.Steps.{started}
use Rattle.roadnet.specs.declared.groups.Group.{Group}
use Rattle.roadnet.specs.declared.refusals.Refusal.{Refusal}
use Rattle.roadnet.specs.declared.refusals.Refusal.TheVariants.{OutOfMemory, Device}
use Rattle.roadnet.specs.Net.{Net}
use Rattle.roadnet.specs.Step.{after}
use Rattle.storefile.specs.StoreFile.{StandsTidyFor}
use Rattle.store.specs.Checkpointing.{refusal_of_checkpoint, MayRefuseCheckpoint}
use Rattle.machine.specs.Machine.{Sizes, Machine, IsState, latest, network_at}
use Rattle.machine.specs.Calls.{failed, IsLeft}
use Rattle.machine.proofs.Kept.{left_between}
use Rattle.keeper.specs.Keeping.{Holds, IsDurableIn}

-- what holds what is durable holds it with these groups in flight or without
pub held_too : (m : Machine) (commands : ℕ) (content : List ℕ) → IsState m → m.broken ≡ false → IsDurableIn m content → IsDurableIn (failed m commands) content
held_too m commands content s works h =
    let none : m.in_flight ≡ 0 = s.calm works in
    record {
      version = h.version;
      left = ⊎_elim (λ e. inl e) (λ e. inl (omega arith)) h.left;
      network = h.network;
      network_is = h.network_is;
      stands = h.stands;
    }

-- no call is made: a stop leaves what it leaves now
pub no_call : {D : Type 0} (left : D → List ℕ → Type 0) (moment : D → ℕ) (left_since : D → ℕ → List ℕ → Type 0) (disk : D) (P : List ℕ → Type 0)
    → ((c : List ℕ) → left_since disk (moment disk) c → left disk c) → ((c : List ℕ) → left disk c → P c) → LeavesOnly moment left_since disk disk P
no_call left moment left_since disk P now each = started moment left_since disk P (λ c since. each c (now c since))

module _ (content : List ℕ) (left : List ℕ → Type 0) where
  -- a machine whose durable groups stay, and what is in flight
  pub holds_on : (old new : Machine) → new.sizes ≡ old.sizes → new.durable ≡ old.durable → new.in_flight ≡ old.in_flight → new.broken ≡ old.broken
      → ((v : ℕ) → v ≤ latest old → network_at new v ≡ network_at old v) → IsState old → Holds content left old → Holds content left new
  holds_on old new sizes durable in_flight broken networks s h =
      let left_too : (v : ℕ) → IsLeft old v → IsLeft new v =
      λ v is. ⊎_elim (λ e. inl (e ∙ sym durable)) (λ e. inr (omega arith)) is in
      record {
        only = λ works. h.only (sym broken ∙ works);
        each_left = λ c was.
            let held : IsDurableIn old c = h.each_left c was in
            let between : (old.durable ≤ held.version) × (held.version ≤ latest old) = left_between old s held.version held.left in
            record {
              version = held.version;
              left = left_too held.version held.left;
              network = held.network;
              network_is = networks held.version between.1 ∙ held.network_is;
              stands = subst (λ (z : Sizes). StandsTidyFor z.journal_pages z.checkpoint_pages c held.network held.version) (sym sizes) held.stands;
            };
      }

  -- a disk that is alike
  pub holds_alike : (content' : List ℕ) (left' : List ℕ → Type 0) (m : Machine) → content' ≡ content → ((c : List ℕ) → left' c → left c) → Holds content left m → Holds content' left' m
  holds_alike content' left' m same among h = record {
    only = λ works c was. h.only works c (among c was) ∙ sym same;
    each_left = λ c was. h.each_left c (among c was);
  }

-- a disk that is alike, and a machine whose durable groups stay
pub holds_armed : (content content' : List ℕ) (left left' : List ℕ → Type 0) (old new : Machine) → content' ≡ content → ((c : List ℕ) → left' c → left c)
    → new.sizes ≡ old.sizes → new.durable ≡ old.durable → new.in_flight ≡ old.in_flight → new.broken ≡ old.broken → ((v : ℕ) → v ≤ latest old → network_at new v ≡ network_at old v) → IsState old → Holds content left old → Holds content' left' new
holds_armed content content' left left' old new same among sizes durable in_flight broken networks s h =
    holds_on content' left' old new sizes durable in_flight broken networks s (holds_alike content left content' left' old same among h)

pub same_groups : (base : Net) (n : ℕ) (items items' : List Group) → items' ≡ items → after base (take n items') ≡ after base (take n items)
same_groups base n items items' is = ap (λ (xs : List Group). after base (take n xs)) is

-- a group behind the others changes no network before it
pub same_before : (base : Net) (n : ℕ) (items items' : List Group) (group : Group) → items' ≡ items ++ group ∷ [] → n ≤ length items → after base (take n items') ≡ after base (take n items)
same_before base n items items' group is le =
    ap (λ (xs : List Group). after base (take n xs)) is ∙ ap (after base) (take-append-le n items (group ∷ []) le)

take_none : (n : ℕ) (items : List Group) → items ≡ [] → take n items ≡ []
take_none n items none = ap (take n) none ∙ take-nil n

-- at the beginning
pub at_base : (base net : Net) (n : ℕ) (items : List Group) → base ≡ net → items ≡ [] → after base (take n items) ≡ Some net
at_base base net n items same none = ap (after base) (take_none n items none) ∙ ap Some same

-- why a checkpoint of a store that is not broken is refused
pub why : (broken : Bool) (refusal : Refusal) → broken ≡ false → MayRefuseCheckpoint (refusal_of_checkpoint broken) refusal → (refusal ≡ OutOfMemory) ⊎ (refusal ≡ Device)
why true refusal works may = cc
why false refusal works may = ⊎_elim (λ told. absurd cc) (λ other. other.1) may

-- what holds after each outcome of a call holds
pub by_outcome : {T : Type 0} (r : Result T Refusal) (A B D : Refusal → Type 0) (C : T → Type 0) (X : Type 0) → OnOk r X → IfErr r A → IfErr r B → MatchResult r C D → ((refusal : Refusal) → A refusal → B refusal → D refusal → X) → X
by_outcome (Ok v) A B D C X ok a b d f = ok
by_outcome (Err e) A B D C X ok a b d f = f e a b d

pub not_memory : (refusal : Refusal) → refusal ≡ OutOfMemory → refusal ≡ Device → ⊥
not_memory refusal is device = let never : OutOfMemory ≡ Device = sym is ∙ device in absurd cc

-- ---- whether a write failed

pub works_at_ok : {T : Type 0} (r : Result T Refusal) (flag : Bool) → Decides flag (r ≡ Err Device) → OnOk r (flag ≡ false)
works_at_ok (Ok v) true d = let never : Ok v ≡ Err Device = d.0 refl in cc
works_at_ok (Ok v) false d = refl
works_at_ok (Err e) flag d = tt

pub works_at_err : {T : Type 0} (r : Result T Refusal) (flag : Bool) → Decides flag (r ≡ Err Device) → IfErr r (λ refusal. (refusal ≡ Device → ⊥) → flag ≡ false)
works_at_err (Ok v) flag d = tt
works_at_err (Err e) true d = λ not. absurd (not (let same : Err e ≡ Err Device = d.0 refl in cc))
works_at_err (Err e) false d = λ not. refl

pub breaks_at_err : {T : Type 0} (r : Result T Refusal) (flag : Bool) → Decides flag (r ≡ Err Device) → IfErr r (λ refusal. refusal ≡ Device → flag ≡ true)
breaks_at_err (Ok v) flag d = tt
breaks_at_err (Err e) flag d = λ is. d.1 (ap Err is)

-- a keeper's flag is its store's, which was not broken
pub same_flag : {T : Type 0} (r : Result T Refusal) (flag old new : Bool) → Decides flag (r ≡ Err Device) → old ≡ false → OnOk r (new ≡ false) → IfErr r (λ refusal. refusal ≡ Device → new ≡ true) → IfErr r (λ refusal. (refusal ≡ Device → ⊥) → new ≡ old) → flag ≡ new
same_flag (Ok v) flag old new d calm works breaks same = works_at_ok (Ok v) flag d ∙ sym works
same_flag (Err e) true old new d calm works breaks same = sym (breaks (let is : Err e ≡ Err Device = d.0 refl in cc))
same_flag (Err e) false old new d calm works breaks same = sym (same (λ is. let never : false ≡ true = d.1 (ap Err is) in cc) ∙ calm)
