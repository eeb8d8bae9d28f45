-- What a flush makes of a keeper's machine and of what its disk holds, by what the store's commit ensures.
use Rattle.std.proofs.Common.{◌≡◌, ◌⊎◌, inl, inr, ⊎_elim, ℕ, ◌+◌, ◌-◌, ◌<◌, ◌≤◌, ◌^◌, Bool, true, false, cond, leb, ltb, List, length, take, drop, Option, Some, None, Result, Ok, Err, refl, sym, ◌∙◌, ap, subst, arith}
use Rattle.std.specs.Prelude.{IfOk, OnOk, IfErr, OnErr, MatchResult, option_map}
use Rattle.std.proofs.lemmas.Bool.{ltb-true, leb-false}
use Rattle.disk.specs.Contents.{Only}
use Rattle.roadnet.specs.declared.groups.Group.{Group}
use Rattle.roadnet.specs.declared.refusals.Refusal.{Refusal}
use Rattle.roadnet.specs.declared.refusals.Refusal.TheVariants.{OutOfMemory, Device}
use Rattle.roadnet.specs.Net.{Net}
use Rattle.roadnet.specs.Step.{after}
use Rattle.roadnet.specs.Batches.{first_refusal_of_all}
use Rattle.storefile.specs.StoreFile.{StandsTidyFor}
use Rattle.storefile.specs.Standing.{IsBeforeOrAfter}
use Rattle.store.specs.Committing.{refusal_of_commit, MayRefuseCommit}
use Rattle.store.specs.Going.{Progress, with_page_committed}
use Rattle.keeper.specs.Keeping.{as_checkpoint}
use Rattle.machine.specs.Machine.{Checkpoint, Sizes, Machine, IsState, latest, batch, most_versions, network_at}
use Rattle.machine.specs.Calls.{Flushes, failed, refusal_of_flush, with_page_flushed, with_batch}
use Rattle.machine.specs.Keeping.{IsKept, next_batch}
use Rattle.roadnet.specs.Groups.{count_of}
use Rattle.machine.proofs.Counted.{batch_count, batch_some}
use Rattle.machine.proofs.Keeping.{kept_failed, kept_flush, batch_size, batch_network, batch_admitted, batch_between, batch_versions, alike}
use Rattle.keeper.specs.Keeping.{Holds, IsDurableIn}

-- ---- the refusals of a flush and of a commit

passed : {X : Type 0} (b : Bool) (x : X) (rest : Option X) → cond b (Some x) rest ≡ None → (b ≡ false) × (rest ≡ None)
passed true x rest h = cc
passed false x rest h = (refl, h)

past : {X : Type 0} (b : Bool) (x : X) (rest : Option X) → b ≡ false → rest ≡ None → cond b (Some x) rest ≡ None
past true x rest h none = cc
past false x rest h none = none

test_false : (b : Bool) → (b ≡ true → ⊥) → b ≡ false
test_false true f = absurd (f refl)
test_false false f = refl

not_memory : (refusal : Refusal) → refusal ≡ OutOfMemory → refusal ≡ Device → ⊥
not_memory refusal is device = let never : OutOfMemory ≡ Device = sym is ∙ device in absurd cc

-- why a commit without cause is refused
cause_of : (cause : Option Refusal) (refusal : Refusal) → cause ≡ None → MayRefuseCommit cause refusal → (refusal ≡ OutOfMemory) ⊎ (refusal ≡ Device)
cause_of cause refusal none may = ⊎_elim (λ told. let never : None ≡ Some refusal = sym none ∙ told in absurd cc) (λ other. other.1) may

pub if_err_with : {T E : Type 0} (P Q : E → Type 0) (r : Result T E) → ((e : E) → P e → Q e) → IfErr r P → IfErr r Q
if_err_with P Q (Ok x) f h = h
if_err_with P Q (Err e) f h = f e h

-- a checkpoint that is going counts the page
pub counted : (going : Option Progress) → option_map as_checkpoint (option_map with_page_committed going) ≡ option_map with_page_flushed (option_map as_checkpoint going)
counted None = refl
counted (Some p) = refl

-- ---- a machine that is going to flush

-- so many items from this one on, as a body takes them
abbrev pub slice_of : List Group → ℕ → ℕ → List Group
slice_of items first count = take (first + count - first) (drop first items)

-- a keeper that may flush these groups
pub record Flushing (m : Machine) (accepted durable shown : Net) (task : Option (ℕ × Net)) (groups : List Group) (count : ℕ) : Type 0 where
  pub kept : IsKept m accepted durable shown task
  pub clear : refusal_of_flush m ≡ None
  pub taken : groups ≡ next_batch m
  pub count_is : count ≡ batch m

module _ (m : Machine) (accepted durable shown : Net) (task : Option (ℕ × Net)) (groups : List Group) (count : ℕ) (f : Flushing m accepted durable shown task groups count) where
  pub works : m.broken ≡ false
  works = (passed m.broken _ _ f.clear).0

  some : m.durable < latest m
  some = leb-false (latest m) m.durable (passed (leb (latest m) m.durable) _ _ (passed m.broken _ _ f.clear).1).0

  room : leb m.sizes.journal_pages m.unchecked ≡ false
  room = (passed (leb m.sizes.journal_pages m.unchecked) _ _ (passed (leb (latest m) m.durable) _ _ (passed m.broken _ _ f.clear).1).1).0

  none_in_flight : m.in_flight ≡ 0
  none_in_flight = let s : IsState m = f.kept.state in s.calm works

  pub size : length groups ≡ batch m
  size = ap length f.taken ∙ batch_size m accepted durable shown task f.kept

  pub groups_some : 1 ≤ length groups
  groups_some = omega (arith, size, batch_some m f.kept.state (omega (arith, some)))

  pub groups_few : count_of groups ≤ 253
  groups_few = omega (arith, ap count_of f.taken, (batch_between m accepted durable shown task f.kept some).1)

  not_refused : refusal_of_commit m.broken m.durable m.unchecked m.sizes.journal_pages durable groups ≡ None
  not_refused =
      let few : m.durable + batch m ≤ most_versions = batch_versions m accepted durable shown task f.kept in
      let sized = size in
      past m.broken _ _ works
      (past (ltb (2 ^ 48) (m.durable + length groups)) _ _ (test_false (ltb (2 ^ 48) (m.durable + length groups)) (λ h. omega (arith, ltb-true (2 ^ 48) (m.durable + length groups) h)))
      (past (leb m.sizes.journal_pages m.unchecked) _ _ room
      (ap (first_refusal_of_all durable) f.taken ∙ batch_admitted m accepted durable shown task f.kept)))

  -- ---- what a stop leaves of it

  place : m.durable + batch m - m.base_version ≡ m.durable - m.base_version + batch m
  place = let s : IsState m = f.kept.state in omega (arith, s.base_opened, s.opened_shown, s.shown_durable)

  network_behind : (net : Net) → after durable groups ≡ Some net → network_at m (m.durable + batch m) ≡ Some net
  network_behind net made =
      ap (λ (n : ℕ). after m.base (take n m.accepted)) place
      ∙ (batch_network m accepted durable shown task f.kept ∙ (ap (after durable) (sym f.taken) ∙ made))

  -- what stands for the network before the groups, or after them, holds what a flush that failed leaves
  pub held : (content : List ℕ) → IsBeforeOrAfter m.sizes.journal_pages m.sizes.checkpoint_pages durable m.durable groups content → IsDurableIn (failed m (batch m)) content
  held content (inl stands) = record { version = m.durable; left = inl refl; network = durable; network_is = f.kept.durable_is; stands = stands }
  held content (inr stands) = record {
    version = m.durable + batch m;
    left = inr refl;
    network = stands.0;
    network_is = network_behind stands.0 stands.1;
    stands = subst (λ (n : ℕ). StandsTidyFor m.sizes.journal_pages m.sizes.checkpoint_pages content stands.0 (m.durable + n)) size stands.2;
  }

  -- ---- after the commit, of which this is known

  module _ (next : Net) (sizes : Sizes) (version unchecked : ℕ) (broken : Bool) (going : Option Checkpoint) where
    abbrev pub flushed : Machine
    flushed = record m { sizes = sizes; durable = version; unchecked = unchecked; in_flight = cond broken count 0; broken = broken; checkpoint = going }

    pub record Committed (result : Result ℕ Refusal) : Type 0 where
      pub sizes_are : sizes ≡ m.sizes
      pub version_is : IfOk result (λ v. (v ≡ version) × (v ≡ m.durable + length groups))
      pub network_is : OnOk result (after durable groups ≡ Some next)
      pub unchecked_is : OnOk result (unchecked ≡ m.unchecked + 1)
      pub works_on : OnOk result (broken ≡ false)
      pub refused : MatchResult result (λ v. refusal_of_commit m.broken m.durable m.unchecked m.sizes.journal_pages durable groups ≡ None) (MayRefuseCommit (refusal_of_commit m.broken m.durable m.unchecked m.sizes.journal_pages durable groups))
      pub still : IfErr result (λ refusal. (refusal ≡ Device → ⊥) → broken ≡ false)
      pub breaks : IfErr result (λ refusal. refusal ≡ Device → broken ≡ true)
      pub network_kept : OnErr result (next ≡ durable)
      pub version_kept : OnErr result (version ≡ m.durable)
      pub unchecked_kept : OnErr result (unchecked ≡ m.unchecked)
      pub going_is : OnOk result (going ≡ option_map with_page_flushed m.checkpoint)
      pub going_kept : OnErr result (going ≡ m.checkpoint)

    idle : (b : Bool) → b ≡ false → cond b count 0 ≡ m.in_flight
    idle true h = cc
    idle false h = sym none_in_flight

    busy : (b : Bool) → b ≡ true → cond b count 0 ≡ batch m
    busy true h = f.count_is
    busy false h = cc

    flushed_ok : (v : ℕ) → Committed (Ok v) → flushed ≡ with_batch m
    flushed_ok v h =
        alike m sizes m.sizes version (m.durable + batch m) unchecked (m.unchecked + 1) (cond broken count 0) m.in_flight broken m.broken going (option_map with_page_flushed m.checkpoint)
        h.sizes_are (sym h.version_is.0 ∙ (h.version_is.1 ∙ ap (λ (n : ℕ). m.durable + n) size)) h.unchecked_is (idle broken h.works_on) (h.works_on ∙ sym works) h.going_is

    flushed_same : (refusal : Refusal) → Committed (Err refusal) → refusal ≡ OutOfMemory → flushed ≡ m
    flushed_same refusal h is =
        let calm : broken ≡ false = h.still (not_memory refusal is) in
        alike m sizes m.sizes version m.durable unchecked m.unchecked (cond broken count 0) m.in_flight broken m.broken going m.checkpoint
        h.sizes_are h.version_kept h.unchecked_kept (idle broken calm) (calm ∙ sym works) h.going_kept

    flushed_failed : (refusal : Refusal) → Committed (Err refusal) → refusal ≡ Device → flushed ≡ failed m (batch m)
    flushed_failed refusal h is =
        alike m sizes m.sizes version m.durable unchecked m.unchecked (cond broken count 0) (batch m) broken true going m.checkpoint
        h.sizes_are h.version_kept h.unchecked_kept (busy broken (h.breaks is)) (h.breaks is) h.going_kept

    why : (refusal : Refusal) → Committed (Err refusal) → (refusal ≡ OutOfMemory) ⊎ (refusal ≡ Device)
    why refusal h = cause_of (refusal_of_commit m.broken m.durable m.unchecked m.sizes.journal_pages durable groups) refusal not_refused h.refused

    pub flushes : (result : Result ℕ Refusal) → Committed result → Flushes m result flushed
    flushes (Ok v) h = (f.clear, flushed_ok v h, h.version_is.0)
    flushes (Err refusal) h =
        ⊎_elim (λ memory. inl (inr (f.clear, memory), flushed_same refusal h memory)) (λ device. inr (f.clear, device, flushed_failed refusal h device)) (why refusal h)

    fits : m.durable + batch m ≤ latest m
    fits = batch_count m f.kept.state

    pub kept_by : (result : Result ℕ Refusal) → Committed result → IsKept flushed accepted next shown task
    kept_by (Ok v) h =
        subst (λ (x : Machine). IsKept x accepted next shown task) (sym (flushed_ok v h))
        (kept_flush m accepted durable shown task f.kept f.clear next (ap (after durable) (sym f.taken) ∙ h.network_is))
    kept_by (Err refusal) h =
        subst (λ (n : Net). IsKept flushed accepted n shown task) (sym h.network_kept)
        (⊎_elim
        (λ memory. subst (λ (x : Machine). IsKept x accepted durable shown task) (sym (flushed_same refusal h memory)) f.kept)
        (λ device. subst (λ (x : Machine). IsKept x accepted durable shown task) (sym (flushed_failed refusal h device)) (kept_failed m accepted durable shown task f.kept (batch m) fits))
        (why refusal h))

    -- what the disk holds then
    module _ (content content' : List ℕ) (left left' : List ℕ → Type 0) where
      pub record Written (result : Result ℕ Refusal) : Type 0 where
        pub same : IfErr result (λ refusal. (refusal ≡ Device → ⊥) → (content' ≡ content) × ((c : List ℕ) → left' c → left c))
        pub in_flight : (c : List ℕ) → left' c → IsBeforeOrAfter m.sizes.journal_pages m.sizes.checkpoint_pages durable m.durable groups c
        pub durably : OnOk result ((c : List ℕ) → left' c → StandsTidyFor sizes.journal_pages sizes.checkpoint_pages c next version)
        pub only : OnOk result (Only content' left')

      pub holds_by : (result : Result ℕ Refusal) → Committed result → Written result → Holds content left m → Holds content' left' flushed
      holds_by (Ok v) h w old = record {
        only = λ calm. w.only;
        each_left = λ c was. record { version = version; left = inl refl; network = next; network_is = let k : IsKept flushed accepted next shown task = kept_by (Ok v) h in k.durable_is; stands = w.durably c was };
      }
      holds_by (Err refusal) h w old =
          ⊎_elim
          (λ memory.
          let e = w.same (not_memory refusal memory) in
          subst (λ (x : Machine). Holds content' left' x) (sym (flushed_same refusal h memory))
          (record {
            only = λ calm c was. old.only calm c (e.1 c was) ∙ sym e.0;
            each_left = λ c was. old.each_left c (e.1 c was);
          }))
          (λ device.
          subst (λ (x : Machine). Holds content' left' x) (sym (flushed_failed refusal h device))
          (record {
            only = λ calm. let never : true ≡ false = calm in absurd cc;
            each_left = λ c was. held c (w.in_flight c was);
          }))
          (why refusal h)
