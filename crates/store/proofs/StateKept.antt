-- What a store tells of its disk.
use Rattle.std.proofs.Common.{◌≡◌, ℕ, ◌+◌, ◌≤◌, ◌<◌, Bool, true, false, List, length, Option, Some, None, refl, sym, ◌∙◌, ap, subst, arith}
use Rattle.std.specs.Prelude.{not, is_none, ◌&&◌, ◌↔◌, Result, Ok, Err, OnOk, OnErr, IfOk, IfErr, MatchResult}
use Rattle.std.proofs.Math.Nat.{div-lt_iff_lt-mul}
use Rattle.disk.specs.Contents.{Only}
use Rattle.disk.specs.declared.disk.Disk.{Ghosts}
use Rattle.roadnet.specs.declared.commands.Command.{Command}
use Rattle.roadnet.specs.declared.refusals.Refusal.{Refusal}
use Rattle.roadnet.specs.declared.refusals.Refusal.TheVariants.{Device}
use Rattle.roadnet.specs.Net.{Net}
use Rattle.pages.specs.declared.header.Header.{Header}
use Rattle.pages.specs.Layout.{word_pages, end_pages, slot_pages}
use Rattle.storefile.specs.StoreFile.{StandsTidyFor}
use Rattle.storefile.specs.Standing.{Standing, IsStoredAs, standing_of}
use Rattle.storefile.proofs.Rests.{standing_is}
use Rattle.store.specs.declared.paged.state.Paged.{Paged}
use Rattle.store.specs.Committing.{HasTidyStanding, MayRefuseCommit, refusal_of_commit}
use Rattle.store.specs.Checkpointing.{refusal_of_checkpoint}
use Rattle.store.specs.Durable.{told_by, going_of, KeepsTold}
use Rattle.store.specs.Going.{Progress}
use Rattle.store.specs.State.{StoreState, IsTidy, IsDurable, HasTold, HasVersion, is_calm, told, state_of}
use Rattle.store.proofs.Committed.{left_stands}

-- ---- a calm store

parts : (b : Bool) (o : Option Progress) → (not b && is_none o) ≡ true → (b ≡ false) × (o ≡ None)
parts true o h = cc
parts false None h = (refl, refl)
parts false (Some p) h = cc

pub works_if_calm : {D : Type 0} (s : StoreState D) → is_calm s ≡ true → s.broken ≡ false
works_if_calm s calm = (parts s.broken s.going calm).0

pub none_if_calm : {D : Type 0} (s : StoreState D) → is_calm s ≡ true → s.going ≡ None
none_if_calm s calm = (parts s.broken s.going calm).1

both : (b : Bool) (o : Option Progress) → b ≡ false → o ≡ None → (not b && is_none o) ≡ true
both true o works none = cc
both false None works none = refl
both false (Some p) works none = cc

pub calm_if : {D : Type 0} (s : StoreState D) → s.broken ≡ false → s.going ≡ None → is_calm s ≡ true
calm_if s works none = both s.broken s.going works none

-- ---- what a stop leaves

pub left_durable : {D : Type 0} (s : StoreState D) (content : List ℕ) (left : List ℕ → Type 0) → Only content left → IsDurable s content → (c : List ℕ) → left c → IsDurable s c
left_durable s content left only stands c was = subst (IsDurable s) (sym (only c was)) stands

pub few_pages : (h : Header) → h.room ≤ 67108864 → slot_pages h ≤ 196930
few_pages h few =
    let words : word_pages h < 65602 = (div-lt_iff_lt-mul (omega arith)).1 (omega (arith, few)) in
    let ends : end_pages h < 131330 = (div-lt_iff_lt-mul (omega arith)).1 (omega (arith, few)) in
    omega (arith, words, ends)

pub durable_of : {D : Type 0} {disk : Ghosts D} (pages : Paged D disk) (content : List ℕ) → HasTidyStanding content (told_by pages) → StandsTidyFor pages.found.header.journal_pages (slot_pages pages.found.header) content pages.found.network pages.found.version
durable_of pages content stands = left_stands content (λ c. c ≡ content) (told_by pages) (λ c is. is) stands content refl

-- ---- a store that came tidy

-- what a tidy content stands for is what is told of it
pub tidily : (content : List ℕ) (x : Standing) → IsTidy content → standing_of content ≡ Some x → HasTidyStanding content x
tidily content x tidy told =
    let y : Standing = tidy.0 in
    let is : Some y ≡ Some x = sym tidy.1.0 ∙ told in
    let same : y ≡ x = cc in
    subst (HasTidyStanding content) same tidy.1

-- ---- a call of a store

works_at_commit : (broken : Bool) (version unchecked journal_pages : ℕ) (net : Net) (commands : List (List Command)) → refusal_of_commit broken version unchecked journal_pages net commands ≡ None → broken ≡ false
works_at_commit true version unchecked journal_pages net commands none = cc
works_at_commit false version unchecked journal_pages net commands none = refl

pub works_at_checkpoint : (broken : Bool) → refusal_of_checkpoint broken ≡ None → broken ≡ false
works_at_checkpoint true none = cc
works_at_checkpoint false none = refl

-- what follows from there being no cause of a refusal holds where nothing is refused
pub at_ok : {T X Y : Type 0} (Q : Refusal → Type 0) (result : Result T Refusal) → MatchResult result (λ _. X) Q → (X → Y) → OnOk result Y
at_ok Q (Ok v) told f = f told
at_ok Q (Err e) told f = tt

pub worked_at_commit : {T : Type 0} (result : Result T Refusal) (broken : Bool) (version unchecked journal_pages : ℕ) (net : Net) (commands : List (List Command))
    → MatchResult result (λ _. refusal_of_commit broken version unchecked journal_pages net commands ≡ None) (MayRefuseCommit (refusal_of_commit broken version unchecked journal_pages net commands)) → OnOk result (broken ≡ false)
worked_at_commit (Ok v) broken version unchecked journal_pages net commands none = works_at_commit broken version unchecked journal_pages net commands none
worked_at_commit (Err e) broken version unchecked journal_pages net commands told = tt

pub at_ok_with : {T Y : Type 0} (Z : Type 0) (result : Result T Refusal) → OnOk result Y → (Y → OnOk result Z) → OnOk result Z
at_ok_with Z (Ok v) there f = f there
at_ok_with Z (Err e) there f = tt

module _ {D : Type 0} {disk : Ghosts D} where
  -- the disk is at rest, and its content stands, tidy, for what the store says
  abbrev pub RestsTidily : Paged D disk → Type 0
  RestsTidily pages = Only (disk.content pages.disk) (disk.left pages.disk) × HasTidyStanding (disk.content pages.disk) (told_by pages)

  -- a call that changes nothing unless it ends with Ok or breaks the store
  pub rests_after : {T : Type 0} (result : Result T Refusal) (old new : Paged D disk) → IfErr result (λ refusal. (refusal ≡ Device → ⊥) → new ≡ old) → IfErr result (λ refusal. refusal ≡ Device → new.broken ≡ true)
      → OnOk result (old.broken ≡ false) → OnOk result (Only (disk.content new.disk) (disk.left new.disk)) → (HasTidyStanding (disk.content old.disk) (told_by old) → OnOk result (HasTidyStanding (disk.content new.disk) (told_by new)))
      → (old.broken ≡ false → RestsTidily old) → new.broken ≡ false → RestsTidily new
  rests_after (Ok v) old new same breaks worked only stands held works = (only, stands (held worked).1)
  rests_after (Err e) old new same breaks worked only stands held works =
      let is : new ≡ old = same (λ device. let never : true ≡ false = sym (breaks device) ∙ works in cc) in
      subst RestsTidily (sym is) (held (subst (λ (pages : Paged D disk). pages.broken ≡ false) is works))

  -- ---- what a store tells before the first commit

  unchanged : (e : Refusal) (old new : Paged D disk) → ((e ≡ Device → ⊥) → new ≡ old) → (e ≡ Device → new.broken ≡ true) → new.broken ≡ false → new ≡ old
  unchanged e old new same breaks works = same (λ device. let never : true ≡ false = sym (breaks device) ∙ works in cc)

  -- where all is as it was
  told_same : (given : D) (old new : Paged D disk) → new ≡ old → KeepsTold given old → KeepsTold given new
  told_same given old new is keeps = subst (KeepsTold given) (sym is) keeps

  pub told_after_checkpoint : {T : Type 0} (result : Result T Refusal) (given : D) (old new : Paged D disk) → disk.honest new.disk ↔ disk.honest old.disk → new.found.version ≡ old.found.version
      → IfErr result (λ refusal. (refusal ≡ Device → ⊥) → new ≡ old) → IfErr result (λ refusal. refusal ≡ Device → new.broken ≡ true) → OnOk result (old.broken ≡ false)
      → (disk.honest old.disk → standing_of (disk.content old.disk) ≡ Some (told_by old) → OnOk result (standing_of (disk.content new.disk) ≡ Some (told_by new)))
      → KeepsTold given old → KeepsTold given new
  told_after_checkpoint (Ok v) given old new honest version same breaks worked stands keeps = λ h x is.
      let kept = keeps h x is in
      (honest.1 kept.0, omega (arith, kept.1, version), λ none works. stands kept.0 (kept.2 (none ∙ version) worked))
  told_after_checkpoint (Err e) given old new honest version same breaks worked stands keeps = λ h x is.
      let kept = keeps h x is in
      (honest.1 kept.0, omega (arith, kept.1, version), λ none works. (told_same given old new (unchanged e old new same breaks works) keeps h x is).2 none works)

  pub told_after_commit : (result : Result ℕ Refusal) (given : D) (old new : Paged D disk) (count : ℕ) → 1 ≤ count → disk.honest new.disk ↔ disk.honest old.disk
      → IfOk result (λ version. (version ≡ new.found.version) × (version ≡ old.found.version + count)) → OnErr result (new.found.version ≡ old.found.version)
      → IfErr result (λ refusal. (refusal ≡ Device → ⊥) → new ≡ old) → IfErr result (λ refusal. refusal ≡ Device → new.broken ≡ true)
      → KeepsTold given old → KeepsTold given new
  told_after_commit (Ok v) given old new count some honest version kept_version same breaks keeps = λ h x is.
      let kept = keeps h x is in
      (honest.1 kept.0, omega (arith, kept.1, version.0, version.1), λ none works. absurd (omega (arith, some, kept.1, none, version.0, version.1)))
  told_after_commit (Err e) given old new count some honest version kept_version same breaks keeps = λ h x is.
      let kept = keeps h x is in
      (honest.1 kept.0, omega (arith, kept.1, kept_version), λ none works. (told_same given old new (unchanged e old new same breaks works) keeps h x is).2 none works)

  -- the disk that was given is the store's
  pub told_at_first : (given : D) (pages : Paged D disk) → given ≡ pages.disk → (disk.honest pages.disk → standing_of (disk.content pages.disk) ≡ Some (told_by pages)) → KeepsTold given pages
  told_at_first given pages same stands = λ h x is.
      let honest = subst disk.honest same h in
      let told_is : Some x ≡ Some (told_by pages) = sym is ∙ subst (λ (d : D). standing_of (disk.content d) ≡ Some (told_by pages)) (sym same) (stands honest) in
      let version : x.version ≡ pages.found.version = cc in
      (honest, omega (arith, version), λ none works. stands honest)

  -- nothing was committed
  pub told_before_commit : (given : D) (pages : Paged D disk) → KeepsTold given pages → disk.honest given → HasVersion (disk.content given) pages.found.network pages.found.version → pages.broken ≡ false
      → standing_of (disk.content pages.disk) ≡ Some (told_by pages)
  told_before_commit given pages keeps honest at works =
      let next = at.0 in
      let s = at.1.0 in
      let x : Standing = record { header = s.header; slot = s.slot; epoch = s.epoch; network = pages.found.network; version = pages.found.version; next = next; unchecked = length s.unchecked } in
      let held : IsStoredAs (disk.content given) s.header s.slot s.epoch pages.found.network pages.found.version next (length s.unchecked) =
      record { stored = s; stands = at.1.1; header_is = refl; format_is = at.1.2; slot_is = refl; epoch_is = refl; unchecked_is = refl } in
      (keeps honest x (standing_is (disk.content given) s.header s.slot s.epoch pages.found.network pages.found.version next (length s.unchecked) held)).2 refl works

  pub stands_as_told : (pages : Paged D disk) (given : D) (in_flight : List (List Command)) (content : List ℕ) → standing_of content ≡ Some (told_by pages) → HasTold content (told (state_of pages given in_flight))
  stands_as_told pages given in_flight content is = record { standing = told_by pages; is = is; told_is = refl }

  pub told_still : {T : Type 0} (result : Result T Refusal) (given : D) (old new : Paged D disk) (in_flight : List (List Command)) → new.found.network ≡ old.found.network → new.found.version ≡ old.found.version → OnOk result (new.broken ≡ false)
      → KeepsTold given new → disk.honest given → HasVersion (disk.content given) old.found.network old.found.version → OnOk result (HasTold (disk.content new.disk) (told (state_of new given in_flight)))
  told_still (Ok v) given old new in_flight network version works keeps honest at =
      stands_as_told new given in_flight (disk.content new.disk)
      (told_before_commit given new keeps honest (subst (λ (v : ℕ). HasVersion (disk.content given) new.found.network v) (sym version) (subst (λ (n : Net). HasVersion (disk.content given) n old.found.version) (sym network) at)) works)
  told_still (Err e) given old new in_flight network version works keeps honest at = tt

  pub told_armed : (given : D) (old new : Paged D disk) → told_by new ≡ told_by old → new.broken ≡ old.broken → disk.content new.disk ≡ disk.content old.disk → disk.honest new.disk ↔ disk.honest old.disk
      → KeepsTold given old → KeepsTold given new
  told_armed given old new same broken content honest keeps = λ h x is.
      let kept = keeps h x is in
      let version : new.found.version ≡ old.found.version = ap (λ (y : Standing). y.version) same in
      (honest.1 kept.0, omega (arith, kept.1, version), λ none works. ap standing_of content ∙ kept.2 (none ∙ version) (sym broken ∙ works) ∙ ap Some (sym same))

pub kept_version : {D : Type 0} {disk : Ghosts D} (result : Result ℕ Refusal) (old new : Paged D disk)
    → OnErr result ((new.found.network ≡ old.found.network) × (new.found.version ≡ old.found.version) × (new.found.unchecked ≡ old.found.unchecked) × (new.found.next_sequence ≡ old.found.next_sequence)) → OnErr result (new.found.version ≡ old.found.version)
kept_version (Ok v) old new kept = tt
kept_version (Err e) old new kept = kept.1

pub both_kept : {D : Type 0} {disk : Ghosts D} (result : Result ℕ Refusal) (old new : Paged D disk)
    → OnErr result ((new.found.network ≡ old.found.network) × (new.found.version ≡ old.found.version) × (new.found.unchecked ≡ old.found.unchecked) × (new.found.next_sequence ≡ old.found.next_sequence)) → OnErr result (going_of new ≡ going_of old)
    → OnErr result ((new.found.unchecked ≡ old.found.unchecked) × (going_of new ≡ going_of old))
both_kept (Ok v) old new kept going = tt
both_kept (Err e) old new kept going = (kept.2, going)
