-- What the file of a store of either format stands for, and a room for its network.
use Rattle.std.proofs.Common.{◌≡◌, ℕ, ◌+◌, List, ◌∷◌, length, Option, Some, Result, Ok, Err, refl, sym, ◌∙◌, ap, subst, inl, inr, arith}
use Rattle.std.specs.Prelude.{◌≢◌, ◌↔◌, ◌⊎◌, [], unwrap_or, IfOk, IfErr, OnOk, MatchResult}
use Rattle.roadnet.specs.declared.refusals.Refusal.{Refusal}
use Rattle.roadnet.specs.declared.refusals.Refusal.TheVariants.{NotEmpty, OutOfMemory, Device}
use Rattle.roadnet.specs.Net.{Net, IsRoomFor}
use Rattle.pages.specs.declared.header.Header.{Header}
use Rattle.pages.specs.declared.content.Format.{Format}
use Rattle.disk.specs.declared.disk.Disk.{Ghosts}
use Rattle.disk.specs.Contents.{Only, one_more}
use Rattle.disk.specs.Moments.{StaysSame}
use Rattle.disk.proofs.Steps.{same_twice}
use Rattle.pagereader.specs.Outcomes.{failures_with}
use Rattle.storefile.specs.StoreFile.{page, Stored, HoldsNetwork, StandsTidyFor, groups_of, next_sequence}
use Rattle.storefile.specs.Judging.{opened_in}
use Rattle.storefile.specs.Standing.{Standing, standing_in}
use Rattle.storefile.proofs.Whole.{opened_is}
use Rattle.store.specs.Created.{IsNewFile}
use Rattle.store.specs.Migrating.{room_of, roomed, IsCopyIn, HasNoSuchRoomForOld, IsRefusedForNew, IsRefusedForOld, CountsCopyFailure, CountsCopy, MayEndCopying, Copies}
use Rattle.store.specs.Opening.{HeaderFitsIn}
use Rattle.store.specs.State.{StoreState, checkpoint_pages_of, IsCountedBy}

abbrev standing_by : Stored × Net → Standing
standing_by x = record { header = x.0.header; slot = x.0.slot; epoch = x.0.epoch; network = x.1; version = x.0.version + length (groups_of x.0); next = next_sequence x.0; unchecked = length x.0.unchecked }

told : (r : Result (Stored × Net) Refusal) (x : Standing) → standing_in r ≡ Some x → (y : Stored × Net) × (r ≡ Ok y) × (standing_by y ≡ x)
told (Ok y) x e = (y, refl, cc)
told (Err d) x e = absurd cc

-- what a file of this format stands for, as opening it tells
record StoodFor (f : Format) (file : List ℕ) (x : Standing) : Type 0 where
  pub stored : Stored
  pub stands : HoldsNetwork file stored x.network x.version x.next
  pub header_is : stored.header ≡ x.header
  pub format_is : stored.header.format ≡ f

stood_for : (f : Format) (file : List ℕ) (x : Standing) → standing_in (opened_in f file) ≡ Some x → StoodFor f file x
stood_for f file x e =
    let t = told (opened_in f file) x e in
    let is = opened_is f (length file) (page file) t.0 t.1 in
    subst (StoodFor f file) t.2
    (record { stored = t.0.0; stands = record { is = is.0; gives = record { network = is.1; version_is = refl }; next_is = refl }; header_is = refl; format_is = is.2 })

pub copied : (format : Format) (file : List ℕ) (x : Standing) (net : Net) (version journal_pages : ℕ) (room journal : Option ℕ) → standing_in (opened_in format file) ≡ Some x → version ≡ x.version
    → journal_pages ≡ unwrap_or journal x.header.journal_pages → net ≡ roomed x.network room → IsCopyIn format file net version journal_pages room journal
copied format file x net version journal_pages room journal e version_is pages_are net_is =
    let s = stood_for format file x e in
    record {
      stored = s.stored;
      before = x.network;
      next = x.next;
      stands = subst (λ (v : ℕ). HoldsNetwork file s.stored x.network v x.next) (sym version_is) s.stands;
      format_is = s.format_is;
      pages_are = pages_are ∙ ap (λ (h : Header). unwrap_or journal h.journal_pages) (sym s.header_is);
      network_is = net_is;
    }

pub no_such_room : (format : Format) (file : List ℕ) (x : Standing) (room : Option ℕ) → standing_in (opened_in format file) ≡ Some x → ¬ IsRoomFor x.network (room_of x.network room) → HasNoSuchRoomForOld file room
no_such_room format file x room e unfit =
    let s = stood_for format file x e in
    record { stored = s.stored; before = x.network; version = x.version; next = x.next; stands = s.stands; unfit = unfit }

-- ---- what is made of a network, where it is made

pub all_copied : {D E : Type 0} (r : Result (StoreState D) E) (format : Format) (file : List ℕ) (x : Standing) (net : Net) (journal_pages : ℕ) (room journal : Option ℕ) → standing_in (opened_in format file) ≡ Some x → net ≡ roomed x.network room → journal_pages ≡ unwrap_or journal x.header.journal_pages
    → IfOk r (λ store. store.network ≡ net) → IfOk r (λ store. store.version ≡ x.version) → IfOk r (λ store. store.journal_pages ≡ journal_pages)
    → IfOk r (λ store. IsCopyIn format file store.network store.version store.journal_pages room journal)
all_copied (Ok store) format file x net journal_pages room journal e net_is pages_are same version pages = copied format file x store.network store.version store.journal_pages room journal e version (pages ∙ pages_are) (same ∙ net_is)
all_copied (Err why) format file x net journal_pages room journal e net_is pages_are same version pages = tt

pub all_stand : {D E : Type 0} (r : Result (StoreState D) E) (content : D → List ℕ) (net : Net) (version journal_pages : ℕ) → IfOk r (λ store. store.network ≡ net) → IfOk r (λ store. store.version ≡ version)
    → IfOk r (λ store. store.journal_pages ≡ journal_pages) → IfOk r (λ store. store.checkpoint_pages ≡ checkpoint_pages_of (length net.arcs) net)
    → IfOk r (λ store. StandsTidyFor journal_pages (checkpoint_pages_of (length net.arcs) net) (content store.disk) net version)
    → IfOk r (λ store. StandsTidyFor store.journal_pages store.checkpoint_pages (content store.disk) store.network store.version)
all_stand (Ok store) content net version journal_pages same version_is pages_are parts_are stands = rw (same, version_is, pages_are, parts_are) stands
all_stand (Err why) content net version journal_pages same version_is pages_are parts_are stands = tt

pub all_left : {D E : Type 0} (r : Result (StoreState D) E) (content : D → List ℕ) (left : D → List ℕ → Type 0) → IfOk r (λ store. Only (content store.disk) (left store.disk))
    → IfOk r (λ store. StandsTidyFor store.journal_pages store.checkpoint_pages (content store.disk) store.network store.version)
    → IfOk r (λ store. (c : List ℕ) → left store.disk c → StandsTidyFor store.journal_pages store.checkpoint_pages c store.network store.version)
all_left (Ok store) content left only stands = λ c was. subst (λ (d : List ℕ). StandsTidyFor store.journal_pages store.checkpoint_pages d store.network store.version) (sym (only c was)) stands
all_left (Err why) content left only stands = tt

-- as honest as the disk that was given
pub all_honest : {D E : Type 0} (r : Result (StoreState D) (E × D)) (Honest : D → Type 0) (before given : D) → Honest given ↔ Honest before
    → (IfOk r (λ store. Honest store.disk ↔ Honest given)) × (IfErr r (λ refused. Honest refused.1 ↔ Honest given))
    → (IfOk r (λ store. Honest store.disk ↔ Honest before)) × (IfErr r (λ refused. Honest refused.1 ↔ Honest before))
all_honest (Ok store) Honest before given same told = ((λ h. same.0 (told.0.0 h), λ h. told.0.1 (same.1 h)), tt)
all_honest (Err refused) Honest before given same told = (tt, (λ h. same.0 (told.1.0 h), λ h. told.1.1 (same.1 h)))

-- making the new store is refused for nothing that the old one has, where its header fits
pub all_for_old : {D : Type 0} (r : Result (StoreState D) (Refusal × D)) (format : Format) (old : List ℕ) (room : Option ℕ) → HeaderFitsIn format old
    → IfErr r (λ refused. (refused.0 ≡ NotEmpty) ⊎ ((refused.0 ≡ Device) ⊎ (refused.0 ≡ OutOfMemory))) → IfErr r (λ refused. IsRefusedForOld format old room refused.0)
all_for_old (Ok store) format old room fits why = tt
all_for_old (Err refused) format old room fits (inl e) = subst (IsRefusedForOld format old room) (sym e) tt
all_for_old (Err refused) format old room fits (inr (inl e)) = subst (IsRefusedForOld format old room) (sym e) tt
all_for_old (Err refused) format old room fits (inr (inr e)) = subst (IsRefusedForOld format old room) (sym e) fits

pub all_new : {D E : Type 0} (r : Result (StoreState D) E) (content : D → List ℕ) (net : Net) (version journal_pages : ℕ) → IfOk r (λ store. store.network ≡ net) → IfOk r (λ store. store.version ≡ version)
    → IfOk r (λ store. store.journal_pages ≡ journal_pages) → IfOk r (λ store. IsNewFile journal_pages net version (content store.disk)) → IfOk r (λ store. IsNewFile store.journal_pages store.network store.version (content store.disk))
all_new (Ok store) content net version journal_pages same version_is pages_are made = rw (same, version_is, pages_are) made
all_new (Err why) content net version journal_pages same version_is pages_are made = tt

pub all_parts : {D E : Type 0} (r : Result (StoreState D) E) (net : Net) → IfOk r (λ store. store.network ≡ net) → IfOk r (λ store. store.checkpoint_pages ≡ checkpoint_pages_of (length net.arcs) net)
    → IfOk r (λ store. store.checkpoint_pages ≡ checkpoint_pages_of (length store.network.arcs) store.network)
all_parts (Ok store) net same parts_are = rw same parts_are
all_parts (Err why) net same parts_are = tt

pub all_empty : {D E : Type 0} (r : Result (StoreState D) E) (content before : List ℕ) → content ≡ before → IfOk r (λ store. content ≡ []) → OnOk r (before ≡ [])
all_empty (Ok store) content before same none = sym same ∙ none
all_empty (Err why) content before same none = tt

pub no_bytes : (content : List ℕ) → length content ≡ 0 → content ≡ []
no_bytes [] none = refl
no_bytes (x ∷ content) none = absurd (omega arith)

-- ---- why none is made

abbrev IsRefusedSo : Refusal → Type 0
IsRefusedSo refusal = (refusal ≡ NotEmpty) ⊎ ((refusal ≡ Device) ⊎ (refusal ≡ OutOfMemory))

for_new : (refusal : Refusal) (content before : List ℕ) → content ≡ before → IsRefusedSo refusal → (refusal ≡ NotEmpty → content ≢ []) → (refusal ≡ OutOfMemory → content ≡ []) → IsRefusedForNew before refusal
for_new refusal content before same (inl e) full none = subst (IsRefusedForNew before) (sym e) (λ empty. full e (same ∙ empty))
for_new refusal content before same (inr (inl e)) full none = subst (IsRefusedForNew before) (sym e) tt
for_new refusal content before same (inr (inr e)) full none = subst (IsRefusedForNew before) (sym e) (sym same ∙ none e)

pub all_for_new : {D : Type 0} (r : Result (StoreState D) (Refusal × D)) (content before : List ℕ) → content ≡ before → IfErr r (λ refused. IsRefusedSo refused.0)
    → IfErr r (λ refused. refused.0 ≡ NotEmpty → content ≢ []) → IfErr r (λ refused. refused.0 ≡ OutOfMemory → content ≡ []) → IfErr r (λ refused. IsRefusedForNew before refused.0)
all_for_new (Ok store) content before same why full none = tt
all_for_new (Err refused) content before same why full none = for_new refused.0 content before same why full none

cause : (refusal : Refusal) → IsRefusedSo refusal → MayEndCopying refusal
cause refusal (inl e) = subst MayEndCopying (sym e) refl
cause refusal (inr (inl e)) = subst MayEndCopying (sym e) refl
cause refusal (inr (inr e)) = subst MayEndCopying (sym e) refl

pub all_causes : {D : Type 0} (r : Result (StoreState D) (Refusal × D)) → IfErr r (λ refused. IsRefusedSo refused.0) → IfErr r (λ refused. MayEndCopying refused.0)
all_causes (Ok store) why = tt
all_causes (Err refused) why = cause refused.0 why

counted : (refusal : Refusal) (old old' new mid new' : ℕ) → IsRefusedSo refusal → old' ≡ old → mid ≡ new → new' ≡ failures_with refusal mid → CountsCopyFailure refusal old old' new new'
counted refusal old old' new mid new' (inl e) same read told = subst (λ (r : Refusal). CountsCopyFailure r old old' new new') (sym e) (same, told ∙ ap (λ (r : Refusal). failures_with r mid) e ∙ read)
counted refusal old old' new mid new' (inr (inl e)) same read told = subst (λ (r : Refusal). CountsCopyFailure r old old' new new') (sym e) (inr (same, told ∙ ap (λ (r : Refusal). failures_with r mid) e ∙ ap one_more read))
counted refusal old old' new mid new' (inr (inr e)) same read told = subst (λ (r : Refusal). CountsCopyFailure r old old' new new') (sym e) (same, told ∙ ap (λ (r : Refusal). failures_with r mid) e ∙ read)

pub all_counted : {O D : Type 0} (r : Result (StoreState D) (Refusal × D)) (of_old : O → ℕ) (of_new : D → ℕ) (old old' : O) (new mid : D) → of_old old' ≡ of_old old → of_new mid ≡ of_new new → IfErr r (λ refused. IsRefusedSo refused.0)
    → MatchResult r (λ store. of_new store.disk ≡ of_new mid) (IsCountedBy of_new mid) → CountsCopy of_old of_new old old' new r
all_counted (Ok store) of_old of_new old old' new mid same read why told = (same, told ∙ read)
all_counted (Err refused) of_old of_new old old' new mid same read why told = counted refused.0 (of_old old) (of_old old') (of_new new) (of_new mid) (of_new refused.1) why same read told

pub all_same : {D : Type 0} (disk : Ghosts D) (r : Result (StoreState D) (Refusal × D)) (before mid : D) → StaysSame disk.content disk.left disk.moment disk.left_since before mid
    → IfErr r (λ refused. refused.0 ≢ Device → StaysSame disk.content disk.left disk.moment disk.left_since mid refused.1)
    → IfErr r (λ refused. refused.0 ≢ Device → StaysSame disk.content disk.left disk.moment disk.left_since before refused.1)
all_same disk (Ok store) before mid first second = tt
all_same disk (Err refused) before mid first second = λ other. same_twice disk.moment disk.left_since disk.content disk.left before mid refused.1 first (second other)

-- the new disk is handed back
pub refused_so : {O D : Type 0} (from : Ghosts O) (to : Ghosts D) (format : Format) (room journal : Option ℕ) (old old' : O) (new new' : D) (refusal : Refusal)
    → (to.honest new → IsRefusedForNew (to.content new) refusal) → (from.honest old → IsRefusedForOld format (from.content old) room refusal) → MayEndCopying refusal
    → CountsCopyFailure refusal (from.failures old) (from.failures old') (to.failures new) (to.failures new') → (from.honest old → StaysSame from.content from.left from.moment from.left_since old old')
    → (to.honest new → refusal ≢ Device → StaysSame to.content to.left to.moment to.left_since new new') → from.honest old' ↔ from.honest old → to.honest new' ↔ to.honest new
    → Copies from to format room journal old old' new (Err (refusal, new'))
refused_so from to format room journal old old' new new' refusal for_new for_old cause counts untouched same honest honest_new = record {
  copied = λ h. tt;
  stands = λ h. tt;
  made = λ h. tt;
  empty = λ h. tt;
  only = λ h. tt;
  left = λ h. tt;
  tidy = λ h. tt;
  told = λ h. tt;
  checkpoint_pages = tt;
  unchecked = tt;
  slot = tt;
  works = tt;
  none_going = tt;
  none_in_flight = tt;
  given = tt;
  refused_for_new = for_new;
  refused_for_old = for_old;
  causes = cause;
  counted = counts;
  untouched = untouched;
  same = same;
  honest = honest;
  honest_new = (tt, honest_new);
}
