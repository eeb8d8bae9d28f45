-- What a session says, by what it writes and how it goes on.
use Rattle.std.proofs.Common.{◌≡◌, ◌∙◌, inl, inr, ℕ, Bool, true, false, List, [], Option, None, Some, refl, sym, subst}
use Rattle.std.proofs.KnownBytes.{Appends-nil}
use Rattle.std.proofs.lemmas.List.{append-nil}
use Rattle.std.specs.Prelude.{Result, Ok, Err, OnOk}
use Rattle.dimacs.specs.declared.fault.Code.{Code}
use Rattle.roadnet.specs.declared.groups.Group.{Group}
use Rattle.roadnet.specs.declared.refusals.Refusal.TheVariants.{OutOfMemory}
use Rattle.roadnet.specs.Numbers.{number_of}
use Rattle.history.specs.Origins.{Origin, Beginning}
use Rattle.machine.specs.declared.calls.Ticket.{Ticket}
use Rattle.machine.specs.declared.events.Replied.{Replied}
use Rattle.office.specs.declared.naming.Naming.{Ghosts}
use Rattle.printing.specs.Counting.{writer_of}
use Rattle.printing.specs.Printed.{refusal_line}
use Rattle.printing.specs.Replied.{printed_reply}
use Rattle.printing.specs.Writers.{Puts}
use Rattle.printing.specs.declared.failed.Failed.{Failed}
use Rattle.printing.specs.declared.writer.CountedWriter.{CountedWriter}
use Rattle.session_lines.specs.declared.drafts.Draft.{Draft}
use Rattle.session_lines.specs.declared.lines.Line.{Line}
use Rattle.session_lines.specs.declared.lines.Line.TheVariants.{End}
use Rattle.session_lines.specs.Drafts.{Drafted, IsDraft, IsWhole, draft_fault_of, with_line}
use Rattle.sessions.specs.declared.session.sessions.SessionGroup.{SessionGroup}
use Rattle.sessions.specs.declared.session.sessions.Purpose.{Purpose}
use Rattle.sessions.specs.declared.session.sessions.Purpose.TheVariants.{ToCarryOut}
use Rattle.sessions.specs.declared.session.sessions.Session.{Session}
use Rattle.session_lines.specs.Copying.{Copying}
use Rattle.sessions.specs.Saying.{EndsSo, IsKeptGroup, PutsSo, SaysToLine, Stays, Tells, session_state_of}
use Rattle.sessions.specs.Told.{Carried, HasMore, Settles, known_to}
use Rattle.sessions.specs.Turns.{Grouped, IsSessionAnswer, IsEnd, IsEndAnswer, IsGroupAnswer, LeavesSession, SessionState, asks_alone, fault_number, next_group}
use Rattle.sessions.proofs.Answered.{nothing_more}

-- ---- bytes that are written

-- these bytes are as is wanted
pub puts_so : {W X : Type 0} (contents : W → Option (List ℕ)) (Is : List ℕ → Type 0) (text : List ℕ) (result : Result X Failed) (before after : CountedWriter W) → Is text → Puts contents text result before after
    → PutsSo contents Is result before after
puts_so contents Is text (Ok x) before after is puts = record { written = (text, is, puts.written); refused = puts.refused; counts = puts.counts; same = puts.same }
puts_so contents Is text (Err e) before after is puts = record { written = tt; refused = puts.refused; counts = puts.counts; same = puts.same }

-- what is so is as is wanted
pub puts_also : {W X : Type 0} (contents : W → Option (List ℕ)) (Is Wanted : List ℕ → Type 0) (result : Result X Failed) (before after : CountedWriter W) → ((told : List ℕ) → Is told → Wanted told)
    → PutsSo contents Is result before after → PutsSo contents Wanted result before after
puts_also contents Is Wanted (Ok x) before after also puts =
    record { written = (puts.written.0, also puts.written.0 puts.written.1, puts.written.2); refused = puts.refused; counts = puts.counts; same = puts.same }
puts_also contents Is Wanted (Err e) before after also puts = record { written = tt; refused = puts.refused; counts = puts.counts; same = puts.same }

-- ---- how the session goes on

pub stays_same : {N : Type 0} {n : Ghosts N} (session : Session N n) → Stays session session
stays_same session = record { last = refl; receipts = refl; group = refl; supposed = refl; begins = ([], append-nil (known_to session.place)) }

pub leaves_as : {N : Type 0} {n : Ghosts N} (old new : Session N n) → Stays old new → LeavesSession old.supposed (session_state_of old) (session_state_of new) []
leaves_as old new stays = record { last = stays.last; supposed_is = stays.supposed; none_durable = refl }

-- nothing of the desk's history has come to it
pub tells_so : {N : Type 0} {n : Ghosts N} {W X : Type 0} (contents : W → Option (List ℕ)) (Is : List ℕ → Type 0) (To : SessionState → SessionState → List ℕ → List Ticket → Type 0) (origin : Origin) (old new : Session N n)
    (result : Result X Failed) (before after : CountedWriter W) → new.receipts ≡ old.receipts → ((told : List ℕ) → Is told → To (session_state_of old) (session_state_of new) told []) → PutsSo contents Is result before after
    → OnOk result (Tells To origin old new contents before after)
tells_so contents Is To origin old new (Ok x) before after same so puts =
    record { told = puts.written.0; durable = []; so = so puts.written.0 puts.written.1; kept = nothing_more origin old.receipts new.receipts same; written = puts.written.2 }
tells_so contents Is To origin old new (Err e) before after same so puts = tt

pub tells_text : {N : Type 0} {n : Ghosts N} {W X : Type 0} (contents : W → Option (List ℕ)) (text : List ℕ) (To : SessionState → SessionState → List ℕ → List Ticket → Type 0) (origin : Origin) (old new : Session N n)
    (result : Result X Failed) (before after : CountedWriter W) → new.receipts ≡ old.receipts → To (session_state_of old) (session_state_of new) text [] → Puts contents text result before after
    → OnOk result (Tells To origin old new contents before after)
tells_text contents text To origin old new result before after same so puts =
    tells_so contents (λ told. told ≡ text) To origin old new result before after same (λ told is. subst (λ (t : List ℕ). To (session_state_of old) (session_state_of new) t []) (sym is) so) (puts_so contents (λ told. told ≡ text) text result before after refl puts)

-- ---- groups

group_carried : (changes : Bool) (origin : Origin) (group : Group) (was is : SessionState) (reply : Replied) (durable : List Ticket) → changes ≡ true → is.supposed ≡ was.supposed
    → Settles origin was.last is.last group reply durable → IsGroupAnswer changes origin group was is (printed_reply reply) durable
group_carried changes origin group was is reply durable e same settles = rw e (reply, settles, same, refl)

group_asked : (changes : Bool) (origin : Origin) (group : Group) (was is : SessionState) → changes ≡ false → LeavesSession was.supposed was is [] → IsGroupAnswer changes origin group was is (refusal_line asks_alone) []
group_asked changes origin group was is e leaves = rw e (leaves, refl)

-- a group that is carried out, and one of a session that asks alone
pub tells_carried : {N : Type 0} {n : Ghosts N} {W X : Type 0} (contents : W → Option (List ℕ)) (changes : Bool) (origin : Origin) (group : Group) (old new : Session N n) (reply : Replied) (result : Result X Failed) (before after : CountedWriter W)
    → changes ≡ true → new.supposed ≡ old.supposed → Carried origin old.last new.last old.receipts new.receipts group reply → Puts contents (printed_reply reply) result before after
    → OnOk result (Tells (IsGroupAnswer changes origin group) origin old new contents before after)
tells_carried contents changes origin group old new reply (Ok x) before after e same carried puts = record {
  told = printed_reply reply;
  durable = carried.durable;
  so = group_carried changes origin group (session_state_of old) (session_state_of new) reply carried.durable e same carried.settles;
  kept = carried.kept;
  written = puts.written;
}
tells_carried contents changes origin group old new reply (Err error) before after e same carried puts = tt

pub tells_asking : {N : Type 0} {n : Ghosts N} {W X : Type 0} (contents : W → Option (List ℕ)) (changes : Bool) (origin : Origin) (group : Group) (session : Session N n) (result : Result X Failed) (before after : CountedWriter W)
    → changes ≡ false → Puts contents (refusal_line asks_alone) result before after → OnOk result (Tells (IsGroupAnswer changes origin group) origin session session contents before after)
tells_asking contents changes origin group session result before after e puts =
    tells_text contents (refusal_line asks_alone) (IsGroupAnswer changes origin group) origin session session result before after refl
    (group_asked changes origin group (session_state_of session) (session_state_of session) e (leaves_as session session (stays_same session))) puts

-- ---- the end of a group that is to be carried out
module _ (copying : Copying) (origin : Origin) (was is : SessionState) where
  by_fault : (fault found : Option Code) (group : Group) (told : List ℕ) (durable : List Ticket) → fault ≡ found → IsEndAnswer copying origin found group was is told durable → IsEndAnswer copying origin fault group was is told durable
  by_fault fault found group told durable e so = rw e so

  pub ends_whole : (kept : Draft) (group : Group) (told : List ℕ) (durable : List Ticket) → ((draft : Drafted) → IsDraft draft kept → IsWhole draft group) → IsGroupAnswer copying.changes origin group was is told durable
      → EndsSo copying origin ToCarryOut kept was is told durable
  ends_whole kept group told durable whole so draft drafted =
      by_fault (draft_fault_of draft) None draft.commands told durable (whole draft drafted).0
      (inl (subst (λ (g : Group). IsGroupAnswer copying.changes origin g was is told durable) (whole draft drafted).1 so))

  pub ends_faulty : (kept : Draft) (code : Code) → ((draft : Drafted) → IsDraft draft kept → draft_fault_of draft ≡ Some code) → LeavesSession was.supposed was is []
      → EndsSo copying origin ToCarryOut kept was is (refusal_line (fault_number code)) []
  ends_faulty kept code fault leaves draft drafted = by_fault (draft_fault_of draft) (Some code) draft.commands (refusal_line (fault_number code)) [] (fault draft drafted) (leaves, refl)

  pub ends_unkept : (kept : Draft) → ((draft : Drafted) → IsDraft draft kept → draft_fault_of draft ≡ None) → LeavesSession was.supposed was is []
      → EndsSo copying origin ToCarryOut kept was is (refusal_line (number_of OutOfMemory)) []
  ends_unkept kept none leaves draft drafted = by_fault (draft_fault_of draft) None draft.commands (refusal_line (number_of OutOfMemory)) [] (none draft drafted) (inr (leaves, refl))

-- what is told so is told as is wanted
pub tells_also : {N : Type 0} {n : Ghosts N} {W X : Type 0} (contents : W → Option (List ℕ)) (To Wanted : SessionState → SessionState → List ℕ → List Ticket → Type 0) (origin : Origin) (old new : Session N n) (result : Result X Failed)
    (before after : CountedWriter W) → ((told : List ℕ) (durable : List Ticket) → To (session_state_of old) (session_state_of new) told durable → Wanted (session_state_of old) (session_state_of new) told durable)
    → OnOk result (Tells To origin old new contents before after) → OnOk result (Tells Wanted origin old new contents before after)
tells_also contents To Wanted origin old new (Ok x) before after also tells =
    record { told = tells.told; durable = tells.durable; so = also tells.told tells.durable tells.so; kept = tells.kept; written = tells.written }
tells_also contents To Wanted origin old new (Err e) before after also tells = tt

-- ---- a line outside of groups

no_group : (group : Option Grouped) (kept : Option SessionGroup) → kept ≡ None → IsKeptGroup group kept → group ≡ None
no_group None kept none is = refl
no_group (Some group) kept none is = absurd (subst (λ (k : Option SessionGroup). IsKeptGroup (Some group) k) none is)

pub no_kept : (kept : Option SessionGroup) → kept ≡ None → IsKeptGroup None kept
no_kept kept none = rw none tt

pub says_alone : {N : Type 0} {n : Ghosts N} {W X : Type 0} (contents : W → Option (List ℕ)) (copying : Copying) (origin : Origin) (line : Line) (old new : Session N n) (result : Result X Failed) (before after : CountedWriter W)
    → old.group ≡ None → IsKeptGroup (next_group None line) new.group → OnOk result (Tells (IsSessionAnswer copying origin None line) origin old new contents before after)
    → OnOk result (SaysToLine copying origin line old new contents before after)
says_alone contents copying origin line old new (Ok x) before after none next tells = record {
  told = tells.told;
  durable = tells.durable;
  so = λ group is. rw (no_group group old.group none is) (tells.so, next);
  kept = tells.kept;
  written = tells.written;
}
says_alone contents copying origin line old new (Err e) before after none next tells = tt

-- the same of a session that differs in nothing that is said of it
pub says_taken : {N : Type 0} {n : Ghosts N} {W X : Type 0} (contents : W → Option (List ℕ)) (copying : Copying) (origin : Origin) (line : Line) (old between new : Session N n) (result : Result X Failed) (before after : CountedWriter W)
    → between.group ≡ old.group → session_state_of between ≡ session_state_of old → between.receipts ≡ old.receipts → OnOk result (SaysToLine copying origin line between new contents before after)
    → OnOk result (SaysToLine copying origin line old new contents before after)
says_taken contents copying origin line old between new (Ok x) before after same_group same_state same says = record {
  told = says.told;
  durable = says.durable;
  so = λ group is.
      let so = says.so group (subst (λ (k : Option SessionGroup). IsKeptGroup group k) (sym same_group) is) in
      (subst (λ (s : SessionState). IsSessionAnswer copying origin group line s (session_state_of new) says.told says.durable) same_state so.0, so.1);
  kept = subst (λ (had : Option Beginning). HasMore origin had new.receipts says.durable) same says.kept;
  written = says.written;
}
says_taken contents copying origin line old between new (Err e) before after same_group same_state same says = tt

-- by which no group is accepted
pub says_so : {N : Type 0} {n : Ghosts N} {W X : Type 0} (contents : W → Option (List ℕ)) (Is : List ℕ → Type 0) (copying : Copying) (origin : Origin) (line : Line) (old new : Session N n) (result : Result X Failed)
    (before after : CountedWriter W) → old.group ≡ None → IsKeptGroup (next_group None line) new.group → new.receipts ≡ old.receipts
    → ((told : List ℕ) → Is told → IsSessionAnswer copying origin None line (session_state_of old) (session_state_of new) told []) → PutsSo contents Is result before after → OnOk result (SaysToLine copying origin line old new contents before after)
says_so contents Is copying origin line old new result before after none next same so puts =
    says_alone contents copying origin line old new result before after none next (tells_so contents Is (IsSessionAnswer copying origin None line) origin old new result before after same so puts)

pub says_text : {N : Type 0} {n : Ghosts N} {W X : Type 0} (contents : W → Option (List ℕ)) (text : List ℕ) (copying : Copying) (origin : Origin) (line : Line) (old new : Session N n) (result : Result X Failed)
    (before after : CountedWriter W) → old.group ≡ None → IsKeptGroup (next_group None line) new.group → new.receipts ≡ old.receipts
    → IsSessionAnswer copying origin None line (session_state_of old) (session_state_of new) text [] → Puts contents text result before after → OnOk result (SaysToLine copying origin line old new contents before after)
says_text contents text copying origin line old new result before after none next same so puts =
    says_alone contents copying origin line old new result before after none next (tells_text contents text (IsSessionAnswer copying origin None line) origin old new result before after same so puts)

-- that is told nothing
pub says_nothing : {N : Type 0} {n : Ghosts N} {W : Type 0} (contents : W → Option (List ℕ)) (copying : Copying) (origin : Origin) (line : Line) (old new : Session N n) (out : CountedWriter W) → old.group ≡ None
    → IsKeptGroup (next_group None line) new.group → new.receipts ≡ old.receipts → IsSessionAnswer copying origin None line (session_state_of old) (session_state_of new) [] [] → SaysToLine copying origin line old new contents out out
says_nothing contents copying origin line old new out none next same so = record {
  told = [];
  durable = [];
  so = λ group is. rw (no_group group old.group none is) (so, next);
  kept = nothing_more origin old.receipts new.receipts same;
  written = Appends-nil (contents (writer_of out));
}

-- ---- a line within a group

some_group : (group : Option Grouped) (kept : SessionGroup) (at : Option SessionGroup) → at ≡ Some kept → IsKeptGroup group at → (one : Grouped) × (group ≡ Some one) × (one.purpose ≡ kept.purpose) × IsDraft one.draft kept.draft
some_group None kept at some is = absurd (subst (λ (k : Option SessionGroup). IsKeptGroup None k) some is)
some_group (Some one) kept at some is = let same = subst (λ (k : Option SessionGroup). IsKeptGroup (Some one) k) some is in (one, refl, same.0, same.1)

within : (copying : Copying) (origin : Origin) (group : Grouped) (line : Line) (was is : SessionState) → (line ≡ End → ⊥) → LeavesSession was.supposed was is [] → IsSessionAnswer copying origin (Some group) line was is [] []
within copying origin group End was is other leaves = absurd (other refl)
within copying origin group _ was is other leaves = (refl, leaves)

next_within : (group : Grouped) (line : Line) (next : SessionGroup) → (line ≡ End → ⊥) → group.purpose ≡ next.purpose → IsDraft (with_line group.draft line) next.draft → IsKeptGroup (next_group (Some group) line) (Some next)
next_within group End next other same is = absurd (other refl)
next_within group _ next other same is = (same, is)

-- nothing is told before the group's end
pub held_back : {N : Type 0} {n : Ghosts N} {W : Type 0} (contents : W → Option (List ℕ)) (copying : Copying) (origin : Origin) (line : Line) (old new : Session N n) (kept next : SessionGroup) (out : CountedWriter W) → (line ≡ End → ⊥)
    → old.group ≡ Some kept → new.group ≡ Some next → next.purpose ≡ kept.purpose → ((draft : Drafted) → IsDraft draft kept.draft → IsDraft (with_line draft line) next.draft) → new.receipts ≡ old.receipts
    → LeavesSession old.supposed (session_state_of old) (session_state_of new) [] → SaysToLine copying origin line old new contents out out
held_back contents copying origin line old new kept next out other some following same_purpose drafts same leaves = record {
  told = [];
  durable = [];
  so = λ group is.
      let one = some_group group kept old.group some is in
      rw (one.1, following) (within copying origin one.0 line (session_state_of old) (session_state_of new) other leaves, next_within one.0 line next other (one.2 ∙ sym same_purpose) (drafts one.0.draft one.3));
  kept = nothing_more origin old.receipts new.receipts same;
  written = Appends-nil (contents (writer_of out));
}

ends : (copying : Copying) (origin : Origin) (group : Grouped) (purpose : Purpose) (was is : SessionState) (told : List ℕ) (durable : List Ticket) → group.purpose ≡ purpose → IsEnd copying origin purpose group.draft was is told durable
    → IsSessionAnswer copying origin (Some group) End was is told durable
ends copying origin group purpose was is told durable same so = subst (λ (p : Purpose). IsEnd copying origin p group.draft was is told durable) (sym same) so

-- the end of a group, where the session is `between` once the group was taken out of it
pub says_end : {N : Type 0} {n : Ghosts N} {W X : Type 0} (contents : W → Option (List ℕ)) (copying : Copying) (origin : Origin) (line : Line) (old between new : Session N n) (kept : SessionGroup) (purpose : Purpose) (result : Result X Failed)
    (before after : CountedWriter W) → line ≡ End → old.group ≡ Some kept → new.group ≡ None → kept.purpose ≡ purpose → session_state_of between ≡ session_state_of old → between.receipts ≡ old.receipts
    → OnOk result (Tells (EndsSo copying origin purpose kept.draft) origin between new contents before after) → OnOk result (SaysToLine copying origin line old new contents before after)
says_end contents copying origin line old between new kept purpose (Ok x) before after is_end some none purpose_is same_state same tells = record {
  told = tells.told;
  durable = tells.durable;
  so = λ group is.
      let one = some_group group kept old.group some is in
      let so : IsEnd copying origin purpose one.0.draft (session_state_of old) (session_state_of new) tells.told tells.durable =
      subst (λ (s : SessionState). IsEnd copying origin purpose one.0.draft s (session_state_of new) tells.told tells.durable) same_state (tells.so one.0.draft one.3) in
      rw (one.1, is_end, none) (ends copying origin one.0 purpose (session_state_of old) (session_state_of new) tells.told tells.durable (one.2 ∙ purpose_is) so, tt);
  kept = subst (λ (had : Option Beginning). HasMore origin had new.receipts tells.durable) same tells.kept;
  written = tells.written;
}
says_end contents copying origin line old between new kept purpose (Err e) before after is_end some none purpose_is same_state same tells = tt
