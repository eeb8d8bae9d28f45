-- What a session knows and has receipts of, and what it is told of what is shown.
use Rattle.std.proofs.Common.{◌≡◌, ◌∙◌, inl, inr, ℕ, ◌+◌, ◌≤◌, true, List, [], ◌∷◌, ◌++◌, All, Option, None, Some, length, get_or, refl, sym, ap, subst, arith}
use Rattle.std.proofs.lemmas.List.{append-nil, length-append}
use Rattle.std.proofs.lemmas.List.Elements.{All-push, All-nil}
use Rattle.std.specs.Prelude.{Result, Ok, Err, IfOk, IfErr, IfSome, OnOk}
use mathlib.Core.List.{IsPrefix}
use Rattle.roadnet.specs.declared.refusals.Refusal.{Refusal}
use Rattle.roadnet.specs.declared.groups.Group.{Group}
use Rattle.rows.specs.declared.queries.Query.{Query}
use Rattle.rows.specs.declared.queries.Reply.{Reply}
use Rattle.rows.specs.Replies.{IsRight}
use Rattle.history.specs.Origins.{Origin, Beginning}
use Rattle.history.specs.Claims.{Claimed, IsAcknowledgedIn}
use Rattle.history.proofs.Beginnings.{at_more, at_less, acknowledged_more, prefix_trans}
use Rattle.machine.specs.declared.calls.Ticket.{Ticket}
use Rattle.machine.specs.Laws.{IsAt}
use Rattle.desk.specs.Readings.{IsViewAfter}
use Rattle.rows.specs.declared.nearby.Near.{Near}
use Rattle.desk.specs.Turns.{IsUnserved}
use Rattle.rows.specs.Views.{AreRight, Viewed}
use Rattle.roadnet.specs.Step.{is_node}
use Rattle.deltastep.specs.declared.rows.known.NodeDistance.{NodeDistance}
use Rattle.rows.specs.Nearby.{IsNear, IsUntold, are_pairs, node_of}
use Rattle.roadnet.specs.Net.{Net}
use Rattle.machine.specs.declared.events.Replied.TheVariants.{Durable, Refused as told_refused}
use Rattle.printing.specs.Nodes.{pair_lines}
use Rattle.printing.specs.Printed.{version_line}
use Rattle.sessions.specs.declared.session.sessions.Accepted.{Accepted}
use Rattle.sessions.specs.declared.session.sessions.Accepted.TheVariants.{Settled, Unsettled}
use Rattle.printing.specs.declared.looks.Look.{Look}
use Rattle.printing.specs.Looks.{look_lines}
use Rattle.session_lines.specs.Copying.{Copying, IsUnmade}
use Rattle.sessions.specs.declared.queries.finding.Heading.TheVariants.{Shown as of_shown}
use Rattle.sessions.specs.Headings.{untold_lines}
use Rattle.sessions.specs.Nearby.{IsNearAnswer, IsTableAnswer, IsToldAfter, near_lines}
use Rattle.sessions.specs.Told.{AnswersAfter, copied_line, copied_or_refusal, IsCopied, IsLookTold, IsReached, HaveReceipts, HasMore, HasShown, ShowsLast, Carried, IsDeclined, claim_of, known_to}
use Rattle.sessions.specs.Turns.{SessionStanding, IsSessionAt, IsSessionKept}

-- the answer by what was seen of the view
pub answered : (origin : Origin) (groups known : List Group) (view : Viewed) (query : Query) (version : ℕ) (reply : Reply) → groups ≡ known → IsViewAfter origin groups view → version ≡ view.version
    → IsRight view.network query reply → AnswersAfter origin known query (record { version = version; reply = reply })
answered origin groups known view query version reply same is is_version right =
    let seen : IsViewAfter origin known view = subst (λ (gs : List Group). IsViewAfter origin gs view) same is in
    record { network = view.network; network_is = seen.network; version = is_version ∙ seen.version; right = right }

-- who knew nothing
pub nothing_known : (old : Option Beginning) (now : List Group) → old ≡ None → IsPrefix (known_to old) now
nothing_known old now none = rw none (now, refl)

pub shown_origin : (origin : Origin) (last : Option Accepted) (shown : Beginning) → HasShown origin last (Some shown) → shown.origin ≡ origin
shown_origin origin None shown has = absurd has
shown_origin origin (Some accepted) shown has = has.0

pub shows_none : (origin : Origin) (last : Option Accepted) (groups : List Group) (version : ℕ) → HasShown origin last None → version ≡ origin.version + length groups
    → ShowsLast origin last groups version
shows_none origin None groups version has is = is
shows_none origin (Some accepted) groups version has is = absurd has

pub shows_last : (origin : Origin) (last : Option Accepted) (shown : Beginning) (groups : List Group) (version : ℕ) → HasShown origin last (Some shown) → IsPrefix shown.groups groups
    → version ≡ origin.version + length groups → ShowsLast origin last groups version
shows_last origin None shown groups version has begins is = absurd has
shows_last origin (Some accepted) shown groups version has begins is = (at_more origin.version shown.groups groups (claim_of accepted).ticket begins has.1, is)

pub ok_shows : (origin : Origin) (last : Option Accepted) (shown : Beginning) (groups : List Group) (result : Result ℕ Refusal) → HasShown origin last (Some shown) → OnOk result (IsPrefix shown.groups groups)
    → IfOk result (λ version. version ≡ origin.version + length groups) → IfOk result (ShowsLast origin last groups)
ok_shows origin last shown groups (Ok version) has begins is = shows_last origin last shown groups version has begins is
ok_shows origin last shown groups (Err refusal) has begins is = tt

pub ok_shows_none : (origin : Origin) (last : Option Accepted) (groups : List Group) (result : Result ℕ Refusal) → HasShown origin last None → IfOk result (λ version. version ≡ origin.version + length groups)
    → IfOk result (ShowsLast origin last groups)
ok_shows_none origin last groups (Ok version) has is = shows_none origin last groups version has is
ok_shows_none origin last groups (Err refusal) has is = tt

-- what holds in any case
pub on_any_ok : {X E P : Type 0} (result : Result X E) → P → OnOk result P
on_any_ok (Ok x) p = p
on_any_ok (Err e) p = tt

-- ---- what a session has receipts of

-- the same beginning has the same groups
pub nothing_more : (origin : Origin) (had has : Option Beginning) → has ≡ had → HasMore origin had has []
nothing_more origin had has same tickets held =
    subst (λ (ts : List Ticket). HaveReceipts origin has ts) (sym (append-nil tickets)) (subst (λ (f : Option Beginning). HaveReceipts origin f tickets) (sym same) held)

-- a beginning that goes on from one that had some, and has a receipt more
pub joined_receipt : (origin : Origin) (had : Option Beginning) (front own longer : Beginning) (ticket : Ticket) → had ≡ Some front → front.origin ≡ origin → own.origin ≡ origin → longer.origin ≡ front.origin
    → IsPrefix front.groups longer.groups → IsPrefix own.groups longer.groups → (front.acknowledged ≤ longer.acknowledged) × (own.acknowledged ≤ longer.acknowledged)
    → IsAcknowledgedIn own ticket → HasMore origin had (Some longer) (ticket ∷ [])
joined_receipt origin had front own longer ticket some front_of own_of longer_of begins own_begins told is tickets held =
    let before : All (IsAcknowledgedIn front) tickets = (subst (λ (f : Option Beginning). HaveReceipts origin f tickets) some held).1 in (
      longer_of ∙ front_of,
      All-push (IsAcknowledgedIn longer) tickets ticket
          (λ k d lt. acknowledged_more front longer (get_or tickets k d) longer_of begins told.0 (before k d lt))
          (acknowledged_more own longer ticket (longer_of ∙ front_of ∙ sym own_of) own_begins told.1 is),
    )

-- the first receipt
pub first_receipt : (origin : Origin) (had : Option Beginning) (own front : Beginning) (ticket : Ticket) → had ≡ None → own.origin ≡ origin → front ≡ own → IsAcknowledgedIn own ticket
    → HasMore origin had (Some front) (ticket ∷ [])
first_receipt origin had own front ticket none own_of same is tickets held =
    let empty : tickets ≡ [] = subst (λ (f : Option Beginning). HaveReceipts origin f tickets) none held in
    rw (same, empty) (own_of, All-push (IsAcknowledgedIn own) [] ticket (All-nil (IsAcknowledgedIn own)) is)

-- the receipt of a group that is told to be durable
told_receipt : (origin : Origin) (receipt : Claimed) (had has : Option Beginning) (group : Group) (number : ℕ) → receipt.origin ≡ origin → receipt.ticket.number ≡ number → receipt.ticket.group ≡ group
    → HasMore receipt.origin had has (receipt.ticket ∷ []) → HasMore origin had has (record { number = number; group = group } ∷ [])
told_receipt origin receipt had has group number of_origin is_number is_group more =
    let same : receipt.ticket ≡ record { number = number; group = group } = λ i. record { number = is_number i; group = is_group i } in
    subst (λ (o : Origin). HasMore o had has (record { number = number; group = group } ∷ [])) of_origin (subst (λ (t : Ticket). HasMore receipt.origin had has (t ∷ [])) same more)

pub carried_durable : (origin : Origin) (receipt : Claimed) (before : Option Accepted) (had has : Option Beginning) (group : Group) (number : ℕ) → receipt.origin ≡ origin → receipt.ticket.number ≡ number → receipt.ticket.group ≡ group
    → HasMore receipt.origin had has (receipt.ticket ∷ []) → Carried origin before (Some (Settled receipt)) had has group (Durable number)
carried_durable origin receipt before had has group number of_origin is_number is_group more = record {
  durable = record { number = number; group = group } ∷ [];
  settles = ((of_origin, is_number, is_group), refl);
  kept = told_receipt origin receipt had has group number of_origin is_number is_group more;
}

pub carried_unsettled : (origin : Origin) (ticket : Claimed) (before : Option Accepted) (had has : Option Beginning) (group : Group) (refusal : Refusal) → ticket.origin ≡ origin → ticket.ticket.group ≡ group → has ≡ had
    → IsUnserved origin ticket.ticket.number refusal → Carried origin before (Some (Unsettled ticket)) had has group (told_refused refusal)
carried_unsettled origin ticket before had has group refusal of_origin is_group same unserved =
    record { durable = []; settles = inr ((of_origin, is_group, unserved), refl); kept = nothing_more origin had has same }

pub carried_declined : (origin : Origin) (before last : Option Accepted) (had has : Option Beginning) (group : Group) (refusal : Refusal) → last ≡ before → IsDeclined origin had has group refusal
    → Carried origin before last had has group (told_refused refusal)
carried_declined origin before last had has group refusal same declined = record { durable = declined.durable; settles = inl (same, declined.turned_down); kept = declined.kept }

-- what the session has is in the closed history, and what it has seen was shown
pub kept_in : (origin : Origin) (whole shown : Beginning) (place receipts : Option Beginning) (last : SessionStanding) → whole.origin ≡ origin
    → IfSome receipts (λ front. IsPrefix front.groups whole.groups × (front.acknowledged ≤ whole.acknowledged)) → IsPrefix (known_to place) shown.groups
    → IsSessionAt origin place receipts last → IsSessionKept whole shown last
kept_in origin whole shown place None last same held seen is = record {
  durable = λ kept keeps. rw is.durable (All-nil (IsAt whole.origin.version kept));
  known = λ kept keeps. rw is.known (prefix_trans (known_to place) shown.groups kept seen keeps.shown_too);
}
kept_in origin whole shown place (Some front) last same held seen is = record {
  durable = λ kept keeps k d lt.
      let ticket = get_or last.durable k d in
      let there = acknowledged_more front whole ticket (same ∙ sym is.durable.0) held.0 held.1 (is.durable.1 k d lt) in
      at_less whole.origin.version kept whole.groups ticket keeps.begins (let all = keeps.acknowledged in let told = there.acknowledged in omega (arith, all, told)) there.at;
  known = λ kept keeps. rw is.known (prefix_trans (known_to place) shown.groups kept seen keeps.shown_too);
}

-- ---- what is told of what is shown

-- the lines of what was seen of the view
pub looked : (origin : Origin) (groups known : List Group) (view : Viewed) (look : Look) → groups ≡ known → IsViewAfter origin groups view → IsLookTold origin known look (look_lines view.network view.version look)
looked origin groups known view look seen is =
    let there : IsViewAfter origin known view = subst (λ (gs : List Group). IsViewAfter origin gs view) seen is in
    inl (record { network = view.network; network_is = there.network; told_is = ap (λ (v : ℕ). look_lines view.network v look) there.version })

-- the copy that was made of what was seen, or why there is none
pub copied : (copying : Copying) (origin : Origin) (groups known : List Group) (view : Viewed) (name : List ℕ) (made : Result ℕ Refusal) → copying.allowed ≡ true → groups ≡ known → IsViewAfter origin groups view
    → IfOk made (λ version. version ≡ view.version) → IfOk made (copying.made name view.network) → IfErr made IsUnmade → IsCopied copying origin known name (copied_or_refusal made)
copied copying origin groups known view name (Ok version) allowed seen is version_is made causes =
    let there : IsViewAfter origin known view = subst (λ (gs : List Group). IsViewAfter origin gs view) seen is in
    let at : version ≡ origin.version + length known = version_is ∙ there.version in
    inr (allowed, inl (record { network = view.network; network_is = there.network; made = subst (λ (v : ℕ). copying.made name view.network v) at made; told_is = ap copied_line at }))
copied copying origin groups known view name (Err refusal) allowed seen is version_is made causes = inr (allowed, inr (refusal, inr causes, refl))

-- what is found near a node, or for what it is not told
pub near_found : (near : Near) (view : Viewed) (version : ℕ) (found : List NodeDistance) → version ≡ view.version → is_node view.network (node_of near) ≡ true → IsNear view.network near found
    → IsNearAnswer near view.network view.version (version_line version ++ near_lines near found)
near_found near view version found at there is = inl (found, there, is, ap (λ (v : ℕ). version_line v ++ near_lines near found) at)

pub no_near_found : (near : Near) (view : Viewed) (version : ℕ) (refusal : Refusal) → version ≡ view.version → IsUntold (is_node view.network (node_of near)) refusal
    → IsNearAnswer near view.network view.version (untold_lines (of_shown version) refusal)
no_near_found near view version refusal at cause = inr (refusal, cause, ap (λ (v : ℕ). untold_lines (of_shown v) refusal) at)

-- the replies to pairs, or for what they are not told
pub table_found : (pairs : List (ℕ × ℕ)) (view : Viewed) (version : ℕ) (replies : List Reply) → version ≡ view.version → are_pairs view.network pairs ≡ true → AreRight view.network pairs replies
    → IsTableAnswer pairs view.network view.version (version_line version ++ pair_lines pairs replies)
table_found pairs view version replies at there right = inl (replies, there, right, ap (λ (v : ℕ). version_line v ++ pair_lines pairs replies) at)

pub no_table_found : (pairs : List (ℕ × ℕ)) (view : Viewed) (version : ℕ) (refusal : Refusal) → version ≡ view.version → IsUntold (are_pairs view.network pairs) refusal
    → IsTableAnswer pairs view.network view.version (untold_lines (of_shown version) refusal)
no_table_found pairs view version refusal at cause = inr (refusal, cause, ap (λ (v : ℕ). untold_lines (of_shown v) refusal) at)

-- what was written so of a view that was seen
pub told_after : (origin : Origin) (groups known : List Group) (view : Viewed) (IsAnswer : Net → ℕ → List ℕ → Type 0) (told : List ℕ) → groups ≡ known → IsViewAfter origin groups view → IsAnswer view.network view.version told
    → IsToldAfter origin known IsAnswer told
told_after origin groups known view IsAnswer told seen is answer =
    let there : IsViewAfter origin known view = subst (λ (gs : List Group). IsViewAfter origin gs view) seen is in
    inl (view.network, there.network, subst (λ (v : ℕ). IsAnswer view.network v told) there.version answer)

-- the same pairs
pub told_pairs : (origin : Origin) (known : List Group) (pairs all : List (ℕ × ℕ)) (told : List ℕ) → pairs ≡ all → IsToldAfter origin known (IsTableAnswer pairs) told → IsToldAfter origin known (IsTableAnswer all) told
told_pairs origin known pairs all told same is = subst (λ (ps : List (ℕ × ℕ)). IsToldAfter origin known (IsTableAnswer ps) told) same is

prefix_length : (shown groups : List Group) → IsPrefix shown groups → length shown ≤ length groups
prefix_length shown groups begins = omega (arith, ap length begins.1, length-append shown begins.0)

-- the version that was waited for is among those that were shown
pub reached : (origin : Origin) (number : ℕ) (shown groups : List Group) (result : Result ℕ Refusal) → number ≤ origin.version + length shown → OnOk result (IsPrefix shown groups)
    → IfOk result (λ version. version ≡ origin.version + length groups) → IfOk result (IsReached origin number groups)
reached origin number shown groups (Ok version) there begins is = (let longer = prefix_length shown groups begins in omega (arith, there, longer, is), is)
reached origin number shown groups (Err refusal) there begins is = tt
