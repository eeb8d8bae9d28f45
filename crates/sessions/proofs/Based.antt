-- What a refusal rests on, and what a session has of it.
use Rattle.std.proofs.Common.{◌≡◌, ◌∙◌, inl, inr, ℕ, ◌+◌, ◌-◌, ◌≤◌, List, [], ◌∷◌, ◌++◌, All, Option, None, Some, length, get_or, refl, ap, subst, arith, append_assoc, length-append}
use Rattle.std.proofs.lemmas.List.Elements.{All-append, All-cons, All-nil}
use mathlib.Core.List.{IsPrefix}
use Rattle.roadnet.specs.declared.groups.Group.{Group}
use Rattle.roadnet.specs.declared.refusals.Refusal.{Refusal}
use Rattle.roadnet.specs.Net.{nth}
use Rattle.roadnet.proofs.Stepped.{nth-added}
use Rattle.history.specs.Origins.{Origin, Beginning}
use Rattle.history.specs.Claims.{IsAcknowledgedIn}
use Rattle.history.proofs.Beginnings.{at_more, acknowledged_more, prefix_trans}
use Rattle.machine.specs.declared.calls.Ticket.{Ticket}
use Rattle.machine.specs.Laws.{IsAt}
use Rattle.desk.specs.Turns.{IsRefusedOn, IsUnserved}
use Rattle.sessions.proofs.Answered.{nothing_more}
use Rattle.sessions.specs.Told.{HaveReceipts, HasMore, IsDeclined, numbered_groups}

-- the group behind these has the number behind theirs
at_end : (version : ℕ) (done : List Group) (group : Group) → IsAt version (done ++ group ∷ []) (record { number = version + length done + 1; group = group })
at_end version done group =
    let place : (version + length done + 1) - version ≡ length done + 1 = omega arith in
    (omega arith, ap (nth (done ++ group ∷ [])) place ∙ nth-added done group)

-- Of a beginning of the history in which so many groups are acknowledged each has its number, and is acknowledged.
all_numbered : (front : Beginning) (done groups : List Group) (version : ℕ) → version ≡ front.origin.version + length done → IsPrefix (done ++ groups) front.groups → version + length groups ≤ front.acknowledged
    → All (IsAcknowledgedIn front) (numbered_groups version groups)
all_numbered front done [] version is begins told = All-nil (IsAcknowledgedIn front)
all_numbered front done (group ∷ groups) version is begins told =
    let seam : (done ++ group ∷ []) ++ groups ≡ done ++ group ∷ groups = append_assoc done (group ∷ []) groups in
    let longer : IsPrefix ((done ++ group ∷ []) ++ groups) front.groups = (begins.0, ap (λ (l : List Group). l ++ begins.0) seam ∙ begins.1) in
    let first : IsPrefix (done ++ group ∷ []) front.groups = prefix_trans (done ++ group ∷ []) ((done ++ group ∷ []) ++ groups) front.groups (groups, refl) longer in
    let ticket : Ticket = record { number = version + 1; group = group } in
    let same : front.origin.version + length done + 1 ≡ version + 1 = omega (arith, is) in
    let there : IsAt front.origin.version (done ++ group ∷ []) ticket =
    subst (λ (n : ℕ). IsAt front.origin.version (done ++ group ∷ []) (record { number = n; group = group })) same (at_end front.origin.version done group) in
    let next : version + 1 ≡ front.origin.version + length (done ++ group ∷ []) = omega (arith, is, length-append done (group ∷ [])) in
    All-cons (IsAcknowledgedIn front) ticket (numbered_groups (version + 1) groups) (record { at = at_more front.origin.version (done ++ group ∷ []) front.groups ticket first there; acknowledged = omega (arith, told) })
    (all_numbered front (done ++ group ∷ []) groups (version + 1) next longer (omega (arith, told)))

-- the groups that begin it
all_of : (origin : Origin) (front : Beginning) (groups : List Group) → front.origin ≡ origin → IsPrefix groups front.groups → origin.version + length groups ≤ front.acknowledged
    → All (IsAcknowledgedIn front) (numbered_groups origin.version groups)
all_of origin front groups of begins told = all_numbered front [] groups origin.version (let same = ap (λ (o : Origin). o.version) of in omega (arith, same)) begins told

-- a beginning that goes on from one that had some, and has these groups
pub joined_basis : (origin : Origin) (had : Option Beginning) (first own longer : Beginning) (groups : List Group) → had ≡ Some first → first.origin ≡ origin → longer.origin ≡ first.origin
    → IsPrefix first.groups longer.groups → IsPrefix own.groups longer.groups → (first.acknowledged ≤ longer.acknowledged) × (own.acknowledged ≤ longer.acknowledged)
    → IsPrefix groups own.groups → origin.version + length groups ≤ own.acknowledged → HasMore origin had (Some longer) (numbered_groups origin.version groups)
joined_basis origin had first own longer groups some first_of longer_of begins own_begins told in_own settled tickets held =
    let before : All (IsAcknowledgedIn first) tickets = (subst (λ (f : Option Beginning). HaveReceipts origin f tickets) some held).1 in
    let of : longer.origin ≡ origin = longer_of ∙ first_of in (
      of,
      All-append (IsAcknowledgedIn longer) tickets (numbered_groups origin.version groups)
          (λ k d lt. acknowledged_more first longer (get_or tickets k d) longer_of begins told.0 (before k d lt))
          (all_of origin longer groups of (prefix_trans groups own.groups longer.groups in_own own_begins) (let more = told.1 in omega (arith, settled, more))),
    )

-- the first of them
pub first_basis : (origin : Origin) (had : Option Beginning) (own front : Beginning) (groups : List Group) → had ≡ None → own.origin ≡ origin → front ≡ own
    → IsPrefix groups own.groups → origin.version + length groups ≤ own.acknowledged → HasMore origin had (Some front) (numbered_groups origin.version groups)
first_basis origin had own front groups none own_of same in_own settled tickets held =
    let empty : tickets ≡ [] = subst (λ (f : Option Beginning). HaveReceipts origin f tickets) none held in
    rw (same, empty) (own_of, all_of origin own groups own_of in_own settled)

-- where the desk takes no group any more
pub declined_closed : (origin : Origin) (had has : Option Beginning) (group : Group) (refusal : Refusal) → has ≡ had → IsRefusedOn origin group refusal None → IsDeclined origin had has group refusal
declined_closed origin had has group refusal same is = record { durable = []; turned_down = inr (inr is, refl); kept = nothing_more origin had has same }

-- where what it rests on is not settled
pub declined_unsettled : (origin : Origin) (had has : Option Beginning) (group : Group) (first refusal : Refusal) (basis : Beginning) → has ≡ had → IsRefusedOn origin group first (Some basis)
    → IsUnserved origin (origin.version + length basis.groups) refusal → IsDeclined origin had has group refusal
declined_unsettled origin had has group first refusal basis same refused unserved = record {
  durable = [];
  turned_down = inr (inl (record { groups = basis.groups; first = first; refused = refused.1; unserved = unserved }), refl);
  kept = nothing_more origin had has same;
}

-- where what it rests on is settled
pub declined_settled : (origin : Origin) (had has : Option Beginning) (group : Group) (refusal : Refusal) (basis front : Beginning) → front.origin ≡ origin → IsRefusedOn origin group refusal (Some basis)
    → HasMore front.origin had has (numbered_groups front.origin.version basis.groups) → IsDeclined origin had has group refusal
declined_settled origin had has group refusal basis front of refused more = record {
  durable = numbered_groups origin.version basis.groups;
  turned_down = inl (record { groups = basis.groups; refused = refused.1; all = refl });
  kept = subst (λ (o : Origin). HasMore o had has (numbered_groups o.version basis.groups)) of more;
}
