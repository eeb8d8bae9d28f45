-- What the parts of an office agree on, from one call to the next.
use Rattle.std.proofs.Common.{◌≡◌, ℕ, ◌+◌, ◌-◌, ◌<◌, ◌≤◌, Bool, true, false, cond, leb, Result, Ok, Err, List, [], ◌∷◌, ◌++◌, length, take, Option, Some, sym, ap, ◌∙◌, subst, arith}
use Rattle.std.proofs.lemmas.Bool.Decides.{nat_tests}
use Rattle.std.specs.Prelude.{IfSome}
use Rattle.std.proofs.Math.Seq.{take-nil}
use Rattle.std.proofs.lemmas.List.{take-append-le}
use mathlib.Core.List.{IsPrefix}
use Rattle.roadnet.specs.declared.groups.Group.{Group}
use Rattle.roadnet.specs.declared.refusals.Refusal.{Refusal}
use Rattle.roadnet.specs.declared.refusals.Refusal.TheVariants.{Broken, NotYet}
use Rattle.roadnet.specs.Net.{Net}
use Rattle.roadnet.specs.Step.{after}
use Rattle.rows.specs.Views.{Viewed}
use Rattle.history.specs.Origins.{Origin, Beginning}
use Rattle.machine.specs.declared.calls.Ticket.{Ticket}
use Rattle.machine.specs.declared.calls.Receipt.{Receipt}
use Rattle.machine.specs.Machine.{Machine, IsState, groups_to, latest, network_at}
use Rattle.machine.specs.Calls.{Submits, with_group, IsTask, receipt_for}
use Rattle.published.specs.Showing.{Showing}
use Rattle.office.specs.Offices.{IsOffice, refused_for}
use Rattle.office.proofs.Kept.{take_longer}

told_so : (ticket : Ticket) (broken : Bool) (why : Refusal) → why ≡ cond broken Broken NotYet → ◌≡◌ {A = Result Receipt (Refusal × Ticket)} (cond broken (Err (Broken, ticket)) (Err (NotYet, ticket))) (refused_for ticket why)
told_so ticket true why is = ap (refused_for ticket) (sym is)
told_so ticket false why is = ap (refused_for ticket) (sym is)

-- a number that is not durable has no receipt
pub not_durable : (m : Machine) (ticket : Ticket) (why : Refusal) → why ≡ cond m.broken Broken NotYet → m.durable < ticket.number → receipt_for m ticket ≡ refused_for ticket why
not_durable m ticket why is past =
    let over : leb ticket.number m.durable ≡ false = grind (arith, nat_tests) in
    rw over (told_so ticket m.broken why is)

module _ (origin : Origin) (m : Machine) (w : ℕ) (h : Beginning) (p : Showing) (o : IsOffice origin m w h p) where
  -- by equations alone
  pub office_same : (new : Machine) (v : ℕ) (log : Beginning) → new ≡ m → v ≡ w → log ≡ h → IsOffice origin new v log p
  office_same new v log same width is =
      subst (λ (n : Machine). IsOffice origin n v log p) (sym same)
      (subst (λ (x : ℕ). IsOffice origin m x log p) (sym width)
      (subst (λ (b : Beginning). IsOffice origin m w b p) (sym is) o))

  module _ (s : IsState m) where
    shown_kept : (c : Group) → groups_to (with_group m c) m.shown ≡ groups_to m m.shown
    shown_kept c = take-append-le (m.shown - m.base_version) m.accepted (c ∷ []) (let a = s.shown_durable in let b = s.durable_accepted in omega arith)

    office_more : (c : Group) → IsOffice origin (with_group m c) w (record h { groups = h.groups ++ c ∷ [] }) p
    office_more c = record {
      base = o.base;
      base_version = o.base_version;
      history_origin = o.history_origin;
      history_groups = ap (λ l. l ++ c ∷ []) o.history_groups;
      acknowledged = o.acknowledged;
      shown_origin = o.shown_origin;
      shown_groups = o.shown_groups ∙ sym (shown_kept c);
      view_version = o.view_version;
      view_network = ap (after m.base) (shown_kept c) ∙ o.view_network;
      view_width = o.view_width;
    }

    -- a group more is accepted
    pub office_submitted : (c : Group) (t : Ticket) (new : Machine) (v : ℕ) (log : Beginning) → Submits m c (Ok t) new → v ≡ w → log ≡ record h { groups = h.groups ++ c ∷ [] } → IsOffice origin new v log p
    office_submitted c t new v log step width is =
        subst (λ (n : Machine). IsOffice origin n v log p) (sym step.2)
        (subst (λ (x : ℕ). IsOffice origin (with_group m c) x log p) (sym width)
        (subst (λ (b : Beginning). IsOffice origin (with_group m c) w b p) (sym is) (office_more c)))

    -- a number behind all accepted groups has no receipt
    pub not_receivable : (ticket : Ticket) (why : Refusal) → why ≡ cond m.broken Broken NotYet → origin.version + length h.groups < ticket.number → receipt_for m ticket ≡ refused_for ticket why
    not_receivable ticket why is behind =
        let same : length h.groups ≡ length m.accepted = ap length o.history_groups in
        let version : m.base_version ≡ origin.version = o.base_version in
        let last : m.durable ≤ latest m = (let a = s.durable_accepted in omega arith) in
        let past : m.durable < ticket.number = omega (arith, same, version, last, behind) in
        not_durable m ticket why is past

    -- the view of the task that is out
    module _ (v : ℕ) (network : Net) (task : IsTask m v network) where
      between : (m.shown ≤ v) × (v ≤ m.durable)
      between = subst (λ (t : Option ℕ). IfSome t (λ x. (m.shown ≤ x) × (x ≤ m.durable))) task.0 s.task_between

      -- they begin with those that are shown
      pub task_begins : IsPrefix p.shown.groups (take (v - m.base_version) h.groups)
      task_begins =
          subst (λ (l : List Group). IsPrefix l (take (v - m.base_version) h.groups)) (sym o.shown_groups)
          (subst (λ (l : List Group). IsPrefix (take (m.shown - m.base_version) m.accepted) (take (v - m.base_version) l)) (sym o.history_groups)
          (take_longer (m.shown - m.base_version) (v - m.base_version) m.accepted (let a = between.0 in omega (arith, a))))

-- at the beginning
pub office_begins : (origin : Origin) (m : Machine) (w : ℕ) (h : Beginning) (p : Showing) (view : Viewed) → m.base ≡ origin.base → m.base_version ≡ origin.version → m.accepted ≡ [] → h.origin ≡ origin
    → h.groups ≡ [] → h.acknowledged ≡ 0 → p ≡ record { shown = record h { groups = [] }; view = view } → view.version ≡ m.shown → network_at m m.shown ≡ Some view.network → view.delta ≡ w → IsOffice origin m w h p
office_begins origin m w h p view base version none desk empty zero_yet is number network width = record {
  base = base;
  base_version = version;
  history_origin = desk;
  history_groups = empty ∙ sym none;
  acknowledged = omega (arith, zero_yet);
  shown_origin = ap (λ (x : Showing). x.shown.origin) is ∙ desk;
  shown_groups = ap (λ (x : Showing). x.shown.groups) is ∙ sym (ap (take (m.shown - m.base_version)) none ∙ take-nil (m.shown - m.base_version));
  view_version = ap (λ (x : Showing). x.view.version) is ∙ number;
  view_network = network ∙ ap (λ (x : Showing). Some x.view.network) (sym is);
  view_width = ap (λ (x : Showing). x.view.delta) is ∙ width;
}
