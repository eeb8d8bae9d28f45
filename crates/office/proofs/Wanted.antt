-- What the front of a history tells of a version and its network.
use Rattle.std.proofs.Common.{◌≡◌, ℕ, ◌-◌, ◌<◌, ◌≤◌, Bool, true, false, List, length, take, Option, Some, sym, ap, ◌∙◌, subst, arith}
use Rattle.std.specs.Prelude.{IfSome, MatchBool}
use Rattle.std.proofs.lemmas.List.{length-take-le, take_all, take_at}
use mathlib.Core.List.{IsPrefix}
use Rattle.roadnet.specs.declared.groups.Group.{Group}
use Rattle.roadnet.specs.Net.{Net}
use Rattle.roadnet.specs.Step.{after}
use Rattle.history.specs.Origins.{Origin, Beginning}
use Rattle.machine.specs.Machine.{Machine, IsState, groups_to, network_at}
use Rattle.machine.specs.Calls.{IsTask}
use Rattle.published.specs.Showing.{Showing}
use Rattle.office.specs.Offices.{IsOffice}
use Rattle.office.specs.Works.{IsWanted}

module _ (origin : Origin) (m : Machine) (w : ℕ) (h : Beginning) (p : Showing) (o : IsOffice origin m w h p) (s : IsState m) where
  same_base : h.origin.base ≡ m.base
  same_base = ap (λ (x : Origin). x.base) o.history_origin ∙ sym o.base

  same_version : h.origin.version ≡ m.base_version
  same_version = ap (λ (x : Origin). x.version) o.history_origin ∙ sym o.base_version

  -- the history has the groups up to the durable version
  pub durable_written : (v : ℕ) → v ≡ m.durable → v - m.base_version ≤ length h.groups
  durable_written v is =
      let long : length h.groups ≡ length m.accepted = ap length o.history_groups in
      let few = s.durable_accepted in
      omega (arith, long, few, is)

  -- the front of the history up to the durable version tells the network at it
  pub front_wanted : (v : ℕ) (net : Net) (front : Beginning) → v ≡ m.durable → network_at m m.durable ≡ Some net → front ≡ record h { groups = take (v - m.base_version) h.groups } → IsWanted front v net
  front_wanted v net front is there front_is =
      let from : m.base_version ≤ m.durable = (let a = s.base_opened in let b = s.opened_shown in let d = s.shown_durable in omega arith) in
      let long : length (take (v - m.base_version) h.groups) ≡ v - m.base_version = length-take-le (v - m.base_version) h.groups (durable_written v is) in
      let base = same_base in
      let version = same_version in
      subst (λ (b : Beginning). IsWanted b v net) (sym front_is) (record {
        version_is = omega (arith, long, version, is, from);
        network_is =
            ap (λ (b : Net). after b (take (v - m.base_version) h.groups)) base
            ∙ (ap (λ (gs : List Group). after m.base (take (v - m.base_version) gs)) o.history_groups ∙ (ap (network_at m) is ∙ there));
      })

  -- what stands after a front of the history is the task, where its version is the task's
  module _ (ends : Beginning) (v : ℕ) (net : Net) (out : m.task ≡ Some v) (of_desk : ends.origin ≡ origin) (k : IsWanted ends v net) where
    to_durable : v ≤ m.durable
    to_durable = (subst (λ (t : Option ℕ). IfSome t (λ x. (m.shown ≤ x) × (x ≤ m.durable))) out s.task_between).1

    ends_long : length ends.groups ≡ v - m.base_version
    ends_long =
        let number = k.version_is in
        let version : ends.origin.version ≡ m.base_version = ap (λ (x : Origin). x.version) of_desk ∙ sym o.base_version in
        omega (arith, number, version)

    ends_written : length ends.groups ≤ length h.groups
    ends_written =
        let long : length h.groups ≡ length m.accepted = ap length o.history_groups in
        let few = s.durable_accepted in
        omega (arith, ends_long, to_durable, long, few)

    ends_are : IsPrefix ends.groups h.groups → groups_to m v ≡ ends.groups
    ends_are begins =
        ap (take (v - m.base_version)) (sym (begins.1 ∙ o.history_groups)) ∙ take_at ends.groups begins.0 (v - m.base_version) ends_long

    pub built_is : (known : Bool) → MatchBool known (IsPrefix ends.groups h.groups) (length h.groups < length ends.groups) → IsTask m v net
    built_is true begins =
        let base : ends.origin.base ≡ m.base = ap (λ (x : Origin). x.base) of_desk ∙ sym o.base in
        (out, ap (after m.base) (ends_are begins) ∙ (ap (λ (b : Net). after b ends.groups) (sym base) ∙ k.network_is))
    built_is false over = absurd (omega (arith, over, ends_written))

-- where all groups were carried out, the network is that after them
pub all_carried : (net some next : Net) (groups : List Group) (count : ℕ) → count ≤ length groups → length groups ≤ count → after net (take count groups) ≡ Some some → after net groups ≡ Some next → some ≡ next
all_carried net some next groups count few many done all =
    let whole : Some some ≡ Some next = sym done ∙ (ap (after net) (take_all count groups many) ∙ all) in
    cc whole
