-- The machine of a ledger, and the outline of its accepted network, where the list is known by an equation alone.
use Rattle.std.specs.Prelude.{option_map, option_and_then}
use Rattle.std.proofs.Common.{◌≡◌, ◌∙◌, ◌+◌, ◌-◌, ◌≤◌, ℕ, Bool, true, false, cond, leb, ltb, List, [], ◌∷◌, ◌++◌, length, take, drop, Option, None, Some, refl, ap, sym, subst, arith}
use Rattle.std.proofs.lemmas.List.{drop-append-le, take-append-drop}
use Rattle.roadnet.specs.declared.groups.Group.{Group}
use Rattle.roadnet.specs.declared.refusals.Refusal.{Refusal}
use Rattle.roadnet.specs.declared.refusals.Refusal.TheVariants.{Broken, VersionsExhausted, QueueFull, HistoryFull}
use Rattle.roadnet.specs.Batches.{changed_by, changed_by_all}
use Rattle.roadnet.specs.Groups.{IsGroup, count_of}
use Rattle.roadnet.specs.Net.{Net, IsNetwork}
use Rattle.roadnet.specs.Outlines.{Outlined, outline_of, IsOutline, EachAdmitsGroup, EachStepsByGroup}
use Rattle.roadnet.specs.Step.{after, first_refusal, step_group}
use Rattle.roadnet.proofs.Kept.{after_is_network}
use Rattle.roadnet.proofs.Stepped.{after_both}
use Rattle.roadnet.proofs.InTurn.{after_is_changed}
use Rattle.roadnet.proofs.Outlined.{same_first_refusal}
use Rattle.machine.specs.Machine.{Machine, IsState, latest, pending, of_life, accepted_network, most_versions, most_pending, most_of_life}
use Rattle.machine.specs.Calls.{refusal_of_submit}
use Rattle.machine.specs.Keeping.{IsKept}
use Rattle.machine.proofs.Counted.{count_of-more}
use Rattle.machine.proofs.Keeping.{kept_submit}
use Rattle.keeper.specs.Keeping.{latest_network}

-- what is left once a test has failed
passed : (b : Bool) (x : Refusal) (rest : Option Refusal) → cond b (Some x) rest ≡ None → rest ≡ None
passed true x rest e = cc
passed false x rest e = e

one_more : (net : Net) (gs : List Group) (g : Group) → changed_by_all net (gs ++ g ∷ []) ≡ changed_by (changed_by_all net gs) g
one_more net [] g = refl
one_more net (d ∷ gs) g = one_more (changed_by net d) gs g

module _ (m : Machine) (durable shown : Net) (task : Option (ℕ × Net)) (items : List Group) (outline new : Outlined) (k : IsKept m (latest_network m) durable shown task) (listed : outline ≡ outline_of (latest_network m)) where
  pub kept_as : items ≡ m.accepted → IsKept (record m { accepted = items }) (latest_network (record m { accepted = items })) durable shown task
  kept_as same = subst (λ (xs : List Group). IsKept (record m { accepted = xs }) (changed_by_all m.base xs) durable shown task) (sym same) k

  pub listed_as : items ≡ m.accepted → new ≡ outline → new ≡ outline_of (latest_network (record m { accepted = items }))
  listed_as same there = there ∙ (listed ∙ ap (λ (xs : List Group). outline_of (changed_by_all m.base xs)) (sym same))

  -- how many commands there are then
  pub life_as : (n : ℕ) → n ≡ of_life m → items ≡ m.accepted → n ≡ of_life (record m { accepted = items })
  life_as n is same = is ∙ ap (λ (xs : List Group). count_of (drop (m.opened - m.base_version) xs)) (sym same)

  pub pending_as : (n : ℕ) → n ≡ pending m → items ≡ m.accepted → n ≡ pending (record m { accepted = items })
  pending_as n is same = is ∙ ap (λ (xs : List Group). count_of (drop (m.durable - m.base_version) xs)) (sym same)

  behind_more : (n : ℕ) (g : Group) → n ≤ length m.accepted → items ≡ m.accepted ++ g ∷ [] → count_of (drop n items) ≡ count_of (drop n m.accepted) + length g
  behind_more n g le is =
      ap (λ (xs : List Group). count_of (drop n xs)) is ∙ (ap count_of (drop-append-le n m.accepted (g ∷ []) le) ∙ count_of-more (drop n m.accepted) g)

  pub life_with : (n count : ℕ) (g : Group) → n ≡ of_life m → count ≡ length g → items ≡ m.accepted ++ g ∷ [] → n + count ≡ of_life (record m { accepted = items })
  life_with n count g is sized added =
      let s : IsState m = k.state in
      omega (arith, is, sized, behind_more (m.opened - m.base_version) g (omega (arith, s.base_opened, s.opened_shown, s.shown_durable, s.durable_accepted)) added)

  pub pending_with : (n count : ℕ) (g : Group) → n ≡ pending m → count ≡ length g → items ≡ m.accepted ++ g ∷ [] → n + count ≡ pending (record m { accepted = items })
  pending_with n count g is sized added =
      let s : IsState m = k.state in
      omega (arith, is, sized, behind_more (m.durable - m.base_version) g (omega (arith, s.base_opened, s.opened_shown, s.shown_durable, s.durable_accepted)) added)

  module _ (g : Group) (none : refusal_of_submit m g ≡ None) where
    admitted : first_refusal (latest_network m) g ≡ None
    admitted =
        let last : option_and_then (λ net. first_refusal net g) (accepted_network m) ≡ None =
        passed (ltb most_pending (pending m + length g)) QueueFull (option_and_then (λ net. first_refusal net g) (accepted_network m))
        (passed (leb most_versions (latest m)) VersionsExhausted _ (passed (ltb most_of_life (of_life m + length g)) HistoryFull _ (passed m.broken Broken _ none))) in
        subst (λ (o : Option Net). option_and_then (λ net. first_refusal net g) o ≡ None) k.accepted_is last

    pub admits : EachAdmitsGroup outline g
    admits net is = same_first_refusal net (latest_network m) g (is ∙ listed) ∙ admitted

    made : step_group (latest_network m) g ≡ Some (changed_by (latest_network m) g)
    made = after_is_changed (latest_network m) g admitted

    one_listed : items ≡ m.accepted ++ g ∷ [] → changed_by_all m.base items ≡ changed_by (latest_network m) g
    one_listed is = ap (changed_by_all m.base) is ∙ one_more m.base m.accepted g

    pub kept_with : IsGroup g → items ≡ m.accepted ++ g ∷ [] → IsKept (record m { accepted = items }) (latest_network (record m { accepted = items })) durable shown task
    kept_with sized is =
        subst (λ (net : Net). IsKept (record m { accepted = items }) net durable shown task) (sym (one_listed is))
        (kept_submit m (latest_network m) durable shown (changed_by (latest_network m) g) task g k sized none made items is)

    pub listed_with : items ≡ m.accepted ++ g ∷ [] → EachStepsByGroup outline g new → new ≡ outline_of (latest_network (record m { accepted = items }))
    listed_with is steps =
        let stepped : Some (outline_of (changed_by (latest_network m) g)) ≡ Some new = ap (option_map outline_of) (sym made) ∙ steps (latest_network m) (sym listed) in
        let same : outline_of (changed_by (latest_network m) g) ≡ new = cc in
        sym same ∙ ap outline_of (sym (one_listed is))

-- the outline of the accepted network is one of a network, since the durable one is
pub outlined : (m : Machine) (durable shown : Net) (task : Option (ℕ × Net)) (outline : Outlined) → IsKept m (latest_network m) durable shown task → outline ≡ outline_of (latest_network m) → IsNetwork durable → IsOutline outline
outlined m durable shown task outline k listed is =
    let n = m.durable - m.base_version in
    let made : after durable (drop n m.accepted) ≡ Some (latest_network m) =
    sym (ap (option_and_then (λ net. after net (drop n m.accepted))) k.durable_is)
    ∙ (sym (after_both m.base (take n m.accepted) (drop n m.accepted)) ∙ (ap (after m.base) (take-append-drop n m.accepted) ∙ k.accepted_is)) in
    (latest_network m, after_is_network durable (latest_network m) (drop n m.accepted) is made, sym listed)
