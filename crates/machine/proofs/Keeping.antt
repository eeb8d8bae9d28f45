-- The networks that a keeper has at hand stay tied to its machine: one lemma a change of the state.
use Rattle.std.proofs.Common.{◌≡◌, ℕ, suc, zero, ◌+◌, ◌-◌, ◌<◌, ◌≤◌, Bool, true, false, true≢false, cond, leb, ltb, List, [], ◌∷◌, ◌++◌, length, take, drop, Option, Some, None, Ok, refl, sym, ◌∙◌, ap, subst, arith, length-take, length-drop}
use Rattle.std.specs.Prelude.{IfSome, MatchOption, option_map, is_some, option_and_then, nat_lt}
use Rattle.std.proofs.Math.Seq.{take-add}
use Rattle.std.proofs.lemmas.Bool.{leb-true, le-ltb}
use Rattle.std.proofs.lemmas.List.{take-append-le}
use Rattle.std.proofs.lemmas.List.Elements.{All-drop, All-take}
use Rattle.roadnet.specs.declared.groups.Group.{Group}
use Rattle.roadnet.specs.declared.refusals.Refusal.{Refusal}
use Rattle.roadnet.specs.Net.{Net}
use Rattle.roadnet.specs.Step.{first_refusal, after, step_group}
use Rattle.roadnet.specs.Batches.{first_refusal_of_all}
use Rattle.roadnet.specs.Groups.{IsGroup, commands_of, count_of}
use Rattle.roadnet.proofs.InTurn.{groups_are_their_commands, refused_as_their_commands}
use Rattle.roadnet.proofs.Stepped.{after_both, group_admitted}
use Rattle.rows.specs.declared.queries.Query.{Query}
use Rattle.rows.specs.declared.queries.Reply.{Reply}
use Rattle.rows.specs.Replies.{IsRight}
use Rattle.machine.specs.Machine.{Sizes, Checkpoint, Machine, IsState, start, latest, pending, of_life, groups_behind, batch, most_versions, most_pending, most_of_life, most_of_page, accepted_network, network_at}
use Rattle.machine.specs.Calls.{failed, refusal_of_submit, with_group, refusal_of_flush, with_batch, has_nothing_unchecked, checkpoint_of, with_pages_written, with_part, with_shown, Asks}
use Rattle.machine.specs.Keeping.{IsKept, next_batch}
use Rattle.machine.proofs.Counted.{as_many, batch_count, batch_some, fitting_count, fitting_fits}
use Rattle.machine.proofs.Kept.{admitted_front, started, submitted, flushed, broken, stepped, with_task, published}

-- ---- the tests of a call, from what its body found
test_false : (b : Bool) → (b ≡ true → ⊥) → b ≡ false
test_false true f = absurd (f refl)
test_false false f = refl

past : {X : Type 0} (b : Bool) (x : X) (rest : Option X) → b ≡ false → rest ≡ None → cond b (Some x) rest ≡ None
past true x rest h none = cc
past false x rest h none = none

at_least : (a b : ℕ) → a < b → leb b a ≡ false
at_least a b lt = test_false (leb b a) (λ h. omega (arith, leb-true b a h))

pub submit_clear : (m : Machine) (c : Group) (accepted : Net) → m.broken ≡ false → of_life m + length c ≤ most_of_life → latest m < most_versions → pending m + length c ≤ most_pending
    → accepted_network m ≡ Some accepted → first_refusal accepted c ≡ None → refusal_of_submit m c ≡ None
submit_clear m c accepted calm life versions queue is none =
    past m.broken _ _ calm
    (past (ltb most_of_life (of_life m + length c)) _ _ (le-ltb most_of_life (of_life m + length c) life)
    (past (leb most_versions (latest m)) _ _ (at_least (latest m) most_versions versions)
    (past (ltb most_pending (pending m + length c)) _ _ (le-ltb most_pending (pending m + length c) queue)
    (subst (λ (o : Option Net). option_and_then (λ net. first_refusal net c) o ≡ None) (sym is) none))))

pub flush_clear : (m : Machine) → m.broken ≡ false → m.durable < latest m → m.unchecked < m.sizes.journal_pages → refusal_of_flush m ≡ None
flush_clear m calm some room =
    past m.broken _ _ calm
    (past (leb (latest m) m.durable) _ _ (at_least m.durable (latest m) some)
    (past (leb m.sizes.journal_pages m.unchecked) _ _ (at_least m.unchecked m.sizes.journal_pages room) refl))

-- ---- an opening
abbrev no_groups : List Group
no_groups = []

take_none : (n : ℕ) → take n no_groups ≡ no_groups
take_none zero = refl
take_none (suc n) = refl

pub kept_start : (sizes : Sizes) (base : Net) (version unchecked : ℕ) → version ≤ most_versions → unchecked ≤ sizes.journal_pages → IsKept (start sizes base version unchecked) base base base None
kept_start sizes base version unchecked few fits =
    let at_base : network_at (start sizes base version unchecked) version ≡ Some base = ap (after base) (take_none (version - version)) in
    record {
      state = started sizes base version unchecked few fits;
      accepted_is = refl;
      durable_is = at_base;
      shown_is = at_base;
      task_is = refl;
      task_network = tt;
    }

-- ---- a state in which the groups and the durable and shown numbers stay
module _ (m : Machine) (accepted durable shown : Net) (task : Option (ℕ × Net)) (k : IsKept m accepted durable shown task) where
  pub kept_failed : (n : ℕ) → m.durable + n ≤ latest m → IsKept (failed m n) accepted durable shown task
  kept_failed n fits = record {
    state = broken m k.state n fits;
    accepted_is = k.accepted_is;
    durable_is = k.durable_is;
    shown_is = k.shown_is;
    task_is = k.task_is;
    task_network = k.task_network;
  }

  pub kept_part : (pages : ℕ) → IsKept (with_part m pages) accepted durable shown task
  kept_part pages = go (has_nothing_unchecked m) (nat_lt pages (checkpoint_of m).left) (stepped m k.state pages)
    where
      go : (a b : Bool) → IsState (cond a m (cond b (record m { checkpoint = Some (with_pages_written (checkpoint_of m) pages) }) (record m { checkpoint = None; unchecked = (checkpoint_of m).flushed })))
          → IsKept (cond a m (cond b (record m { checkpoint = Some (with_pages_written (checkpoint_of m) pages) }) (record m { checkpoint = None; unchecked = (checkpoint_of m).flushed }))) accepted durable shown task
      go true b s = k
      go false true s = record { state = s; accepted_is = k.accepted_is; durable_is = k.durable_is; shown_is = k.shown_is; task_is = k.task_is; task_network = k.task_network }
      go false false s = record { state = s; accepted_is = k.accepted_is; durable_is = k.durable_is; shown_is = k.shown_is; task_is = k.task_is; task_network = k.task_network }

  -- ---- tasks and views
  pub kept_task : IsKept (record m { task = Some m.durable }) accepted durable shown (Some (m.durable, durable))
  kept_task = let s : IsState m = k.state in record {
    state = with_task m s (Some m.durable) m.shown (omega arith) s.shown_durable (s.shown_durable, omega arith);
    accepted_is = k.accepted_is;
    durable_is = k.durable_is;
    shown_is = k.shown_is;
    task_is = refl;
    task_network = k.durable_is;
  }

  pub kept_given_up : IsKept (record m { task = None }) accepted durable shown None
  kept_given_up = let s : IsState m = k.state in record {
    state = with_task m s None m.shown (omega arith) s.shown_durable tt;
    accepted_is = k.accepted_is;
    durable_is = k.durable_is;
    shown_is = k.shown_is;
    task_is = refl;
    task_network = tt;
  }

  -- an answer from the view is one of the shown version
  pub kept_asked : (query : Query) (reply : Reply) → IsRight shown query reply → Asks m query (Ok (record { version = m.shown; reply = reply })) m
  kept_asked query reply right = (refl, (shown, k.shown_is, right), refl)

pub kept_published : (m : Machine) (accepted durable shown : Net) (version : ℕ) (network : Net) → IsKept m accepted durable shown (Some (version, network)) → IsKept (with_shown m version) accepted durable network None
kept_published m accepted durable shown version network k = record {
  state = published m k.state version k.task_is;
  accepted_is = k.accepted_is;
  durable_is = k.durable_is;
  shown_is = k.task_network;
  task_is = refl;
  task_network = tt;
}

-- ---- a group
one_more : (base net next : Net) (groups : List Group) (c : Group) → after base groups ≡ Some net → step_group net c ≡ Some next → after base (groups ++ c ∷ []) ≡ Some next
one_more base net next groups c is made = after_both base groups (c ∷ []) ∙ rw is (rw made refl)

module _ (m : Machine) (accepted durable shown next : Net) (task : Option (ℕ × Net)) (c : Group) where
  pub kept_group : IsKept m accepted durable shown task → IsGroup c → refusal_of_submit m c ≡ None → step_group accepted c ≡ Some next → IsKept (with_group m c) next durable shown task
  kept_group k sized none made =
      let s : IsState m = k.state in
      let same : (v : ℕ) → v ≤ m.durable → network_at (with_group m c) v ≡ network_at m v =
      λ v le. ap (after m.base) (take-append-le (v - m.base_version) m.accepted (c ∷ []) (omega arith)) in
      let between : IfSome (option_map (λ (t : ℕ × Net). t.0) task) (λ v. (m.shown ≤ v) × (v ≤ m.durable)) = subst (λ (o : Option ℕ). IfSome o (λ v. (m.shown ≤ v) × (v ≤ m.durable))) k.task_is s.task_between in
      record {
        state = submitted m s c sized none;
        accepted_is = one_more m.base accepted next m.accepted c k.accepted_is made;
        durable_is = same m.durable (omega arith) ∙ k.durable_is;
        shown_is = same m.shown s.shown_durable ∙ k.shown_is;
        task_is = k.task_is;
        task_network = tasks task same between k.task_network;
      }
    where
      tasks : (o : Option (ℕ × Net)) → ((v : ℕ) → v ≤ m.durable → network_at (with_group m c) v ≡ network_at m v) → IfSome (option_map (λ (t : ℕ × Net). t.0) o) (λ v. (m.shown ≤ v) × (v ≤ m.durable)) → IfSome o (λ t. network_at m t.0 ≡ Some t.1) → IfSome o (λ t. network_at (with_group m c) t.0 ≡ Some t.1)
      tasks None same b h = tt
      tasks (Some t) same b h = same t.0 b.1 ∙ h

  -- the list may be known by an equation alone
  pub kept_submit : IsKept m accepted durable shown task → IsGroup c → refusal_of_submit m c ≡ None → step_group accepted c ≡ Some next → (items : List Group) → items ≡ m.accepted ++ c ∷ [] → IsKept (record m { accepted = items }) next durable shown task
  kept_submit k sized none made items is = subst (λ (xs : List Group). IsKept (record m { accepted = xs }) next durable shown task) (sym is) (kept_group k sized none made)

-- ---- a flush
-- groups that lead to a network are admitted, each in its turn
first_refusal_none : (net : Net) (groups : List Group) → is_some (after net groups) ≡ true → first_refusal_of_all net groups ≡ None
first_refusal_none net groups h = by_refusal (first_refusal_of_all net groups) refl
  where
    told : (o : Option Refusal) → first_refusal net (commands_of groups) ≡ o → MatchOption o ((new : Net) × (step_group net (commands_of groups) ≡ Some new)) (λ refusal. step_group net (commands_of groups) ≡ None)
    told o is = subst (λ (r : Option Refusal). MatchOption r ((new : Net) × (step_group net (commands_of groups) ≡ Some new)) (λ refusal. step_group net (commands_of groups) ≡ None)) is (group_admitted net (commands_of groups))

    nowhere : step_group net (commands_of groups) ≡ None → false ≡ true
    nowhere none = sym (ap is_some (groups_are_their_commands net groups ∙ none)) ∙ h

    by_refusal : (o : Option Refusal) → first_refusal_of_all net groups ≡ o → first_refusal_of_all net groups ≡ None
    by_refusal None is = is
    by_refusal (Some refusal) is = absurd (true≢false (sym (nowhere (told (Some refusal) (sym (refused_as_their_commands net groups) ∙ is)))))

module _ (m : Machine) (accepted durable shown : Net) (task : Option (ℕ × Net)) (k : IsKept m accepted durable shown task) where
  -- the groups of a flush are as many as the machine says, all admitted, and their versions exist
  pub batch_size : length (next_batch m) ≡ batch m
  batch_size =
      let s : IsState m = k.state in
      let rest : length (drop (m.durable - m.base_version) m.accepted) ≡ length m.accepted - (m.durable - m.base_version) = length-drop (m.durable - m.base_version) m.accepted in
      length-take (batch m) (drop (m.durable - m.base_version) m.accepted) ∙ omega (arith, fitting_count most_of_page (groups_behind m m.durable))

  pub batch_network : after m.base (take (m.durable - m.base_version + batch m) m.accepted) ≡ after durable (next_batch m)
  batch_network =
      ap (after m.base) (take-add (m.durable - m.base_version) (batch m) m.accepted)
      ∙ (after_both m.base (take (m.durable - m.base_version) m.accepted) (next_batch m) ∙ rw (k.durable_is) refl)

  pub batch_admitted : first_refusal_of_all durable (next_batch m) ≡ None
  batch_admitted =
      let s : IsState m = k.state in
      first_refusal_none durable (next_batch m)
      (ap is_some (sym batch_network) ∙ admitted_front m.base (m.durable - m.base_version + batch m) m.accepted s.admitted)

  pub batch_versions : m.durable + batch m ≤ most_versions
  batch_versions = let s : IsState m = k.state in omega (arith, s.versions_to, batch_count m s)

  -- they are 1 to 253 commands
  pub batch_between : m.durable < latest m → (1 ≤ count_of (next_batch m)) × (count_of (next_batch m) ≤ most_of_page)
  batch_between some =
      let s : IsState m = k.state in (
        omega (arith, batch_size, batch_some m s (omega arith), as_many (next_batch m) (All-take IsGroup (batch m) (groups_behind m m.durable) (All-drop IsGroup (m.durable - m.base_version) m.accepted s.groups))),
        fitting_fits most_of_page (groups_behind m m.durable),
      )

  pub kept_flush : refusal_of_flush m ≡ None → (next : Net) → after durable (next_batch m) ≡ Some next → IsKept (with_batch m) accepted next shown task
  kept_flush none next made =
      let s : IsState m = k.state in
      let place : m.durable + batch m - m.base_version ≡ m.durable - m.base_version + batch m = omega arith in
      record {
        state = flushed m s none;
        accepted_is = k.accepted_is;
        durable_is = ap (λ (n : ℕ). after m.base (take n m.accepted)) place ∙ (batch_network ∙ made);
        shown_is = k.shown_is;
        task_is = k.task_is;
        task_network = k.task_network;
      }

-- the slice that a body takes is that batch
pub slice_is : (items acc : List Group) (v o n a k : ℕ) → items ≡ acc → v ≡ a → n ≡ k → take (v - o + n - (v - o)) (drop (v - o) items) ≡ take k (drop (a - o) acc)
slice_is items acc v o n a k same from count =
    let whole : v - o + n - (v - o) ≡ k = omega arith in
    ap (λ (j : ℕ). take j (drop (v - o) items)) whole ∙ (ap (λ (j : ℕ). take k (drop (j - o) items)) from ∙ ap (λ (xs : List Group). take k (drop (a - o) xs)) same)

-- ---- states that agree in all that a store tells
pub alike : (m : Machine) (s1 s2 : Sizes) (a1 a2 u1 u2 f1 f2 : ℕ) (b1 b2 : Bool) (c1 c2 : Option Checkpoint) → s1 ≡ s2 → a1 ≡ a2 → u1 ≡ u2 → f1 ≡ f2 → b1 ≡ b2 → c1 ≡ c2
    → record m { sizes = s1; durable = a1; unchecked = u1; in_flight = f1; broken = b1; checkpoint = c1 } ≡ record m { sizes = s2; durable = a2; unchecked = u2; in_flight = f2; broken = b2; checkpoint = c2 }
alike m s1 s2 a1 a2 u1 u2 f1 f2 b1 b2 c1 c2 s a u f b c = cc
