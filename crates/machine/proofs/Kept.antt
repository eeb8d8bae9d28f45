-- Each step keeps what holds of each state, and takes nothing back that is durable.
use Rattle.std.proofs.Common.{◌≡◌, ⊎_elim, ℕ, ◌+◌, ◌-◌, ◌<◌, ◌≤◌, Bool, true, false, cond, List, [], ◌∷◌, ◌++◌, length, take, drop, Option, Some, None, Ok, Err, refl, sym, ◌∙◌, ap, subst, arith, leb, ltb, length-append, length-take}
use Rattle.std.specs.Prelude.{IfSome, is_some, option_map, option_and_then, unwrap_or, nat_lt}
use Rattle.std.proofs.lemmas.Bool.{leb-false, ltb-false}
use Rattle.std.proofs.lemmas.List.Elements.{All-append, All-cons, All-nil, All-take}
use Rattle.std.proofs.lemmas.List.{drop-append-le, take-append-drop}
use Rattle.roadnet.specs.declared.groups.Group.{Group}
use Rattle.roadnet.specs.Net.{Net}
use Rattle.roadnet.specs.Step.{first_refusal, after}
use Rattle.roadnet.specs.Batches.{changed_by}
use Rattle.roadnet.specs.Groups.{IsGroup, count_of}
use Rattle.roadnet.proofs.InTurn.{after_is_changed}
use Rattle.roadnet.proofs.Stepped.{after_both}
use Rattle.machine.specs.Machine.{Checkpoint, Machine, IsState, most_versions, most_pending, most_of_life, latest, pending, of_life, groups_behind, batch, accepted_network}
use Rattle.machine.specs.Calls.{failed, refusal_of_submit, with_group, refusal_of_flush, with_page_flushed, with_batch, has_nothing_unchecked, checkpoint_of, with_pages_written, with_part, is_out, without_task, IsLeft, reopened}
use Rattle.machine.specs.Runs.Happened.{Submitted, Flushed, Checkpointed, TookTask, GaveUp, Published, Asked, Received, Stopped}
use Rattle.machine.proofs.Counted.{batch_count, count_further, count_of-more, no_groups, none_behind}
use Rattle.machine.specs.Laws.{StepsKeepStates, StartsAreStates, VersionsAreNetworks}

-- each test before passed
passed : {X : Type 0} (b : Bool) (x : X) (rest : Option X) → cond b (Some x) rest ≡ None → (b ≡ false) × (rest ≡ None)
passed true x rest h = cc
passed false x rest h = (refl, h)

some_value : {X : Type 0} (o : Option X) → is_some o ≡ true → (x : X) × (o ≡ Some x)
some_value None h = cc
some_value (Some x) h = (x, refl)

if_some : {X : Type 0} (o : Option X) (P Q : X → Type 0) → ((x : X) → P x → Q x) → IfSome o P → IfSome o Q
if_some None P Q f h = h
if_some (Some x) P Q f h = f x h

if_some_mapped : {X : Type 0} (g : X → X) (o : Option X) (P Q : X → Type 0) → ((x : X) → P x → Q (g x)) → IfSome o P → IfSome (option_map g o) Q
if_some_mapped g None P Q f h = h
if_some_mapped g (Some x) P Q f h = f x h

if_some_or : {X : Type 0} (o : Option X) (d : X) (P : X → Type 0) → P d → IfSome o P → P (unwrap_or o d)
if_some_or None d P p h = p
if_some_or (Some x) d P p h = h

admitted_more : (base net : Net) (groups : List Group) (c : Group) → after base groups ≡ Some net → first_refusal net c ≡ None → is_some (after base (groups ++ c ∷ [])) ≡ true
admitted_more base net groups c is code =
    let there : after base (groups ++ c ∷ []) ≡ Some (changed_by net c) = after_both base groups (c ∷ []) ∙ rw is (rw (after_is_changed net c code) refl) in
    ap is_some there

front_of_both : (o : Option Net) (f : Net → Option Net) → is_some (option_and_then f o) ≡ true → is_some o ≡ true
front_of_both None f h = h
front_of_both (Some x) f h = refl

-- a beginning of admitted groups is admitted
pub admitted_front : (base : Net) (n : ℕ) (groups : List Group) → is_some (after base groups) ≡ true → is_some (after base (take n groups)) ≡ true
admitted_front base n groups h =
    front_of_both (after base (take n groups)) (λ next. after next (drop n groups))
    (sym (ap is_some (after_both base (take n groups) (drop n groups))) ∙ (ap (λ (cs : List Group). is_some (after base cs)) (take-append-drop n groups) ∙ h))

nothing_to : (n most : ℕ) → count_of (drop n no_groups) ≤ most
nothing_to n most = omega (arith, none_behind n no_groups (omega arith))

pub started : StartsAreStates
started sizes base version unchecked few fits = record {
  base_opened = omega arith;
  opened_shown = omega arith;
  shown_durable = omega arith;
  durable_accepted = omega arith;
  calm = λ h. refl;
  admitted = refl;
  groups = All-nil IsGroup;
  unchecked_to = fits;
  task_between = tt;
  checkpoint_durable = tt;
  versions_to = omega arith;
  pending_to = nothing_to (version - version) most_pending;
  life_to = nothing_to (version - version) most_of_life;
}

module _ (m : Machine) (s : IsState m) where
  -- a group more is behind each version
  more_behind : (v : ℕ) → v - m.base_version ≤ length m.accepted → (c : Group) → count_of (groups_behind (with_group m c) v) ≡ count_of (groups_behind m v) + length c
  more_behind v le c = ap count_of (drop-append-le (v - m.base_version) m.accepted (c ∷ []) le) ∙ count_of-more (drop (v - m.base_version) m.accepted) c

  pub submitted : (c : Group) → IsGroup c → refusal_of_submit m c ≡ None → IsState (with_group m c)
  submitted c sized none =
      let p1 = passed m.broken _ _ none in
      let p2 = passed (ltb most_of_life (of_life m + length c)) _ _ p1.1 in
      let p3 = passed (leb most_versions (latest m)) _ _ p2.1 in
      let p4 = passed (ltb most_pending (pending m + length c)) _ _ p3.1 in
      let net = some_value (accepted_network m) s.admitted in
      let code : first_refusal net.0 c ≡ None = subst (λ (o : Option Net). option_and_then (λ n. first_refusal n c) o ≡ None) net.1 p4.1 in
      let life : of_life m + length c ≤ most_of_life = ltb-false most_of_life (of_life m + length c) p2.0 in
      let versions : latest m < most_versions = leb-false most_versions (latest m) p3.0 in
      let queue : pending m + length c ≤ most_pending = ltb-false most_pending (pending m + length c) p4.0 in
      let more : length (m.accepted ++ c ∷ []) ≡ length m.accepted + 1 = length-append m.accepted (c ∷ []) in
      record {
        base_opened = s.base_opened;
        opened_shown = s.opened_shown;
        shown_durable = s.shown_durable;
        durable_accepted = omega arith;
        calm = s.calm;
        admitted = admitted_more m.base net.0 m.accepted c net.1 code;
        groups = All-append IsGroup m.accepted (c ∷ []) s.groups (All-cons IsGroup c [] sized (All-nil IsGroup));
        unchecked_to = s.unchecked_to;
        task_between = s.task_between;
        checkpoint_durable = s.checkpoint_durable;
        versions_to = omega arith;
        pending_to = omega (arith, more_behind m.durable (omega (arith, s.durable_accepted, s.base_opened, s.opened_shown, s.shown_durable)) c, queue);
        life_to = omega (arith, more_behind m.opened (omega (arith, s.durable_accepted, s.base_opened, s.opened_shown, s.shown_durable)) c, life);
      }

  pub flushed : refusal_of_flush m ≡ None → IsState (with_batch m)
  flushed none =
      let p1 = passed m.broken _ _ none in
      let p2 = passed (leb (latest m) m.durable) _ _ p1.1 in
      let p3 = passed (leb m.sizes.journal_pages m.unchecked) _ _ p2.1 in
      let room : m.unchecked < m.sizes.journal_pages = leb-false m.sizes.journal_pages m.unchecked p3.0 in
      let calm : m.in_flight ≡ 0 = s.calm p1.0 in
      record {
        base_opened = s.base_opened;
        opened_shown = s.opened_shown;
        shown_durable = omega arith;
        durable_accepted = omega (arith, batch_count m s, calm);
        calm = s.calm;
        admitted = s.admitted;
        groups = s.groups;
        unchecked_to = omega arith;
        task_between = if_some m.task _ _ (λ v h. (h.0, omega arith)) s.task_between;
        checkpoint_durable = if_some_mapped with_page_flushed m.checkpoint (λ c. (c.version ≤ m.durable) × (c.flushed ≤ m.unchecked) × (c.left ≤ m.sizes.checkpoint_pages)) _ (λ c h. (omega arith, omega arith, h.2)) s.checkpoint_durable;
        versions_to = s.versions_to;
        pending_to = omega (arith, count_further (m.durable - m.base_version) (m.durable + batch m - m.base_version) m.accepted (omega arith), s.pending_to);
        life_to = s.life_to;
      }

  pub broken : (n : ℕ) → m.durable + n ≤ latest m → IsState (failed m n)
  broken n fits = record {
    base_opened = s.base_opened;
    opened_shown = s.opened_shown;
    shown_durable = s.shown_durable;
    durable_accepted = fits;
    calm = λ h. cc;
    admitted = s.admitted;
    groups = s.groups;
    unchecked_to = s.unchecked_to;
    task_between = s.task_between;
    checkpoint_durable = s.checkpoint_durable;
    versions_to = s.versions_to;
    pending_to = s.pending_to;
    life_to = s.life_to;
  }

  going_durable : ((checkpoint_of m).version ≤ m.durable) × ((checkpoint_of m).flushed ≤ m.unchecked) × ((checkpoint_of m).left ≤ m.sizes.checkpoint_pages)
  going_durable =
      if_some_or m.checkpoint (record { version = m.durable; left = m.sizes.checkpoint_pages; flushed = 0 })
      (λ c. (c.version ≤ m.durable) × (c.flushed ≤ m.unchecked) × (c.left ≤ m.sizes.checkpoint_pages)) (omega arith, omega arith, omega arith) s.checkpoint_durable

  with_checkpoint : (o : Option Checkpoint) (n : ℕ) → n ≤ m.sizes.journal_pages → IfSome o (λ c. (c.version ≤ m.durable) × (c.flushed ≤ n) × (c.left ≤ m.sizes.checkpoint_pages)) → IsState (record m { checkpoint = o; unchecked = n })
  with_checkpoint o n fits h = record {
    base_opened = s.base_opened;
    opened_shown = s.opened_shown;
    shown_durable = s.shown_durable;
    durable_accepted = s.durable_accepted;
    calm = s.calm;
    admitted = s.admitted;
    groups = s.groups;
    unchecked_to = fits;
    task_between = s.task_between;
    checkpoint_durable = h;
    versions_to = s.versions_to;
    pending_to = s.pending_to;
    life_to = s.life_to;
  }

  pub stepped : (pages : ℕ) → IsState (with_part m pages)
  stepped pages = go (has_nothing_unchecked m) (nat_lt pages (checkpoint_of m).left)
    where
      go : (a b : Bool) → IsState (cond a m (cond b (record m { checkpoint = Some (with_pages_written (checkpoint_of m) pages) }) (record m { checkpoint = None; unchecked = (checkpoint_of m).flushed })))
      go true b = s
      go false true = let g = going_durable in with_checkpoint (Some (with_pages_written (checkpoint_of m) pages)) m.unchecked s.unchecked_to (g.0, g.1, omega (arith, g.2))
      go false false = let g = going_durable in with_checkpoint None (checkpoint_of m).flushed (omega arith) tt

  pub with_task : (o : Option ℕ) (v : ℕ) → m.shown ≤ v → v ≤ m.durable → IfSome o (λ t. (v ≤ t) × (t ≤ m.durable)) → IsState (record m { task = o; shown = v })
  with_task o v later durable h = record {
    base_opened = s.base_opened;
    opened_shown = omega arith;
    shown_durable = durable;
    durable_accepted = s.durable_accepted;
    calm = s.calm;
    admitted = s.admitted;
    groups = s.groups;
    unchecked_to = s.unchecked_to;
    task_between = h;
    checkpoint_durable = s.checkpoint_durable;
    versions_to = s.versions_to;
    pending_to = s.pending_to;
    life_to = s.life_to;
  }

  pub given_up : (number : ℕ) → IsState (without_task m number)
  given_up number = go (is_out m number)
    where
      go : (a : Bool) → IsState (cond a (record m { task = None }) m)
      go true = with_task None m.shown (omega arith) s.shown_durable tt
      go false = s

  pub published : (version : ℕ) → m.task ≡ Some version → IsState (record m { task = None; shown = version })
  published version is =
      let between : (m.shown ≤ version) × (version ≤ m.durable) = subst (λ (o : Option ℕ). IfSome o (λ v. (m.shown ≤ v) × (v ≤ m.durable))) is s.task_between in
      with_task None version between.0 between.1 tt

  pub left_between : (v : ℕ) → IsLeft m v → (m.durable ≤ v) × (v ≤ latest m)
  left_between v left = ⊎_elim (λ h. (omega arith, omega arith)) (λ h. (omega arith, omega arith)) left

  pub cut : (v unchecked : ℕ) → IsLeft m v → unchecked ≤ m.sizes.journal_pages → IsState (reopened m v unchecked)
  cut v unchecked left fits =
      let between = left_between v left in
      let size : length (take (v - m.base_version) m.accepted) ≡ v - m.base_version = length-take (v - m.base_version) m.accepted ∙ omega arith in
      record {
        base_opened = omega arith;
        opened_shown = omega arith;
        shown_durable = omega arith;
        durable_accepted = omega arith;
        calm = λ h. refl;
        admitted = admitted_front m.base (v - m.base_version) m.accepted s.admitted;
        groups = All-take IsGroup (v - m.base_version) m.accepted s.groups;
        unchecked_to = fits;
        task_between = tt;
        checkpoint_durable = tt;
        versions_to = omega arith;
        pending_to = omega (arith, none_behind (v - m.base_version) (take (v - m.base_version) m.accepted) (omega (arith, size)));
        life_to = omega (arith, none_behind (v - m.base_version) (take (v - m.base_version) m.accepted) (omega (arith, size)));
      }

-- by an equation of the state that a step leaves
moved : (m new : Machine) → new ≡ m → IsState m → IsState new
moved m new is s = subst IsState (sym is) s

pub states_kept : StepsKeepStates
states_kept old new (Submitted c (Ok ticket)) s h = moved (with_group old c) new h.2 (submitted old s c h.3 h.0)
states_kept old new (Submitted c (Err refusal)) s h = moved old new h.1 s
states_kept old new (Flushed (Ok durable)) s h = moved (with_batch old) new h.1 (flushed old s h.0)
states_kept old new (Flushed (Err refusal)) s h =
    ⊎_elim (λ r. moved old new r.1 s) (λ f. moved (failed old (batch old)) new f.2 (broken old s (batch old) (batch_count old s))) h
states_kept old new (Checkpointed pages (Ok part)) s h = moved (with_part old pages) new h.2 (stepped old s pages)
states_kept old new (Checkpointed pages (Err refusal)) s h =
    ⊎_elim (λ r. moved old new r.1 s) (λ f. moved (failed old 0) new f.3 (broken old s 0 (omega arith))) h
states_kept old new (TookTask (Ok None)) s h = moved old new h.1 s
states_kept old new (TookTask (Ok (Some task))) s h =
    moved (record old { task = Some old.durable }) new h.3 (with_task old s (Some old.durable) old.shown (omega arith) s.shown_durable (s.shown_durable, omega arith))
states_kept old new (TookTask (Err refusal)) s h = moved old new h.2 s
states_kept old new (GaveUp number) s h = moved (without_task old number) new h (given_up old s number)
states_kept old new (Published version network (Ok shown)) s h = moved (record old { task = None; shown = version }) new h.2 (published old s version h.0.0)
states_kept old new (Published version network (Err refusal)) s h = moved old new h.1 s
states_kept old new (Asked query (Ok answer)) s h = moved old new h.2 s
states_kept old new (Asked query (Err refusal)) s h = moved old new h.2 s
states_kept old new (Received ticket result) s h = moved old new h.2 s
states_kept old new (Stopped version) s h = moved (reopened old version h.1.0) new h.1.2 (cut old s version h.1.0 h.0 h.1.1)

pub admitted_versions : VersionsAreNetworks
admitted_versions m v s = admitted_front m.base (v - m.base_version) m.accepted s.admitted
