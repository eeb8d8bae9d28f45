-- What is opened after a stop, and the life that begins with it.
use Rattle.std.proofs.Common.{◌≡◌, ⊎_elim, inl, inr, ℕ, ◌+◌, ◌-◌, ◌≤◌, List, ◌++◌, length, take, Some, refl, sym, ◌∙◌, ap, subst, arith, length-append, length-take}
use Rattle.roadnet.specs.declared.groups.Group.{Group}
use Rattle.roadnet.specs.Net.{Net}
use Rattle.roadnet.specs.Step.{after}
use Rattle.roadnet.proofs.Stepped.{after_both}
use Rattle.pages.specs.declared.header.Header.{Header}
use Rattle.pages.specs.Layout.{slot_pages}
use Rattle.storefile.specs.Standing.{Standing, standing_of}
use Rattle.storefile.proofs.Rests.{stored_as}
use Rattle.store.specs.Committing.{HasTidyStanding}
use Rattle.machine.specs.Machine.{Sizes, Machine, IsState, start, network_at, groups_to}
use Rattle.machine.specs.Calls.{StopsAndOpens}
use Rattle.machine.specs.LifeInRun.{within}
use Rattle.machine.proofs.InRun.{stops_begin_lives}
use Rattle.machine.proofs.Kept.{left_between}
use Rattle.store.specs.State.{Told, told_of}
use Rattle.machine.specs.declared.events.Replied.TheVariants.{Opened}
use Rattle.lives.specs.Cutting.{StandsAsTold}
use Rattle.keeper.specs.Keeping.{IsDurableIn}
use Rattle.keeper.proofs.Opened.{IsOpened, is_opened}
use Rattle.lives.specs.Rehearsing.{BeginsAfter}

-- ---- the life that begins
abbrev sizes_told : Told → Sizes
sizes_told t = record { journal_pages = t.journal_pages; checkpoint_pages = t.checkpoint_pages }

-- the state in which a life begins, whose store tells this
abbrev pub start_of : Told → Machine
start_of t = start (sizes_told t) t.network t.version t.unchecked

few_unchecked : (content : List ℕ) (x : Standing) → standing_of content ≡ Some x → x.unchecked ≤ x.header.journal_pages
few_unchecked content x told =
    let held = stored_as content x told in
    let pages : held.stored.header.journal_pages ≡ x.header.journal_pages = ap (λ (h : Header). h.journal_pages) held.header_is in
    omega (arith, held.stands.is.few, held.unchecked_is, pages)

module _ (m : Machine) (content : List ℕ) (x : Standing) (s : IsState m) (held : IsDurableIn m content) (told : standing_of content ≡ Some x) where
  o : IsOpened m.sizes.journal_pages m.sizes.checkpoint_pages content held.network held.version x
  o = is_opened m.sizes.journal_pages m.sizes.checkpoint_pages content held.network held.version x held.stands told

  same_sizes : sizes_told (told_of x) ≡ m.sizes
  same_sizes = both x.header.journal_pages (slot_pages x.header) m.sizes o.pages_are o.slot_is
    where
      both : (j w : ℕ) (z : Sizes) → j ≡ z.journal_pages → w ≡ z.checkpoint_pages → ◌≡◌ {A = Sizes} (record { journal_pages = j; checkpoint_pages = w }) z
      both j w z a b = rw (a, b) refl

  pub begins_after : (next : Machine) (t : Told) → told_of x ≡ t → next ≡ start_of t → BeginsAfter m next
  begins_after next t same begins =
      let is : next ≡ start_of (told_of x) = begins ∙ ap start_of (sym same) in
      let few = few_unchecked content x told in
      subst (BeginsAfter m) (sym is) (record {
        left = ⊎_elim (λ e. inl (o.version_is ∙ e)) (λ e. inr (o.version_is ∙ e)) held.left;
        network_is = subst (λ (v : ℕ). network_at m v ≡ Some x.network) (sym o.version_is) (held.network_is ∙ ap Some (sym o.network_is));
        begins = ap (λ (z : Sizes). start z x.network x.version x.unchecked) same_sizes;
        unchecked_to = omega (arith, o.pages_are, few);
      })

  -- the content stands at the version that is opened
  pub stands_as_told : (next : Machine) (t : Told) → told_of x ≡ t → next ≡ start_of t → StandsAsTold m (Opened next.base_version) content
  stands_as_told next t same begins =
      (held, sym (ap (λ (z : Machine). z.base_version) begins ∙ (ap (λ (y : Told). y.version) (sym same) ∙ o.version_is)))

  pub stands_after : HasTidyStanding content x
  stands_after = o.stands

-- ---- the life that begins, within the run
module _ (base : Net) (version : ℕ) (before : List Group) (m next : Machine) (begun : m.base_version ≡ version + length before) (s : IsState m) (b : BeginsAfter m next) where
  -- what the stop left of the groups of the life before
  abbrev pub left_groups : List Group
  left_groups = groups_to m next.base_version

  pub opens_in : StopsAndOpens (within base version before m) next.base_version (within base version (before ++ left_groups) next)
  opens_in = (
    b.left,
    (
      next.unchecked,
      b.unchecked_to,
      ap (within base version (before ++ left_groups)) b.begins ∙ sym (stops_begin_lives base version before m next.base_version next.unchecked next.base begun s b.left),
    ),
  )

  pub there_after : after base before ≡ Some m.base → after base (before ++ left_groups) ≡ Some next.base
  there_after there = after_both base before left_groups ∙ rw there (b.network_is)

  pub begun_after : next.base_version ≡ version + length (before ++ left_groups)
  begun_after =
      let between = left_between m s next.base_version b.left in
      let sizes : length (before ++ left_groups) ≡ length before + length left_groups = length-append before left_groups in
      let taken : length left_groups ≡ next.base_version - m.base_version = length_of_front (next.base_version - m.base_version) m.accepted (omega (arith, between.1)) in
      omega (arith, sizes, taken, between.0, s.base_opened, s.opened_shown, s.shown_durable)
    where
      length_of_front : (n : ℕ) (xs : List Group) → n ≤ length xs → length (take n xs) ≡ n
      length_of_front n xs le = let is = length-take n xs in omega (arith, is)

  pub sizes_after : next.sizes ≡ m.sizes
  sizes_after = ap (λ (z : Machine). z.sizes) b.begins
