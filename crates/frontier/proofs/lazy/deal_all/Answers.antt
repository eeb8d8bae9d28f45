use Rattle.std.proofs.Common.{◌≡◌, ◌≤◌, ◌+◌, ◌/◌, ℕ, get_or, refl, sym, subst, ◌∙◌, arith}
use Rattle.std.proofs.lemmas.List.Elements.{Contains-get_or}
use Rattle.frontier.specs.Live.{AreEntriesDealt, AreEntriesKept}
use Rattle.frontier.proofs.Bags.{AreDealt-none, AreDealt-step, AreKept-none, IsNowhere-next}
use Rattle.frontier.proofs.EntryLists.{AreInPlace-none}
use Rattle.frontier.proofs.Live.{has_live}
use Rattle.frontier.proofs.lazy.deal_all.Goals as goal

pub loop-entry-init : goal.loop-entry-init
loop-entry-init g c =
    let ring = c.args.ring.now in
    record {
      placed = AreInPlace-none ring.delta ring.last ring.lists.items c.requires.none;
      kept = AreKept-none (g.V.SearchValues.values c.args.tentative.now) ring.delta c.args.bound ring.lists.items c.args.bag.now.items c.requires.none c.requires.empty;
      dealt = AreDealt-none (g.V.SearchValues.values c.args.tentative.now) ring.delta c.args.entries.now ring.lists.items c.args.bag.now.items c.requires.none c.requires.empty;
      width = refl;
      last = refl;
      size = refl;
    }

pub deal_one-requires-clause-from : goal.deal_one-requires-clause-from
deal_one-requires-clause-from g c has =
    let entries = c.args.entries.now in
    let i = c.loop-entry.entry-index in
    let e = get_or entries i (0, 0) in
    let from : c.args.ring.now.last ≤ e.1 / c.args.ring.now.delta = c.requires.from e (Contains-get_or entries i (0, 0) (omega arith)) (has_live (g.V.SearchValues.values c.args.tentative.now) e has) in
    let last : c.loop-entry.ring.last ≡ c.args.ring.now.last = c.loop-entry.invariant.last in
    let width : c.loop-entry.ring.delta ≡ c.args.ring.now.delta = c.loop-entry.invariant.width in
    subst (λ (n : ℕ). n ≤ e.1 / c.loop-entry.ring.delta) (sym last) (subst (λ (d : ℕ). c.args.ring.now.last ≤ e.1 / d) (sym width) from)

pub deal_one-requires-clause-lone : goal.deal_one-requires-clause-lone
deal_one-requires-clause-lone g c =
    let l = c.loop-entry in
    IsNowhere-next (g.V.SearchValues.values c.args.tentative.now) l.ring.delta c.args.entries.now l.entry-index l.ring.lists.items l.bag.items l.invariant.dealt (0, 0) c.requires.once (omega arith)

pub loop-entry-preserved : goal.loop-entry-preserved
loop-entry-preserved g c =
    let l = c.loop-entry in
    let ring = c.deal_one.new.ring in
    let ensures = c.deal_one.ensures in
    let bag = c.deal_one.new.bag in
    let dealt : AreEntriesDealt (g.V.SearchValues.values c.args.tentative.now) l.ring.delta c.args.entries.now (l.entry-index + 1) ring.lists.items bag.items = AreDealt-step (g.V.SearchValues.values c.args.tentative.now) l.ring.delta c.args.entries.now l.entry-index l.ring.lists.items l.bag.items l.invariant.dealt (0, 0) ring.lists.items bag.items (omega arith) c.in_ok-deal_one.ensures.dealt in
    record {
      placed = ensures.placed l.invariant.placed;
      kept = subst (λ (d : ℕ). AreEntriesKept (g.V.SearchValues.values c.args.tentative.now) d c.args.bound ring.lists.items bag.items) (sym ensures.width) ensures.kept;
      dealt = subst (λ (d : ℕ). AreEntriesDealt (g.V.SearchValues.values c.args.tentative.now) d c.args.entries.now (l.entry-index + 1) ring.lists.items bag.items) (sym ensures.width) dealt;
      width = ensures.width ∙ l.invariant.width;
      last = ensures.last ∙ l.invariant.last;
      size = ensures.size ∙ l.invariant.size;
    }

pub returns-in_err-deal_one-clause-placed : goal.returns-in_err-deal_one-clause-placed
returns-in_err-deal_one-clause-placed g c = c.deal_one.ensures.placed c.loop-entry.invariant.placed
