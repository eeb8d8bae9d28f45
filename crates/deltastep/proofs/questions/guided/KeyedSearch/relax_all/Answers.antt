use Rattle.std.proofs.Common.{◌≡◌, ◌<◌, ℕ, take, length, get_or, Contains, List, Some, inl, inr, sym, subst, arith}
use Rattle.std.proofs.lemmas.List.{take_more, take_all}
use Rattle.std.proofs.lemmas.List.Elements.{Contains-push_cases}
use Rattle.relax.specs.Values.{value_at}
use Rattle.deltastep.specs.Guided.{HasDone}
use Rattle.deltastep.proofs.Guiding.{GoesOnTo-then, HasDone-live, KeepsWindow-then, fits_kept, under_way}
use Rattle.deltastep.proofs.questions.guided.KeyedSearch.relax_all.Goals as goal

pub relax_entry-requires-clause-state : goal.relax_entry-requires-clause-state
relax_entry-requires-clause-state g c = (c.requires.state.0, under_way c.args.snapshot.now (g.G.Guide.target c.args.guide.now) c.args.start c.args.self.now c.loop-entry.self c.loop-entry.invariant.keeps c.loop-entry.invariant.goes_on c.requires.state.0 c.requires.state.1)

pub relax_entry-requires-clause-fits : goal.relax_entry-requires-clause-fits
relax_entry-requires-clause-fits g c = fits_kept c.args.self.now.ring c.loop-entry.self.ring c.args.start c.args.end c.loop-entry.invariant.keeps c.requires.fits

pub loop-entry-preserved : goal.loop-entry-preserved
loop-entry-preserved g c =
    let groups = c.args.snapshot.now in
    let target = g.G.Guide.target c.args.guide.now in
    let start = c.args.start in
    let s = c.loop-entry.self in
    let new = c.relax_entry.new.self in
    let entries = c.args.entries.now in
    let i = c.loop-entry.entry-index in
    let lt : i < length entries = omega arith in
    let next = c.in_ok-relax_entry.ensures in
    record {
      goes_on = GoesOnTo-then groups target start c.args.self.now s c.loop-entry.invariant.keeps c.loop-entry.invariant.goes_on new next.goes_on;
      done = λ part e among now. elim (Contains-push_cases (take i entries) (get_or entries i (0, 0)) e (subst (λ (l : List (ℕ × ℕ)). Contains l e) (take_more entries i (0, 0) lt) among)) as (λ _. HasDone groups part new e.0) [
        | inl before ↦ HasDone-live groups target start s new c.relax_entry.ensures.keeps next.goes_on part e.0 e.1 (c.loop-entry.invariant.done part e before) now
        | inr here ↦ subst (λ (f : ℕ × ℕ). value_at new.tentative f.0 ≡ Some f.1 → HasDone groups part new f.0) here (next.done part) now
      ];
      keeps = KeepsWindow-then c.args.self.now.ring s.ring new.ring c.loop-entry.invariant.keeps c.relax_entry.ensures.keeps;
    }

pub returns-clause-done : goal.returns-clause-done
returns-clause-done g c part e among now = c.loop-entry.invariant.done part e (subst (λ (l : List (ℕ × ℕ)). Contains l e) (sym (take_all c.loop-entry.entry-index c.args.entries.now (omega arith))) among) now
