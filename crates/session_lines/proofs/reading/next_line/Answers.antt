use Rattle.std.proofs.Common.{◌≡◌, ◌∙◌, ◌⊎◌, inl, inr, true, false, refl, rules, sym}
use Rattle.session_lines.specs.declared.reading.LastLine.{LastLine}
use Rattle.session_lines.specs.declared.reading.LastLine.TheVariants.{Taken, Dropped}
use Rattle.session_lines.proofs.Bytewise.{far_ended, far_fed, far_more}
use Rattle.session_lines.proofs.reading.next_line.Goals as goal

pub loop-preserved : goal.loop-preserved
loop-preserved g c = record {
  far = far_more _ _ _ c.loop.line c.with-line.result c.loop.is_empty c.in-Some-2.byte c.loop.invariant.far c.in-Some-2.byte-test.1 c.with-line.ensures (rw c.in-Some-2.is at c.in_ok-next_byte.ensures.bytes);
  failed = search rules;
  same = search rules;
}

one_of_two : (last_line : LastLine) → (last_line ≡ Taken) ⊎ (last_line ≡ Dropped)
one_of_two Taken = inl refl
one_of_two Dropped = inr refl

pub returns-in-None-2-clause-line : goal.returns-in-None-2-clause-line
returns-in-None-2-clause-line g c =
    let taken : c.args.last_line ≡ Taken = elim (one_of_two c.args.last_line) [
      | inl is ↦ is
      | inr dropped ↦
          let both : false ≡ true = rw dropped at (sym c.if-eq.false ∙ c.eq.ensures) in
          let absurdity : ⊥ = cc in
          absurd absurdity
    ] in
    far_ended c.args.last_line _ _ _ c.loop.line c.loop.is_empty c.line.result c.loop.invariant.far c.if-is_empty.false taken (rw c.in-None-2.is at c.in_ok-next_byte.ensures.bytes) c.line.ensures

pub returns-in-Some-eq10-clause-line : goal.returns-in-Some-eq10-clause-line
returns-in-Some-eq10-clause-line g c =
    far_fed c.args.last_line _ _ _ c.loop.line c.loop.is_empty c.in-Some-eq10.field-0 c.line-in-Some-eq10.result c.loop.invariant.far c.in-Some-eq10.field-0-test (rw c.in-Some-eq10.is at c.in_ok-next_byte.ensures.bytes) c.line-in-Some-eq10.ensures
