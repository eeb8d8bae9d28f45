-- What is seen of a network at one arc and one node after a command, and after several.
use Rattle.std.proofs.Common.{◌≡◌, ◌∙◌, ℕ, ◌+◌, ◌-◌, ◌<◌, Bool, true, false, true≢false, [], ◌∷◌, Option, Some, None, length, refl, sym, subst, arith, length-append}
use Rattle.std.specs.Prelude.{is_none}
use Rattle.roadnet.specs.declared.arcs.RoadArc.{RoadArc}
use Rattle.roadnet.specs.declared.commands.Command.TheVariants.{Set, Close, Reopen, Mark, Unmark, Lay}
use Rattle.roadnet.specs.declared.probes.ProbedPlace.{ProbedPlace}
use Rattle.roadnet.specs.Net.{Net, IsNetwork, arc_at}
use Rattle.roadnet.specs.Step.{refusal_of, changed, new_arc}
use Rattle.roadnet.specs.Batches.{opened_at}
use Rattle.roadnet.specs.Probes.{Sees}
use Rattle.roadnet.proofs.InTurn.{count_changes, is_opened, marked-mark, marked-mark_other, marked-unmark, marked-unmark_other, opened-set, opened-close, opened-close_other, opened-reopen, opened-reopen_other, opened-lay, opened-lay_other}
use Rattle.roadnet.proofs.Kept.{admitted_lay, past_first}
use Rattle.roadnet.proofs.Stepped.{length-update_nth}

-- an arc that is there is open or not
flag_there : (o : Option RoadArc) → is_none o ≡ false → (b : Bool) × (is_opened o ≡ Some b)
flag_there None some = absurd (true≢false some)
flag_there (Some arc) some = (arc.opened, refl)

module _ (net : Net) (k x : ℕ) (seen : ProbedPlace) (ok : IsNetwork net) (s : Sees net k x seen) where
  pub see-set : (j w : ℕ) → Sees (changed net (Set j w)) k x seen
  see-set j w = record { opened = opened-set net j w k ∙ s.opened; arcs = length-update_nth _ net.arcs j ∙ s.arcs; marked = s.marked; landmarks = s.landmarks }

  pub see-close_other : (j : ℕ) → (j ≡ k → ⊥) → Sees (changed net (Close j)) k x seen
  see-close_other j ne = record { opened = opened-close_other net j k ne ∙ s.opened; arcs = length-update_nth _ net.arcs j ∙ s.arcs; marked = s.marked; landmarks = s.landmarks }

  pub see-close : (j : ℕ) → j ≡ k → refusal_of net (Close j) ≡ None → Sees (changed net (Close j)) k x (record { opened = Some false; arcs = seen.arcs; marked = seen.marked; landmarks = seen.landmarks })
  see-close j same none =
      let there : is_none (arc_at net k) ≡ false = subst (λ (i : ℕ). is_none (arc_at net i) ≡ false) same (past_first _ _ _ none).0 in
      let flag : (b : Bool) × (opened_at net k ≡ Some b) = flag_there (arc_at net k) there in
      record { opened = opened-close net j k flag.0 false same refl flag.1; arcs = length-update_nth _ net.arcs j ∙ s.arcs; marked = s.marked; landmarks = s.landmarks }

  pub see-reopen_other : (j : ℕ) → (j ≡ k → ⊥) → Sees (changed net (Reopen j)) k x seen
  see-reopen_other j ne = record { opened = opened-reopen_other net j k ne ∙ s.opened; arcs = length-update_nth _ net.arcs j ∙ s.arcs; marked = s.marked; landmarks = s.landmarks }

  pub see-reopen : (j : ℕ) → j ≡ k → refusal_of net (Reopen j) ≡ None → Sees (changed net (Reopen j)) k x (record { opened = Some true; arcs = seen.arcs; marked = seen.marked; landmarks = seen.landmarks })
  see-reopen j same none =
      let there : is_none (arc_at net k) ≡ false = subst (λ (i : ℕ). is_none (arc_at net i) ≡ false) same (past_first _ _ _ none).0 in
      let flag : (b : Bool) × (opened_at net k ≡ Some b) = flag_there (arc_at net k) there in
      record { opened = opened-reopen net j k flag.0 true same refl flag.1; arcs = length-update_nth _ net.arcs j ∙ s.arcs; marked = s.marked; landmarks = s.landmarks }

  one_landmark_more : (y n : ℕ) → refusal_of net (Mark y) ≡ None → (seen.landmarks < 18446744073709551615 → n ≡ seen.landmarks + 1) → length (changed net (Mark y)).landmarks ≡ n
  one_landmark_more y n none more = let one : length (changed net (Mark y)).landmarks ≡ length net.landmarks + 1 = count_changes net (Mark y) ok none in
      let is : n ≡ seen.landmarks + 1 = more (omega (arith, s.landmarks, ok.landmarks_to)) in omega (arith, one, is, s.landmarks)

  pub see-mark_other : (y n : ℕ) → (y ≡ x → ⊥) → refusal_of net (Mark y) ≡ None → (seen.landmarks < 18446744073709551615 → n ≡ seen.landmarks + 1) → Sees (changed net (Mark y)) k x (record { opened = seen.opened; arcs = seen.arcs; marked = seen.marked; landmarks = n })
  see-mark_other y n ne none more = record { opened = s.opened; arcs = s.arcs; marked = marked-mark_other net y x ne ∙ s.marked; landmarks = one_landmark_more y n none more }

  pub see-mark : (y n : ℕ) → y ≡ x → refusal_of net (Mark y) ≡ None → (seen.landmarks < 18446744073709551615 → n ≡ seen.landmarks + 1) → Sees (changed net (Mark y)) k x (record { opened = seen.opened; arcs = seen.arcs; marked = true; landmarks = n })
  see-mark y n same none more = record { opened = s.opened; arcs = s.arcs; marked = marked-mark net y x same; landmarks = one_landmark_more y n none more }

  one_landmark_less : (y n : ℕ) → refusal_of net (Unmark y) ≡ None → n ≡ seen.landmarks - 1 → length (changed net (Unmark y)).landmarks ≡ n
  one_landmark_less y n none less = let one : length (changed net (Unmark y)).landmarks + 1 ≡ length net.landmarks = count_changes net (Unmark y) ok none in omega (arith, one, less, s.landmarks)

  pub see-unmark_other : (y n : ℕ) → (y ≡ x → ⊥) → refusal_of net (Unmark y) ≡ None → n ≡ seen.landmarks - 1 → Sees (changed net (Unmark y)) k x (record { opened = seen.opened; arcs = seen.arcs; marked = seen.marked; landmarks = n })
  see-unmark_other y n ne none less = record { opened = s.opened; arcs = s.arcs; marked = marked-unmark_other net y x ne ∙ s.marked; landmarks = one_landmark_less y n none less }

  pub see-unmark : (y n : ℕ) → y ≡ x → refusal_of net (Unmark y) ≡ None → n ≡ seen.landmarks - 1 → Sees (changed net (Unmark y)) k x (record { opened = seen.opened; arcs = seen.arcs; marked = false; landmarks = n })
  see-unmark y n same none less = record { opened = s.opened; arcs = s.arcs; marked = marked-unmark net y x same; landmarks = one_landmark_less y n none less }

  one_arc_more : (t h w n : ℕ) → refusal_of net (Lay t h w) ≡ None → (seen.arcs < 18446744073709551615 → n ≡ seen.arcs + 1) → n ≡ length net.arcs + 1
  one_arc_more t h w n none more =
      let few : length net.arcs < net.room = (admitted_lay net t h w none).3 in
      let is : n ≡ seen.arcs + 1 = more (omega (arith, s.arcs, few, ok.room_to)) in omega (arith, is, s.arcs)

  counted_more : (t h w n : ℕ) → n ≡ length net.arcs + 1 → length (changed net (Lay t h w)).arcs ≡ n
  counted_more t h w n is = omega (arith, length-append net.arcs (new_arc t h w ∷ []), is)

  pub see-lay_other : (t h w n : ℕ) → (n ≡ k → ⊥) → refusal_of net (Lay t h w) ≡ None → (seen.arcs < 18446744073709551615 → n ≡ seen.arcs + 1) → Sees (changed net (Lay t h w)) k x (record { opened = seen.opened; arcs = n; marked = seen.marked; landmarks = seen.landmarks })
  see-lay_other t h w n ne none more =
      let is : n ≡ length net.arcs + 1 = one_arc_more t h w n none more in
      record { opened = opened-lay_other net t h w k (λ e. ne (is ∙ sym e)) ∙ s.opened; arcs = counted_more t h w n is; marked = s.marked; landmarks = s.landmarks }

  pub see-lay : (t h w n : ℕ) → n ≡ k → refusal_of net (Lay t h w) ≡ None → (seen.arcs < 18446744073709551615 → n ≡ seen.arcs + 1) → Sees (changed net (Lay t h w)) k x (record { opened = Some true; arcs = n; marked = seen.marked; landmarks = seen.landmarks })
  see-lay t h w n same none more =
      let is : n ≡ length net.arcs + 1 = one_arc_more t h w n none more in
      record { opened = opened-lay net t h w k (sym same ∙ is); arcs = counted_more t h w n is; marked = s.marked; landmarks = s.landmarks }
