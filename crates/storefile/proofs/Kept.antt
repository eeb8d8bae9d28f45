-- What opening answers is stored: the journal, and the whole file.
use Rattle.std.proofs.Common.{◌≡◌, ℕ, zero, suc, ◌+◌, ◌^◌, ◌≤◌, ◌<◌, Bool, true, false, cond, List, [], ◌∷◌, length, Some, Result, Ok, refl, sym, ap, subst, ◌∙◌, arith, ◌⊎◌, inl, inr}
use Rattle.std.specs.Prelude.{nat_le, ◌==◌, option_and_then}
use Rattle.std.specs.List.{flat_map}
use Rattle.std.proofs.lemmas.Bool.{leb-true, eqb-true}
use Rattle.std.proofs.lemmas.List.{length-append}
use Rattle.roadnet.specs.declared.commands.Command.{Command}
use Rattle.roadnet.specs.declared.refusals.Refusal.{Refusal}
use Rattle.roadnet.specs.declared.refusals.Refusal.TheVariants.{Damaged}
use Rattle.roadnet.specs.Net.{Net}
use Rattle.roadnet.specs.Step.{after}
use Rattle.pages.specs.declared.header.Header.{Header}
use Rattle.pages.specs.Spelling.{SpelledEntry}
use Rattle.storefile.specs.StoreFile.{is_open, journal_page_at, first_field, is_standing, HoldsJournal}
use Rattle.storefile.specs.Judging.{unless_so, spelled_at, entry_in, journal_from}
use Rattle.pages.proofs.Padding.{both}
use Rattle.pages.proofs.Entries.{entry_read, same_entry}
use Rattle.roadnet.proofs.Stepped.{after_both}
use Rattle.storefile.proofs.Sound.{bind_ok, unless_ok, spelled_ok, entry_spelled}

-- what a list of journal pages and the network after it say
pub record JournalIs (pages : ℕ → List ℕ) (h : Header) (most q v : ℕ) (net : Net) (x : List (List (List Command)) × Net) : Type 0 where
  pub held : HoldsJournal pages h q v x.0
  pub few : length x.0 ≤ most
  pub longest : length x.0 < most → is_standing pages h (q + length x.0) ≡ false
  pub done : after net (flat_map (λ cs. cs) x.0) ≡ Some x.1
  pub versions_to : v + length (flat_map (λ cs. cs) x.0) ≤ 2 ^ 48

choose : {Y : Type 0} (b : Bool) (r s : Result Y Refusal) (y : Y) → cond b r s ≡ Ok y → ((b ≡ true) × (r ≡ Ok y)) ⊎ ((b ≡ false) × (s ≡ Ok y))
choose true r s y e = inl (refl, e)
choose false r s y e = inr (refl, e)

pair_same : (a b : List (List (List Command)) × Net) → ◌≡◌ {A = Result (List (List (List Command)) × Net) Refusal} (Ok a) (Ok b) → a ≡ b
pair_same a b e = cc

ends_here : (pages : ℕ → List ℕ) (h : Header) (most q v : ℕ) (net : Net) → v ≤ 2 ^ 48 → (0 < most → is_standing pages h q ≡ false) → JournalIs pages h most q v net ([], net)
ends_here pages h most q v net fits stops = record {
  held = tt;
  few = omega arith;
  longest = λ lt. let e : q ≡ q + 0 = omega arith in subst (λ (k : ℕ). is_standing pages h k ≡ false) e (stops lt);
  done = refl;
  versions_to = omega arith;
}

pub journal_is : (pages : ℕ → List ℕ) (h : Header) (most q v : ℕ) (net : Net) (x : List (List (List Command)) × Net) → v ≤ 2 ^ 48
    → journal_from pages h most q v net ≡ Ok x → JournalIs pages h most q v net x
journal_is pages h zero q v net x fits e = subst (JournalIs pages h 0 q v net) (pair_same ([], net) x e) (ends_here pages h 0 q v net fits (λ lt. absurd (omega arith)))
journal_is pages h (suc most) q v net x fits e =
    elim (choose (is_standing pages h q) _ (Ok ([], net)) x e) [
      | inr w ↦ subst (JournalIs pages h (suc most) q v net) (pair_same ([], net) x w.1) (ends_here pages h (suc most) q v net fits (λ lt. w.0))
      | inl w ↦
          let page = pages (journal_page_at h q) in
          let a = bind_ok (spelled_at (journal_page_at h q) (entry_in h.format (pages (journal_page_at h q)))) _ x w.1 in
          let b = bind_ok (unless_so (a.0.first_number == v + 1) (Damaged (journal_page_at h q))) _ x a.2 in
          let c = bind_ok (unless_so (nat_le (v + length a.0.groups) (2 ^ 48)) (Damaged (journal_page_at h q))) _ x b.2 in
          let d = bind_ok (spelled_at (journal_page_at h q) (after net a.0.groups)) _ x c.2 in
          let r = bind_ok (journal_from pages h most (q + 1) (v + length a.0.groups) d.0) _ x d.2 in
          let spelled = entry_spelled h.format (pages (journal_page_at h q)) a.0 (spelled_ok (journal_page_at h q) (entry_in h.format (pages (journal_page_at h q))) a.0 a.1) in
          let stands = both (is_open (pages (journal_page_at h q))) (first_field (pages (journal_page_at h q)) == q) w.0 in
          let sequence : q ≡ a.0.sequence = sym (eqb-true _ _ stands.1) ∙ (entry_read h.format (pages (journal_page_at h q)) a.0 spelled).sequence in
          let first : v + 1 ≡ a.0.first_number = sym (eqb-true _ _ (unless_ok _ _ b.0 b.1)) in
          let version : v + length a.0.groups ≤ 2 ^ 48 = leb-true _ _ (unless_ok _ _ c.0 c.1) in
          let next : after net a.0.groups ≡ Some d.0 = spelled_ok (journal_page_at h q) (after net a.0.groups) d.0 d.1 in
          let rest = journal_is pages h most (q + 1) (v + length a.0.groups) d.0 r.0 version r.1 in
          subst (JournalIs pages h (suc most) q v net) (pair_same (a.0.groups ∷ r.0.0, r.0.1) x r.2) (record {
            held = (w.0, subst (SpelledEntry h.format (pages (journal_page_at h q))) (sym (same_entry a.0 q (v + 1) a.0.groups sequence first refl)) spelled, rest.held);
            few = omega (arith, rest.few);
            longest = λ lt. let e : q + 1 + length r.0.0 ≡ q + suc (length r.0.0) = omega arith in subst (λ (k : ℕ). is_standing pages h k ≡ false) e (rest.longest (omega arith));
            done = after_both net a.0.groups (flat_map (λ cs. cs) r.0.0) ∙ ap (option_and_then (λ n. after n (flat_map (λ cs. cs) r.0.0))) next ∙ rest.done;
            versions_to = omega (arith, rest.versions_to, length-append a.0.groups (flat_map (λ cs. cs) r.0.0));
          })
    ]
