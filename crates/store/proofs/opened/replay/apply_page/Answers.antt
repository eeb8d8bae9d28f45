use Rattle.std.proofs.Common.{◌≡◌, ◌∙◌, ℕ, ◌+◌, ◌^◌, List, true, false, Some, None, inr, ◌≤◌, length, ap, sym, subst, arith, eq-eqb}
use Rattle.std.specs.Prelude.{map, nat_le, ◌==◌}
use Rattle.std.proofs.lemmas.Bool.{le-leb}
use Rattle.std.proofs.lemmas.Bool.Decides.{nat_tests}
use Rattle.roadnet.specs.Step.{step_group}
use Rattle.pages.specs.declared.content.Record.{Record}
use Rattle.pages.specs.Grouping.{records_in}
use Rattle.pages.specs.Spelling.{Decodes, SpelledEntry}
use Rattle.store.proofs.ArcsKept.{arcs_grow}
use Rattle.store.proofs.Applied.{after_groups, groups_few}
use Rattle.storefile.proofs.Decoded.{decoded_entry}
use Rattle.store.proofs.Replayed.{no_entry, wrong_number, past_last, judged_so}
use Rattle.store.proofs.opened.replay.apply_page.Goals as goal

pub overflow_add-new : goal.overflow_add-new
overflow_add-new c =
    let spelled : SpelledEntry c.args.format c.args.page.now c.in-Some.entry = subst (Decodes (SpelledEntry c.args.format c.args.page.now)) c.in-Some.is c.in-Ok.ensures in
    let few : length c.in-Some.entry.groups ≤ length (records_in c.in-Some.entry.groups) = groups_few c.in-Some.entry.groups spelled.fits.groups in
    omega (arith, few, spelled.fits.records.few, c.group_count.ensures, c.requires)

pub returns-in_default-found-clause-refused : goal.returns-in_default-found-clause-refused
returns-in_default-found-clause-refused c =
    inr (no_entry c.args.format c.args.number c.args.page.now c.args.version c.args.network.now (decoded_entry c.args.format c.args.page.now c.in-Ok.found c.in-Ok.ensures ∙ c.in_default-found.is))

pub returns-then-first_number-version-clause-refused : goal.returns-then-first_number-version-clause-refused
returns-then-first_number-version-clause-refused c =
    let other : (c.first_number.result == c.args.version + 1) ≡ false = grind (arith, nat_tests) in
    inr (wrong_number c.args.format c.args.number c.args.page.now c.args.version c.args.network.now c.in-Some.entry (decoded_entry c.args.format c.args.page.now c.in-Ok.found c.in-Ok.ensures ∙ c.in-Some.is)
    (ap (λ (n : ℕ). n == c.args.version + 1) (sym c.first_number.ensures) ∙ other))

pub returns-then-new-gt-MOST_VERSIONS-clause-refused : goal.returns-then-new-gt-MOST_VERSIONS-clause-refused
returns-then-new-gt-MOST_VERSIONS-clause-refused c =
    let next : c.first_number.result ≡ c.args.version + 1 = omega arith in
    let past : nat_le (c.args.version + c.group_count.result) (2 ^ 48) ≡ false = grind (arith, nat_tests) in
    inr (past_last c.args.format c.args.number c.args.page.now c.args.version c.args.network.now c.in-Some.entry (decoded_entry c.args.format c.args.page.now c.in-Ok.found c.in-Ok.ensures ∙ c.in-Some.is)
    (eq-eqb c.in-Some.entry.first_number (c.args.version + 1) (sym c.first_number.ensures ∙ next))
    (ap (λ (n : ℕ). nat_le (c.args.version + n) (2 ^ 48)) (sym c.group_count.ensures) ∙ past))

pub returns-then-not-all-clause-refused : goal.returns-then-not-all-clause-refused
returns-then-not-all-clause-refused c =
    let next : c.first_number.result ≡ c.args.version + 1 = omega arith in
    let fits : nat_le (c.args.version + c.group_count.result) (2 ^ 48) ≡ true = le-leb (c.args.version + c.group_count.result) (2 ^ 48) (omega arith) in
    inr (judged_so c.args.format c.args.number c.args.page.now c.args.version c.args.network.now c.in-Some.entry None (decoded_entry c.args.format c.args.page.now c.in-Ok.found c.in-Ok.ensures ∙ c.in-Some.is)
    (eq-eqb c.in-Some.entry.first_number (c.args.version + 1) (sym c.first_number.ensures ∙ next))
    (ap (λ (n : ℕ). nat_le (c.args.version + n) (2 ^ 48)) (sym c.group_count.ensures) ∙ fits)
    (after_groups c.args.network.now c.in-Some.entry.groups None (ap (λ (rs : List Record). step_group c.args.network.now (map (λ (r : Record). r.command) rs)) (sym c.records.ensures) ∙ c.in-Ok-apply_all.ensures.one_refused c.if-not-all.true)))

pub returns-clause-grows : goal.returns-clause-grows
returns-clause-grows c =
    arcs_grow c.args.network.now c.apply_all.new.network c.in-Some.entry.groups
    (after_groups c.args.network.now c.in-Some.entry.groups (Some c.apply_all.new.network) (ap (λ (rs : List Record). step_group c.args.network.now (map (λ (r : Record). r.command) rs)) (sym c.records.ensures) ∙ c.in-Ok-apply_all.ensures.all c.if-not-all.false))

pub returns-clause-carried_out : goal.returns-clause-carried_out
returns-clause-carried_out c =
    let next : c.first_number.result ≡ c.args.version + 1 = omega arith in
    let fits : nat_le (c.args.version + c.group_count.result) (2 ^ 48) ≡ true = le-leb (c.args.version + c.group_count.result) (2 ^ 48) (omega arith) in
    record {
      groups = c.in-Some.entry.groups;
      said_is = judged_so c.args.format c.args.number c.args.page.now c.args.version c.args.network.now c.in-Some.entry (Some c.apply_all.new.network) (decoded_entry c.args.format c.args.page.now c.in-Ok.found c.in-Ok.ensures ∙ c.in-Some.is)
          (eq-eqb c.in-Some.entry.first_number (c.args.version + 1) (sym c.first_number.ensures ∙ next))
          (ap (λ (n : ℕ). nat_le (c.args.version + n) (2 ^ 48)) (sym c.group_count.ensures) ∙ fits)
          (after_groups c.args.network.now c.in-Some.entry.groups (Some c.apply_all.new.network) (ap (λ (rs : List Record). step_group c.args.network.now (map (λ (r : Record). r.command) rs)) (sym c.records.ensures) ∙ c.in-Ok-apply_all.ensures.all c.if-not-all.false));
      version_is = ap (λ (n : ℕ). c.args.version + n) c.group_count.ensures;
    }
