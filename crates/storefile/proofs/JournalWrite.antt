-- What a file stands for, where the page of the next sequence is written.
use Rattle.std.proofs.Common.{◌≡◌, ⊎_elim, ℕ, ◌+◌, ◌<◌, ◌≤◌, Bool, true, false, List, [], ◌∷◌, ◌++◌, length, Option, Some, refl, sym, ◌∙◌, ap, subst, arith, length-append, append_assoc}
use Rattle.std.specs.Prelude.{◌==◌, ◌&&◌, option_and_then}
use Rattle.std.specs.List.{flat_map}
use Rattle.std.proofs.lemmas.Bool.{cases_eq}
use Rattle.std.proofs.lemmas.Bool.Decides.{nat_tests}
use Rattle.std.proofs.lemmas.List.{append-nil}
use Rattle.roadnet.specs.declared.commands.Command.{Command}
use Rattle.roadnet.specs.Net.{Net}
use Rattle.roadnet.specs.Step.{after}
use Rattle.roadnet.proofs.Stepped.{after_both}
use Rattle.pages.specs.declared.header.Header.{Header}
use Rattle.pages.specs.Spelling.{SpelledEntry}
use Rattle.pages.proofs.Entries.{entry_read}
use Rattle.storefile.specs.StoreFile.{page, is_open, journal_page_at, Stored, Stores, GivesNetwork, first_field, is_standing, HasNoLaterPage, groups_of, next_sequence}
use Rattle.storefile.specs.Standing.{with_groups, LeadsTo}
use Rattle.storefile.specs.Laws.{SameBut, ClosedPageMeansNothing, OpenPageIsOneMore}
use Rattle.storefile.proofs.PageBytes.{same_but}
use Rattle.storefile.proofs.Torn.{stores_same, stores_more, journal_same, journal_more}

-- no later page stands, where the page of the next sequence is closed
pub later_closed : (pages pages' : ℕ → List ℕ) (h : Header) (next : ℕ) → SameBut (journal_page_at h next) pages pages' → is_open (pages' (journal_page_at h next)) ≡ false → HasNoLaterPage pages h next → HasNoLaterPage pages' h next
later_closed pages pages' h next same closed later = λ q le. ⊎_elim
    (λ here. subst (λ (k : ℕ). (is_open (pages' k) && (first_field (pages' k) == q)) ≡ false) (sym here) (rw closed refl))
    (λ there. subst (λ (p : List ℕ). (is_open p && (first_field p == q)) ≡ false) (sym (same (journal_page_at h q) there)) (later q le))
    (cases_eq (journal_page_at h q) (journal_page_at h next))

not_this : (b : Bool) (f next q : ℕ) → f ≡ next → next + 1 ≤ q → (b && (f == q)) ≡ false
not_this true f next q is lt = grind (arith, nat_tests)
not_this false f next q is lt = refl

-- nor one later than that page, where it is written
pub later_written : (pages pages' : ℕ → List ℕ) (h : Header) (next : ℕ) → SameBut (journal_page_at h next) pages pages' → first_field (pages' (journal_page_at h next)) ≡ next → HasNoLaterPage pages h next → HasNoLaterPage pages' h (next + 1)
later_written pages pages' h next same first later = λ q le. ⊎_elim
    (λ here. subst (λ (k : ℕ). (is_open (pages' k) && (first_field (pages' k) == q)) ≡ false) (sym here) (not_this (is_open (pages' (journal_page_at h next))) (first_field (pages' (journal_page_at h next))) next q first le))
    (λ there. subst (λ (p : List ℕ). (is_open p && (first_field p == q)) ≡ false) (sym (same (journal_page_at h q) there)) (later q (omega arith)))
    (cases_eq (journal_page_at h q) (journal_page_at h next))

pub this_one : (f q : ℕ) → f ≡ q → (f == q) ≡ true
this_one f q is = grind (arith, nat_tests)

-- ---- the commands of one page more

flat-end : (css : List (List (List Command))) (cs : List (List Command)) → flat_map (λ xs. xs) (css ++ cs ∷ []) ≡ flat_map (λ xs. xs) css ++ cs
flat-end [] cs = append-nil cs
flat-end (ds ∷ css) cs = ap (λ (l : List (List Command)). ds ++ l) (flat-end css cs) ∙ sym (append_assoc ds (flat_map (λ xs. xs) css) cs)

pub gives_more : (s : Stored) (net net' : Net) (version : ℕ) (commands : List (List Command)) → GivesNetwork s net version → after net commands ≡ Some net' → GivesNetwork (with_groups s commands) net' (version + length commands)
gives_more s net net' version commands gives goes = record {
  network = ap (after s.network) (flat-end s.unchecked commands) ∙ after_both s.network (groups_of s) commands ∙ ap (λ (o : Option Net). option_and_then (λ next. after next commands) o) gives.network ∙ goes;
  version_is = omega (arith, gives.version_is, ap length (flat-end s.unchecked commands), length-append (groups_of s) commands);
}

-- what journal pages lead to, with one page more
pub leads_more : (pages pages' : ℕ → List ℕ) (h : Header) (from to to' : Net) (w r v q : ℕ) (behind : List (List (List Command))) (commands : List (List Command)) → LeadsTo pages h from w r behind to v q
    → SameBut (journal_page_at h q) pages pages' → q < r + h.journal_pages → is_standing pages' h q ≡ true
    → SpelledEntry h.format (pages' (journal_page_at h q)) (record { sequence = q; first_number = v + 1; groups = commands }) → after to commands ≡ Some to'
    → LeadsTo pages' h from w r (behind ++ commands ∷ []) to' (v + length commands) (q + 1)
leads_more pages pages' h from to to' w r v q behind commands leads same near stands spells goes = record {
  held = journal_more pages' h r w q (v + 1) behind commands (journal_same pages pages' h r w q behind same (omega (arith, leads.next_is)) near leads.held) (omega (arith, leads.next_is)) (omega (arith, leads.version_is)) stands spells;
  network = ap (after from) (flat-end behind commands) ∙ after_both from (flat_map (λ xs. xs) behind) commands ∙ ap (λ (o : Option Net). option_and_then (λ next. after next commands) o) leads.network ∙ goes;
  version_is = omega (arith, leads.version_is, ap length (flat-end behind commands), length-append (flat_map (λ xs. xs) behind) commands);
  next_is = omega (arith, leads.next_is, length-append behind (commands ∷ []));
}

-- ---- the laws

pub closed_page : ClosedPageMeansNothing
closed_page file file' s net v q old room outside closed =
    let same : SameBut (journal_page_at s.header q) (page file) (page file') = same_but (journal_page_at s.header q) file file' outside in
    let stands : is_standing (page file') s.header q ≡ false = rw closed refl in
    let is : Stores (length file) (page file') s =
    stores_same (length file) (page file) (page file') s old.stands.is room
    (subst (λ (k : ℕ). SameBut (journal_page_at s.header k) (page file) (page file')) old.stands.next_is same)
    (subst (λ (k : ℕ). is_standing (page file') s.header k ≡ false) old.stands.next_is stands) in
    record {
      stands = record { is = subst (λ (n : ℕ). Stores n (page file') s) (sym outside.same_length) is; gives = old.stands.gives; next_is = old.stands.next_is };
      tidy = later_closed (page file) (page file') s.header q same closed old.tidy;
    }

pub open_page : OpenPageIsOneMore
open_page file file' s net net' v q commands old room outside opened spells versions goes =
    let same : SameBut (journal_page_at s.header q) (page file) (page file') = same_but (journal_page_at s.header q) file file' outside in
    let first : first_field (page file' (journal_page_at s.header q)) ≡ q = (entry_read s.header.format (page file' (journal_page_at s.header q)) (record { sequence = q; first_number = v + 1; groups = commands }) spells).sequence in
    let stands : is_standing (page file') s.header q ≡ true = rw opened (this_one (first_field (page file' (journal_page_at s.header q))) q first) in
    let spells_next : SpelledEntry s.header.format (page file' (journal_page_at s.header (next_sequence s))) (record { sequence = next_sequence s; first_number = s.version + length (groups_of s) + 1; groups = commands }) =
    subst (λ (k : ℕ). SpelledEntry s.header.format (page file' (journal_page_at s.header k)) (record { sequence = k; first_number = s.version + length (groups_of s) + 1; groups = commands })) old.stands.next_is
    (subst (λ (n : ℕ). SpelledEntry s.header.format (page file' (journal_page_at s.header q)) (record { sequence = q; first_number = n + 1; groups = commands })) old.stands.gives.version_is spells) in
    let more : length (s.unchecked ++ commands ∷ []) ≡ length s.unchecked + 1 = length-append s.unchecked (commands ∷ []) in
    let is : Stores (length file) (page file') (with_groups s commands) =
    stores_more (length file) (page file) (page file') s commands old.stands.is room
    (subst (λ (k : ℕ). SameBut (journal_page_at s.header k) (page file) (page file')) old.stands.next_is same)
    (subst (λ (k : ℕ). is_standing (page file') s.header k ≡ true) old.stands.next_is stands)
    spells_next (omega (arith, versions, old.stands.gives.version_is))
    (subst (λ (k : ℕ). HasNoLaterPage (page file) s.header k) old.stands.next_is old.tidy) in
    record {
      stands = record {
        is = subst (λ (n : ℕ). Stores n (page file') (with_groups s commands)) (sym outside.same_length) is;
        gives = gives_more s net net' v commands old.stands.gives goes;
        next_is = omega (arith, old.stands.next_is, more);
      };
      tidy = later_written (page file) (page file') s.header q same first old.tidy;
    }
