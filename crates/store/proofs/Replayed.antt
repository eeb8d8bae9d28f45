-- The journal's pages up to one of them.
use Rattle.std.proofs.Common.{◌≡◌, ⊎_elim, ℕ, zero, suc, ◌+◌, ◌-◌, ◌<◌, ◌≤◌, Bool, true, false, List, [], ◌∷◌, ◌++◌, length, Option, Some, None, Result, Ok, Err, refl, sym, ap, ◌∙◌, arith}
use Rattle.std.specs.Prelude.{nat_le, ◌==◌, ◌&&◌}
use Rattle.std.specs.List.{flat_map}
use Rattle.std.proofs.lemmas.List.{append_assoc, append-nil, length-append}
use Rattle.std.proofs.lemmas.Grind.{flat_map-append}
use Rattle.std.proofs.lemmas.Bool.{cases_lt}
use Rattle.roadnet.specs.declared.commands.Command.{Command}
use Rattle.roadnet.specs.declared.refusals.Refusal.{Refusal}
use Rattle.roadnet.specs.declared.refusals.Refusal.TheVariants.{Damaged}
use Rattle.roadnet.specs.Net.{Net}
use Rattle.roadnet.specs.Step.{after}
use Rattle.pages.specs.declared.header.Header.{Header}
use Rattle.pages.specs.declared.content.Format.{Format}
use Rattle.pages.specs.Contents.{Entry}
use Rattle.storefile.specs.StoreFile.{page, joined, is_open, first_field, is_standing, journal_page_at}
use Rattle.storefile.specs.Judging.{◌>>=◌, unless_so, spelled_at, entry_in, journal_from}
use Rattle.pages.specs.Limits.{most_versions}
use Rattle.store.specs.Opening.{entry_from, IsCarriedOut, AreCarriedOut}

-- these pages before those
abbrev with_pages : List (List (List Command)) → Result (List (List (List Command)) × Net) Refusal → Result (List (List (List Command)) × Net) Refusal
with_pages front (Ok x) = Ok (front ++ x.0, x.1)
with_pages front (Err d) = Err d

no_pages : (r : Result (List (List (List Command)) × Net) Refusal) → r ≡ with_pages [] r
no_pages (Ok x) = refl
no_pages (Err d) = refl

abbrev carried : List (List Command) → Net → Result (List (List Command) × Net) Refusal
carried commands net = Ok (commands, net)

abbrev and_rest : List (List Command) → List (List (List Command)) × Net → Result (List (List (List Command)) × Net) Refusal
and_rest commands rest = Ok (commands ∷ rest.0, rest.1)

page_before : (front : List (List (List Command))) (commands : List (List Command)) (r : Result (List (List (List Command)) × Net) Refusal)
    → with_pages front (r >>= and_rest commands) ≡ with_pages (front ++ commands ∷ []) r
page_before front commands (Ok x) = ap (λ (cs : List (List (List Command))). Ok (cs, x.1)) (sym (append_assoc front (commands ∷ []) x.0))
page_before front commands (Err d) = refl

admitted_steps : {Z : Type 0} (e : Entry) (next : Result Net Refusal) (goes_on : List (List Command) → Net → Result Z Refusal)
    → (next >>= λ n. goes_on e.groups n) ≡ ((next >>= λ n. carried e.groups n) >>= λ x. goes_on x.0 x.1)
admitted_steps e (Ok n) goes_on = refl
admitted_steps e (Err d) goes_on = refl

checked_steps : {Z : Type 0} (e : Entry) (a b : Result (Unit {0}) Refusal) (next : Result Net Refusal) (goes_on : List (List Command) → Net → Result Z Refusal)
    → (a >>= λ _. b >>= λ _. next >>= λ n. goes_on e.groups n) ≡ ((a >>= λ _. b >>= λ _. next >>= λ n. carried e.groups n) >>= λ x. goes_on x.0 x.1)
checked_steps e (Err d) b next goes_on = refl
checked_steps e (Ok u) (Err d) next goes_on = refl
checked_steps e (Ok u) (Ok w) next goes_on = admitted_steps e next goes_on

entry_steps : {Z : Type 0} (entry : Result Entry Refusal) (a b : Entry → Result (Unit {0}) Refusal) (next : Entry → Result Net Refusal) (goes_on : List (List Command) → Net → Result Z Refusal)
    → (entry >>= λ e. a e >>= λ _. b e >>= λ _. next e >>= λ n. goes_on e.groups n) ≡ ((entry >>= λ e. a e >>= λ _. b e >>= λ _. next e >>= λ n. carried e.groups n) >>= λ x. goes_on x.0 x.1)
entry_steps (Err d) a b next goes_on = refl
entry_steps (Ok e) a b next goes_on = checked_steps e (a e) (b e) (next e) goes_on

-- a page that stands, and then the rest
journal_step : (pages : ℕ → List ℕ) (h : Header) (most q v : ℕ) (net : Net) → is_standing pages h q ≡ true
    → journal_from pages h (suc most) q v net
    ≡ (entry_from h.format (journal_page_at h q) (pages (journal_page_at h q)) v net >>= λ x. journal_from pages h most (q + 1) (v + length x.0) x.1 >>= and_rest x.0)
journal_step pages h most q v net stands =
    rw stands
    (entry_steps (spelled_at (journal_page_at h q) (entry_in h.format (pages (journal_page_at h q)))) (λ e. unless_so (e.first_number == v + 1) (Damaged (journal_page_at h q)))
    (λ e. unless_so (nat_le (v + length e.groups) (most_versions)) (Damaged (journal_page_at h q))) (λ e. spelled_at (journal_page_at h q) (after net e.groups))
    (λ commands next. journal_from pages h most (q + 1) (v + length commands) next >>= and_rest commands))

-- said is what the first i pages from this sequence on hold, and then what the others hold; net and version are those after these pages
pub record PagesSoFar (said : Result (List (List (List Command)) × Net) Refusal) (pages : ℕ → List ℕ) (h : Header) (from first i version : ℕ) (net : Net) : Type 0 where
  pub groups : List (List (List Command))
  pub is : said ≡ with_pages groups (journal_from pages h (h.journal_pages - i) (from + i) version net)
  pub count_is : length groups ≡ i
  pub version_is : version ≡ first + length (joined groups)

pub pages_start : (pages : ℕ → List ℕ) (h : Header) (from first : ℕ) (net : Net) → PagesSoFar (journal_from pages h h.journal_pages from first net) pages h from first 0 first net
pages_start pages h from first net =
    let e : h.journal_pages ≡ h.journal_pages - 0 = omega arith in
    let f : from ≡ from + 0 = omega arith in
    record {
      groups = [];
      is = no_pages (journal_from pages h h.journal_pages from first net) ∙ ap (λ (m : ℕ). with_pages [] (journal_from pages h m from first net)) e ∙ ap (λ (q : ℕ). with_pages [] (journal_from pages h (h.journal_pages - 0) q first net)) f;
      count_is = refl;
      version_is = omega arith;
    }

next_page : (pages : ℕ → List ℕ) (h : Header) (from i version : ℕ) (net : Net) → i < h.journal_pages → is_standing pages h (from + i) ≡ true
    → journal_from pages h (h.journal_pages - i) (from + i) version net
    ≡ (entry_from h.format (journal_page_at h (from + i)) (pages (journal_page_at h (from + i))) version net >>= λ x. journal_from pages h (h.journal_pages - (i + 1)) (from + i + 1) (version + length x.0) x.1 >>= and_rest x.0)
next_page pages h from i version net lt stands =
    let e : h.journal_pages - i ≡ suc (h.journal_pages - (i + 1)) = omega arith in
    ap (λ (m : ℕ). journal_from pages h m (from + i) version net) e ∙ journal_step pages h (h.journal_pages - (i + 1)) (from + i) version net stands

pub pages_more : (said : Result (List (List (List Command)) × Net) Refusal) (pages : ℕ → List ℕ) (h : Header) (from first i old new : ℕ) (net next : Net) (bytes : List ℕ)
    → PagesSoFar said pages h from first i old net → i < h.journal_pages → is_standing pages h (from + i) ≡ true → bytes ≡ pages (journal_page_at h (from + i))
    → IsCarriedOut (entry_from h.format (journal_page_at h (from + i)) bytes old net) old next new → PagesSoFar said pages h from first (i + 1) new next
pages_more said pages h from first i old new net next bytes so_far lt stands at out =
    let entry : entry_from h.format (journal_page_at h (from + i)) (pages (journal_page_at h (from + i))) old net ≡ Ok (out.groups, next) =
    ap (λ (b : List ℕ). entry_from h.format (journal_page_at h (from + i)) b old net) (sym at) ∙ out.said_is in
    let q : from + i + 1 ≡ from + (i + 1) = omega arith in
    record {
      groups = so_far.groups ++ out.groups ∷ [];
      is = so_far.is
          ∙ ap (with_pages so_far.groups) (next_page pages h from i old net lt stands
          ∙ ap (λ (r : Result (List (List Command) × Net) Refusal). r >>= λ x. journal_from pages h (h.journal_pages - (i + 1)) (from + i + 1) (old + length x.0) x.1 >>= and_rest x.0) entry)
          ∙ page_before so_far.groups out.groups (journal_from pages h (h.journal_pages - (i + 1)) (from + i + 1) (old + length out.groups) next)
          ∙ ap (λ (v : ℕ). with_pages (so_far.groups ++ out.groups ∷ []) (journal_from pages h (h.journal_pages - (i + 1)) (from + i + 1) v next)) (sym out.version_is)
          ∙ ap (λ (s : ℕ). with_pages (so_far.groups ++ out.groups ∷ []) (journal_from pages h (h.journal_pages - (i + 1)) s new next)) q;
      count_is = omega (arith, length-append so_far.groups (out.groups ∷ []), so_far.count_is);
      version_is =
          let joined : flat_map (λ (cs : List (List Command)). cs) (so_far.groups ++ out.groups ∷ []) ≡ flat_map (λ cs. cs) so_far.groups ++ out.groups =
          flat_map-append (λ (cs : List (List Command)). cs) so_far.groups (out.groups ∷ []) ∙ ap (λ cs. flat_map (λ (xs : List (List Command)). xs) so_far.groups ++ cs) (append-nil out.groups) in
          omega (arith, ap length joined, length-append (flat_map (λ (cs : List (List Command)). cs) so_far.groups) out.groups, so_far.version_is, out.version_is);
    }

pub pages_stop : (said : Result (List (List (List Command)) × Net) Refusal) (pages : ℕ → List ℕ) (h : Header) (from first i version : ℕ) (net : Net) (refusal : Refusal)
    → PagesSoFar said pages h from first i version net → i < h.journal_pages → is_standing pages h (from + i) ≡ true
    → entry_from h.format (journal_page_at h (from + i)) (pages (journal_page_at h (from + i))) version net ≡ Err refusal → said ≡ Err refusal
pages_stop said pages h from first i version net refusal so_far lt stands told =
    so_far.is
    ∙ ap (with_pages so_far.groups) (next_page pages h from i version net lt stands
    ∙ ap (λ (r : Result (List (List Command) × Net) Refusal). r >>= λ x. journal_from pages h (h.journal_pages - (i + 1)) (from + i + 1) (version + length x.0) x.1 >>= and_rest x.0) told)

none_follows : (pages : ℕ → List ℕ) (h : Header) (most q v : ℕ) (net : Net) → is_standing pages h q ≡ false → journal_from pages h most q v net ≡ Ok ([], net)
none_follows pages h zero q v net closed = refl
none_follows pages h (suc most) q v net closed = rw closed refl

journal_end : (pages : ℕ → List ℕ) (h : Header) (q i v : ℕ) (net : Net) → i ≤ h.journal_pages → (i < h.journal_pages → is_standing pages h q ≡ false) → journal_from pages h (h.journal_pages - i) q v net ≡ Ok ([], net)
journal_end pages h q i v net few longest = ⊎_elim
    (λ lt. none_follows pages h (h.journal_pages - i) q v net (longest lt))
    (λ full. let e : h.journal_pages - i ≡ 0 = omega arith in ap (λ (m : ℕ). journal_from pages h m q v net) e)
    (cases_lt i h.journal_pages)

pub pages_done : (said : Result (List (List (List Command)) × Net) Refusal) (pages : ℕ → List ℕ) (h : Header) (from first i version : ℕ) (net : Net) → PagesSoFar said pages h from first i version net
    → i ≤ h.journal_pages → (i < h.journal_pages → is_standing pages h (from + i) ≡ false) → AreCarriedOut said i first net version
pages_done said pages h from first i version net so_far few longest = record {
  groups = so_far.groups;
  said_is = so_far.is ∙ ap (with_pages so_far.groups) (journal_end pages h (from + i) i version net few longest) ∙ ap (λ (cs : List (List (List Command))). Ok (cs, net)) (append-nil so_far.groups);
  count_is = so_far.count_is;
  version_is = so_far.version_is;
}

-- ---- one page

-- what was read of the page of a sequence, i places on, and whether it stands
pub page_read : (file now : List ℕ) (h : Header) (from i j number : ℕ) (bytes : List ℕ) → now ≡ file → j ≡ i → number ≡ journal_page_at h (from + j) → bytes ≡ page now number → bytes ≡ page file (journal_page_at h (from + i))
page_read file now h from i j number bytes same is place read =
    read ∙ ap (λ (f : List ℕ). page f number) same ∙ ap (page file) (place ∙ ap (λ (n : ℕ). journal_page_at h (from + n)) is)

pub stands_as_read : (pages : ℕ → List ℕ) (h : Header) (from i j : ℕ) (bytes : List ℕ) (answer : Bool) → j ≡ i → bytes ≡ pages (journal_page_at h (from + i)) → answer ≡ (is_open bytes && (first_field bytes == from + j))
    → is_standing pages h (from + i) ≡ answer
stands_as_read pages h from i j bytes answer is at told = sym (told ∙ ap (λ (n : ℕ). is_open bytes && (first_field bytes == from + n)) is ∙ ap (λ (b : List ℕ). is_open b && (first_field b == from + i)) at)

rest_of : (f : Format) (k : ℕ) (page : List ℕ) (v : ℕ) (net : Net) (found : Option Entry) → entry_in f page ≡ found
    → entry_from f k page v net ≡ (spelled_at k found >>= λ e. unless_so (e.first_number == v + 1) (Damaged k) >>= λ _. unless_so (nat_le (v + length e.groups) (most_versions)) (Damaged k) >>= λ _. spelled_at k (after net e.groups) >>= carried e.groups)
rest_of f k page v net found is =
    ap (λ (o : Option Entry). spelled_at k o >>= λ e. unless_so (e.first_number == v + 1) (Damaged k) >>= λ _. unless_so (nat_le (v + length e.groups) (most_versions)) (Damaged k) >>= λ _. spelled_at k (after net e.groups) >>= carried e.groups) is

pub no_entry : (f : Format) (k : ℕ) (page : List ℕ) (v : ℕ) (net : Net) → entry_in f page ≡ None → entry_from f k page v net ≡ Err (Damaged k)
no_entry f k page v net none = rest_of f k page v net None none

pub wrong_number : (f : Format) (k : ℕ) (page : List ℕ) (v : ℕ) (net : Net) (e : Entry) → entry_in f page ≡ Some e → (e.first_number == v + 1) ≡ false → entry_from f k page v net ≡ Err (Damaged k)
wrong_number f k page v net e is other =
    rest_of f k page v net (Some e) is ∙ ap (λ (b : Bool). unless_so b (Damaged k) >>= λ _. unless_so (nat_le (v + length e.groups) (most_versions)) (Damaged k) >>= λ _. spelled_at k (after net e.groups) >>= carried e.groups) other

pub past_last : (f : Format) (k : ℕ) (page : List ℕ) (v : ℕ) (net : Net) (e : Entry) → entry_in f page ≡ Some e → (e.first_number == v + 1) ≡ true → nat_le (v + length e.groups) (most_versions) ≡ false → entry_from f k page v net ≡ Err (Damaged k)
past_last f k page v net e is number past =
    rest_of f k page v net (Some e) is ∙ ap (λ (b : Bool). unless_so b (Damaged k) >>= λ _. unless_so (nat_le (v + length e.groups) (most_versions)) (Damaged k) >>= λ _. spelled_at k (after net e.groups) >>= carried e.groups) number
    ∙ ap (λ (b : Bool). unless_so b (Damaged k) >>= λ _. spelled_at k (after net e.groups) >>= carried e.groups) past

pub judged_so : (f : Format) (k : ℕ) (page : List ℕ) (v : ℕ) (net : Net) (e : Entry) (next : Option Net) → entry_in f page ≡ Some e → (e.first_number == v + 1) ≡ true → nat_le (v + length e.groups) (most_versions) ≡ true
    → after net e.groups ≡ next → entry_from f k page v net ≡ (spelled_at k next >>= carried e.groups)
judged_so f k page v net e next is number fits done =
    rest_of f k page v net (Some e) is ∙ ap (λ (b : Bool). unless_so b (Damaged k) >>= λ _. unless_so (nat_le (v + length e.groups) (most_versions)) (Damaged k) >>= λ _. spelled_at k (after net e.groups) >>= carried e.groups) number
    ∙ ap (λ (b : Bool). unless_so b (Damaged k) >>= λ _. spelled_at k (after net e.groups) >>= carried e.groups) fits
    ∙ ap (λ (o : Option Net). spelled_at k o >>= carried e.groups) done
