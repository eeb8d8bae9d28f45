-- Beginnings of a closed history that have all that was acknowledged and shown.
use Rattle.std.proofs.Common.{◌≡◌, ⊎_elim, ℕ, zero, suc, ◌+◌, ◌-◌, ◌≤◌, List, [], ◌∷◌, length, take, refl, ap, sym, ◌∙◌, subst, arith}
use Rattle.std.proofs.lemmas.List.{length-take-le}
use mathlib.Core.List.{IsPrefix}
use Rattle.roadnet.specs.declared.groups.Group.{Group}
use Rattle.roadnet.specs.Net.{Net}
use Rattle.roadnet.specs.Step.{after}
use Rattle.storefile.specs.StoreFile.{StandsTidyFor}
use Rattle.history.specs.Origins.{Origin, Beginning}
use Rattle.history.proofs.Beginnings.{take_prefix}
use Rattle.machine.specs.Machine.{Machine, IsState, latest}
use Rattle.published.specs.Showing.{Showing}
use Rattle.keeper.specs.Keeping.{IsDurableIn}
use Rattle.office.specs.Offices.{IsOffice}
use Rattle.office.specs.Left.{KeepsDesk}

-- of two beginnings by number the shorter begins the longer
pub take_longer : {A : Type 0} (i j : ℕ) (xs : List A) → i ≤ j → IsPrefix (take i xs) (take j xs)
take_longer zero j xs le = (take j xs, refl)
take_longer (suc i) zero xs le = absurd (omega arith)
take_longer (suc i) (suc j) [] le = ([], refl)
take_longer (suc i) (suc j) (x ∷ xs) le = let r = take_longer i j xs (omega arith) in (r.0, ap (λ ys. x ∷ ys) r.1)

-- what stands for what is durable stands for what was acknowledged and shown
pub keeps : (origin : Origin) (m : Machine) (w : ℕ) (h : Beginning) (p : Showing) → IsOffice origin m w h p → IsState m → (content : List ℕ) → IsDurableIn m content
    → KeepsDesk h p.shown m.sizes.journal_pages content
keeps origin m w h p o s content held =
    let some : m.durable ≤ held.version = ⊎_elim (λ e. omega arith) (λ e. omega arith) held.left in
    let all : held.version ≤ latest m = ⊎_elim (λ e. let a = s.durable_accepted in omega arith) (λ e. let a = s.durable_accepted in omega arith) held.left in
    let n = held.version - m.base_version in
    let kept = take n m.accepted in
    let long : length kept ≡ n = length-take-le n m.accepted (omega (arith, all)) in
    let base : h.origin.base ≡ m.base = ap (λ (x : Origin). x.base) o.history_origin ∙ sym o.base in
    let version : h.origin.version ≡ m.base_version = ap (λ (x : Origin). x.version) o.history_origin ∙ sym o.base_version in
    let from : m.base_version ≤ held.version = (let a = s.base_opened in let b = s.opened_shown in let d = s.shown_durable in omega arith) in
    let number : h.origin.version + length kept ≡ held.version = omega (arith, version, long, from) in
    record {
      kept = kept;
      keeps = record {
        begins = subst (λ (l : List Group). IsPrefix kept l) (sym o.history_groups) (take_prefix n m.accepted);
        acknowledged = let a = o.acknowledged in omega (arith, a, some, number);
        shown_too = subst (λ (l : List Group). IsPrefix l kept) (sym o.shown_groups) (take_longer (m.shown - m.base_version) n m.accepted (let d = s.shown_durable in omega (arith, d, some)));
      };
      checkpoint_pages = m.sizes.checkpoint_pages;
      network = held.network;
      network_is = ap (λ (b : Net). after b kept) base ∙ held.network_is;
      stands = subst (λ (v : ℕ). StandsTidyFor m.sizes.journal_pages m.sizes.checkpoint_pages content held.network v) (sym number) held.stands;
    }
