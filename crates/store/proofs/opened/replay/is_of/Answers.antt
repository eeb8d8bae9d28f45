use Rattle.std.proofs.Common.{◌≡◌, ℕ, Bool, true, false, cond, Some, None, refl, ap, sym}
use Rattle.std.specs.Prelude.{◌&&◌, ◌==◌}
use Rattle.storefile.specs.StoreFile.{is_open, first_field}
use Rattle.store.proofs.opened.replay.is_of.Goals as goal

open_at : (b : Bool) (n f q : ℕ) → cond b (Some n) None ≡ Some f → (b && (n == q)) ≡ (f == q)
open_at true n f q e = let same : n ≡ f = cc in ap (λ (m : ℕ). m == q) same
open_at false n f q e = absurd cc

closed_at : (b : Bool) (n q : ℕ) → cond b (Some n) None ≡ None → (b && (n == q)) ≡ false
closed_at true n q e = absurd cc
closed_at false n q e = refl

pub returns-in-Some : goal.returns-in-Some
returns-in-Some c = sym (open_at (is_open c.args.page.now) (first_field c.args.page.now) c.in-Some.found c.args.sequence (sym c.in-Some.ensures))

pub returns-in-None : goal.returns-in-None
returns-in-None c = sym (closed_at (is_open c.args.page.now) (first_field c.args.page.now) c.args.sequence (sym c.in-None.ensures))
