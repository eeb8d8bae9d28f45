use Rattle.std.proofs.Common.{◌≡◌, ◌≤◌, ◌<◌, ◌+◌, ℕ, List, nat_lt, cond, length, length-set, get_or, set, sym, ap, subst, ◌∙◌, arith}
use Rattle.std.proofs.lemmas.List.{get_or-map}
use Rattle.std.proofs.lemmas.List.Filters.{FiltersInPlace, FiltersInPlace-all}
use Rattle.deltastep.proofs.Sifted.{FiltersInPlace-step, bool_byte_is, one_at_most, read_first}
use Rattle.deltastep.proofs.searches.sifting.compact.Goals as goal

pub loop-place-preserved : goal.loop-place-preserved
loop-place-preserved c =
    let xs = c.args.requests.now.items in
    let ys = c.loop-place.requests.items in
    let i = c.loop-place.place in
    let k = c.loop-place.kept in
    let x = c.index-request.result.now in
    let known = c.args.known.now in
    let long : length c.loop-place.requests.items ≡ length c.args.requests.now.items = c.loop-place.invariant.long in
    let lt : c.loop-place.place < length c.args.requests.now.items = omega arith in
    let here : c.loop-place.place < length c.loop-place.requests.items = omega arith in
    let counted : c.from-kept.result ≡ cond (nat_lt c.index-request.result.now.1 (get_or known i 0)) 1 0 = c.from-kept.ensures ∙ bool_byte_is (nat_lt c.index-request.result.now.1 (get_or known i 0)) in
    record {
      kept = λ f is.
          let so_far = c.loop-place.invariant.kept f is in
          let first : x ≡ get_or xs i x = c.index-request.ensures ∙ read_first (λ (r : ℕ × ℕ). nat_lt r.1 (f r.0)) xs ys k i x so_far in
          let told : get_or known i 0 ≡ f x.0 = ap (λ (l : List ℕ). get_or l i 0) is ∙ (get_or-map (λ (r : ℕ × ℕ). f r.0) xs i x 0 lt ∙ ap (λ (r : ℕ × ℕ). f r.0) (sym first)) in
          let step = FiltersInPlace-step (λ (r : ℕ × ℕ). nat_lt r.1 (f r.0)) xs ys k i x (nat_lt x.1 (get_or known i 0)) so_far here (ap (λ n. nat_lt x.1 n) (sym told)) c.index-request.ensures in
          subst (λ n. FiltersInPlace (λ (r : ℕ × ℕ). nat_lt r.1 (f r.0)) xs (set ys k x) (k + n) (i + 1)) (sym counted) step;
      few =
          let one : c.from-kept.result ≤ 1 = subst (λ n. n ≤ 1) (sym counted) (one_at_most (nat_lt x.1 (get_or known i 0))) in
          omega (arith, one, c.loop-place.invariant.few);
      long = length-set ys k x ∙ c.loop-place.invariant.long;
    }

pub returns-clause-kept : goal.returns-clause-kept
returns-clause-kept c f is = FiltersInPlace-all (c.loop-place.invariant.kept f is) (let long : length c.loop-place.requests.items ≡ length c.args.requests.now.items = c.loop-place.invariant.long in omega arith)
