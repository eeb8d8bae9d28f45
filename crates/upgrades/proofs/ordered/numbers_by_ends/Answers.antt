use Rattle.std.proofs.Common.{◌≡◌, ◌∙◌, ℕ, ◌+◌, ◌*◌, ◌++◌, ◌∷◌, List, [], length, ap, subst, arith, rules}
use Rattle.std.specs.List.{range_with_len}
use Rattle.std.specs.List.Sorted.{IsPermutation}
use Rattle.std.proofs.lemmas.List.Sorted.{IsNonDecreasingBy-from_sort_by_key}
use Rattle.upgrades.specs.Ordered.{pair_at}
use Rattle.upgrades.proofs.Sorting.{numbers_more}
use Rattle.upgrades.proofs.ordered.numbers_by_ends.Goals as goal

pub loop-place-init : goal.loop-place-init
loop-place-init c = record { numbers = c.in_ok-numbers.ensures.items }

pub loop-place-preserved : goal.loop-place-preserved
loop-place-preserved c =
    let pushed : c.push.new.self.items ≡ c.loop-place.numbers.items ++ (c.loop-place.place + 1) ∷ [] = search rules in
    record { numbers = pushed ∙ numbers_more c.loop-place.numbers.items c.loop-place.place c.loop-place.invariant.numbers }

pub returns-clause-sorted : goal.returns-clause-sorted
returns-clause-sorted c =
    let arcs = c.args.network.now.arcs in
    let last : c.loop-place.place ≡ length arcs = omega (arith, ap length c.arcs-count.ensures.value) in
    let all : IsPermutation (range_with_len 1 (length arcs)) c.sort_unstable_by_key.new.self.items =
    subst (λ (xs : List ℕ). IsPermutation xs c.sort_unstable_by_key.new.self.items) (c.loop-place.invariant.numbers ∙ ap (range_with_len 1) last) c.sort_unstable_by_key.ensures.permutation in
    record {
      all = all;
      ascending = IsNonDecreasingBy-from_sort_by_key (λ (k : ℕ). pair_at arcs k * 4294967296 + k) _ c.sort_unstable_by_key.ensures.sorted (λ a r q k. search rules);
    }
