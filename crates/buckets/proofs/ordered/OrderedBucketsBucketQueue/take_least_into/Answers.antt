use Rattle.std.proofs.Common.{◌≡◌, ◌∙◌, ◌==◌, inl, inr, true, false, sym, ap, length, vec_len, arith, eqb-true, is_some}
use Rattle.std.proofs.lemmas.Bool.{cases_lt}
use Rattle.buckets.specs.Tables.{without}
use Rattle.buckets.proofs.Listed.{in_list, AreListed-taken, AreListed-passed, TakesLeast-taken, empty_from_no_lists}
use Rattle.buckets.proofs.ordered.OrderedBucketsBucketQueue.take_least_into.Goals as goal

pub keep_bucket-requires-clause-all : goal.keep_bucket-requires-clause-all
keep_bucket-requires-clause-all c = in_list c.loop-bucket.self.delta c.loop-bucket.self.lists c.loop-bucket.self.nodes c.in-Some.bucket c.in-Some.list c.loop-bucket.self.listed c.in-Some.ensures.value

pub invariant_of-self-clause-listed : goal.invariant_of-self-clause-listed
invariant_of-self-clause-listed c =
    let rest : c.remove_all.new.self ≡ without c.keep_bucket.new.nodes.items c.loop-bucket.self.nodes = c.remove_all.ensures ∙ ap (λ ks. without ks c.loop-bucket.self.nodes) c.deref.ensures.value in
    AreListed-taken c.loop-bucket.self.delta c.loop-bucket.self.lists c.pop_first.new.self c.loop-bucket.self.nodes c.remove_all.new.self c.in-Some.bucket c.keep_bucket.new.nodes.items c.loop-bucket.self.listed c.in-Some.ensures.updates.2 c.keep_bucket.ensures rest

pub returns-then-not-is_empty-clause-taken : goal.returns-then-not-is_empty-clause-taken
returns-then-not-is_empty-clause-taken c =
    let rest : c.remove_all.new.self ≡ without c.keep_bucket.new.nodes.items c.loop-bucket.self.nodes = c.remove_all.ensures ∙ ap (λ ks. without ks c.loop-bucket.self.nodes) c.deref.ensures.value in
    let some : (length c.keep_bucket.new.nodes.items == 0) ≡ false = ap (λ n. n == 0) (sym c.keep_bucket.new.nodes.ok.0) ∙ (sym c.is_empty.ensures ∙ c.if-not-is_empty.true) in
    rw (← c.loop-bucket.invariant.delta, ← c.loop-bucket.invariant.same) (TakesLeast-taken c.loop-bucket.self.delta c.loop-bucket.self.lists c.loop-bucket.self.nodes c.remove_all.new.self c.in-Some.bucket c.keep_bucket.new.nodes.items c.loop-bucket.self.listed c.in-Some.ensures.least c.keep_bucket.ensures rest some)

pub invariant_of-self-else-not-is_empty-clause-listed : goal.invariant_of-self-else-not-is_empty-clause-listed
invariant_of-self-else-not-is_empty-clause-listed c =
    let none : length c.keep_bucket.new.nodes.items ≡ 0 = sym c.keep_bucket.new.nodes.ok.0 ∙ eqb-true (vec_len c.keep_bucket.new.nodes) 0 (sym c.is_empty.ensures ∙ c.if-not-is_empty.false) in
    AreListed-passed c.loop-bucket.self.delta c.loop-bucket.self.lists c.pop_first.new.self c.loop-bucket.self.nodes c.in-Some.bucket c.keep_bucket.new.nodes.items c.loop-bucket.self.listed c.in-Some.ensures.updates.2 c.keep_bucket.ensures none

pub returns-clause-taken : goal.returns-clause-taken
returns-clause-taken c =
    let none : length c.loop-bucket.self.lists.entries ≡ 0 =
    elim (cases_lt 0 (length c.loop-bucket.self.lists.entries)) as (λ _. length c.loop-bucket.self.lists.entries ≡ 0) [
      | inl some ↦
          let wrong : false ≡ true = sym (ap is_some c.in_default.is) ∙ c.pop_first.ensures.variant.1 some in
          absurd (let absurdity : ⊥ = cc in absurdity)
      | inr le ↦ omega arith
    ] in
    sym c.loop-bucket.invariant.same ∙ empty_from_no_lists c.loop-bucket.self.delta c.loop-bucket.self.lists c.loop-bucket.self.nodes c.loop-bucket.self.listed none
