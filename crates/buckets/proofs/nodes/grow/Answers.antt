use Rattle.std.proofs.Common.{◌+◌, ◌-◌, ◌≤◌, length, ap, ◌∙◌, arith, vec_len}
use Rattle.buckets.specs.Tables.{entries_of}
use Rattle.buckets.proofs.Tables.{entries_of-resized_values, entries_of-resized_places}
use Rattle.buckets.proofs.nodes.grow.Goals as goal

pub returns-in_err-resize-2-clause-same : goal.returns-in_err-resize-2-clause-same
returns-in_err-resize-2-clause-same c =
    let most : length c.args.values.now.items ≤ c.max.result = omega arith in
    ap (λ qs. entries_of c.resize.new.self.items qs) c.in_err-resize-2.ensures.items
    ∙ (ap (λ vs. entries_of vs c.args.queued.now.items) c.in_ok-resize.ensures.items
    ∙ entries_of-resized_values c.args.values.now.items c.args.queued.now.items c.max.result _ c.requires most)

pub returns-clause-same : goal.returns-clause-same
returns-clause-same c =
    let most : length c.args.values.now.items ≤ c.max.result = omega arith in
    let places : length c.args.queued.now.items ≤ c.max-2.result = omega arith in
    let long : length c.args.queued.now.items + (c.max-2.result - vec_len c.args.queued.now) ≤ length c.resize.new.self.items = omega (arith, c.resize.new.self.ok, c.args.queued.now.ok, c.in_ok-resize.ensures.len) in
    ap (λ qs. entries_of c.resize.new.self.items qs) c.in_ok-resize-2.ensures.items
    ∙ (entries_of-resized_places c.resize.new.self.items c.args.queued.now.items c.max-2.result _ long places
    ∙ (ap (λ vs. entries_of vs c.args.queued.now.items) c.in_ok-resize.ensures.items
    ∙ entries_of-resized_values c.args.values.now.items c.args.queued.now.items c.max.result _ c.requires most))
