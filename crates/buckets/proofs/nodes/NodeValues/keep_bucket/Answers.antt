use Rattle.std.proofs.Common.{◌≡◌, rules, filter}
use Rattle.std.specs.FinMap.{get}
use Rattle.std.proofs.lemmas.Fn.{filter_same}
use Rattle.std.proofs.lemmas.List.Filters.{dedup_is}
use Rattle.buckets.specs.Queue.{is_in_bucket}
use Rattle.buckets.proofs.Taken.{bucket_from_list}
use Rattle.buckets.proofs.nodes.NodeValues.keep_bucket.Goals as goal

pub returns : goal.returns
returns c =
    let filtered : c.retain.new.self.items ≡ filter (λ node. is_in_bucket c.args.delta c.args.number (get c.args.self.now node)) c.args.nodes.now.items = filter_same _ (λ node. is_in_bucket c.args.delta c.args.number (get c.args.self.now node)) _ (λ x b f k. search rules) _ _ c.retain.ensures.filtered in
    bucket_from_list c.args.delta c.args.number c.args.self.now c.args.nodes.now.items c.retain.new.self.items c.sort_unstable.new.self.items c.dedup.new.self.items c.requires.all filtered c.sort_unstable.ensures.permutation c.sort_unstable.ensures.sorted (dedup_is _ _ _ c.dedup.ensures.filtered)
