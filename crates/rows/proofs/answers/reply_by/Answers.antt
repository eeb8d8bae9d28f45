use Rattle.std.proofs.Common.{refl}
use Rattle.rows.specs.declared.queries.Query.TheVariants.{Dist}
use Rattle.rows.proofs.Answered.{not_refused, in_net}
use Rattle.rows.proofs.answers.reply_by.Goals as goal

pub returns-clause-right : goal.returns-clause-right
returns-clause-right g c =
    let net = c.args.network.now in
    let none = not_refused net net (Dist c.args.source c.args.target) c.refusal_of.result refl c.refusal_of.ensures.refusal c.in_default.is in
    in_net net c.args.source c.args.target c.args.version c.args.snapshot.now c.args.cache.now c.distance.result c.requires.groups c.requires.rows none c.distance.ensures.distance

pub returns-clause-kept : goal.returns-clause-kept
returns-clause-kept g c = c.distance.ensures.kept c.args.network.now c.requires.groups c.requires.rows
