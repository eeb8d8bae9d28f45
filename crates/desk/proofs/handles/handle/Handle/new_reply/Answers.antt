use Rattle.std.proofs.Common.{subst}
use Rattle.roadnet.specs.Walks.{RowOf}
use Rattle.rows.specs.Views.{Viewed}
use Rattle.desk.proofs.handles.handle.Handle.new_reply.Goals as goal

pub returns : goal.returns
returns g c node =
    let row : RowOf c.args.glance.now.view.network c.args.source c.in_ok-row.row = subst (λ (v : Viewed). RowOf v.network c.args.source c.in_ok-row.row) c.asker.ensures c.in_ok-row.ensures in
    c.distance_in-reply.ensures c.args.glance.now.view.network c.args.source node row
