use Rattle.storefile.proofs.Rests.{stored_as}
use Rattle.store.proofs.stores.standing.inspect.Goals as goal

pub returns-clause-stands : goal.returns-clause-stands
returns-clause-stands g c honest =
    let f = c.in_ok-found.found in (
      f.network,
      record {
        header = f.header;
        next = f.next_sequence;
        stored = stored_as (g.D.Disk.content c.args.disk.now) (record { header = f.header; slot = f.slot; epoch = f.epoch; network = f.network; version = f.version; next = f.next_sequence; unchecked = f.unchecked }) (c.in_ok-found.ensures.standing honest);
      },
    )
