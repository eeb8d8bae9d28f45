use Rattle.std.proofs.Common.{◌∙◌}
use Rattle.history.proofs.Beginnings.{prefix_self}
use Rattle.desk.proofs.readers.reader.Reader.new.Goals as goal

pub invariant_of-result : goal.invariant_of-result
invariant_of-result g c = (
  c.look.ensures.origin ∙ c.requires,
  record {
    seen = c.look.new.self.groups;
    begins = prefix_self c.look.new.self.groups;
    after_seen = rw (c.look.ensures.origin, c.new.ensures) (record {
      network = c.in_ok-view.ensures.network;
      version = c.in_ok-view.ensures.version;
    });
  },
)
