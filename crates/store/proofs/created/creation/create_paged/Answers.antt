use Rattle.std.proofs.Common.{◌≡◌, ◌∙◌, Some, length, refl, ap, sym, subst, arith}
use Rattle.roadnet.specs.Net.{Net}
use Rattle.pages.specs.declared.header.Header.{Header}
use Rattle.pages.specs.declared.content.Format.TheVariants.{Two}
use Rattle.pages.specs.declared.content.Slot.TheVariants.{A}
use Rattle.pages.specs.Layout.{slot_pages}
use Rattle.pages.specs.Spelling.{IsHeader}
use Rattle.storefile.specs.StoreFile.{StandsTidyFor}
use Rattle.storefile.specs.Standing.{standing_of}
use Rattle.store.specs.Created.{IsNewFile}
use Rattle.store.specs.State.{checkpoint_pages_of}
use Rattle.store.proofs.NewStore.{created, same_header, sizes_fit, new_numbers}
use Rattle.store.proofs.Resting.{size_told}
use Rattle.store.proofs.created.creation.create_paged.Goals as goal

pub invariant_of-result : goal.invariant_of-result
invariant_of-result g c =
    let net : Net = c.in-Ok-copy.copy in
    let is = same_header net c.args.journal_pages c.nodes.result c.room.result c.arcs.result.now c.nodes.ensures.value c.arcs.ensures.value c.room.ensures.value in
    let fits = sizes_fit net c.args.journal_pages c.nodes.ensures.network c.requires.some c.requires.few in
    record {
      numbers = new_numbers (record { format = Two; nodes = c.nodes.result; arcs = length c.arcs.result.now; room = c.room.result; journal_pages = c.args.journal_pages }) c.args.version (subst (λ (x : Header). IsHeader x) (sym is) fits) c.requires.versions;
      today = refl;
      arcs_from = omega (arith, ap length c.arcs.ensures.value);
      rests = λ works honest.
          let laid = c.open_gates.ensures.counts.honest.0 honest in
          let begun = c.lay_out.ensures.counts.honest.0 laid in
          let made = created (g.D.Disk.content c.open_gates.new.disk) (g.D.Disk.content c.lay_out.new.disk) (record { format = Two; nodes = c.nodes.result; arcs = length c.arcs.result.now; room = c.room.result; journal_pages = c.args.journal_pages }) net c.args.version c.args.journal_pages c.requires.versions
          c.nodes.ensures.network fits is (c.in-Ok-lay_out.ensures.laid_out begun) (c.in-Ok-open_gates.ensures.opened laid) in
          (c.in-Ok-open_gates.ensures.at_rest laid, size_told (g.D.Disk.content c.open_gates.new.disk) _ made.standing_is);
      fits = tt;
      goes_on = λ works honest. ∣ tt ∣₁;
    }

pub returns-clause-checkpoint_pages : goal.returns-clause-checkpoint_pages
returns-clause-checkpoint_pages g c =
    let is = same_header c.in-Ok-copy.copy c.args.journal_pages c.nodes.result c.room.result c.arcs.result.now c.nodes.ensures.value c.arcs.ensures.value c.room.ensures.value in
    ap slot_pages is ∙ ap (λ (n : Net). checkpoint_pages_of (length n.arcs) n) c.in-Ok-copy.ensures.same

pub returns-clause-stands : goal.returns-clause-stands
returns-clause-stands g c = λ h.
    let net : Net = c.in-Ok-copy.copy in
    let is = same_header net c.args.journal_pages c.nodes.result c.room.result c.arcs.result.now c.nodes.ensures.value c.arcs.ensures.value c.room.ensures.value in
    let fits = sizes_fit net c.args.journal_pages c.nodes.ensures.network c.requires.some c.requires.few in
    let begun = c.length_of.ensures.reads.honest.1 h in
    let laid = c.lay_out.ensures.counts.honest.1 begun in
    let made = created (g.D.Disk.content c.open_gates.new.disk) (g.D.Disk.content c.lay_out.new.disk) (record { format = Two; nodes = c.nodes.result; arcs = length c.arcs.result.now; room = c.room.result; journal_pages = c.args.journal_pages }) net c.args.version c.args.journal_pages c.requires.versions
    c.nodes.ensures.network fits is (c.in-Ok-lay_out.ensures.laid_out begun) (c.in-Ok-open_gates.ensures.opened laid) in
    let sized = subst (λ (x : Header). StandsTidyFor x.journal_pages (slot_pages x) (g.D.Disk.content c.open_gates.new.disk) net c.args.version) is made.stands in
    subst (λ (n : Net). StandsTidyFor c.args.journal_pages (checkpoint_pages_of (length n.arcs) n) (g.D.Disk.content c.open_gates.new.disk) n c.args.version) c.in-Ok-copy.ensures.same sized

pub returns-clause-only : goal.returns-clause-only
returns-clause-only g c = λ h. c.in-Ok-open_gates.ensures.at_rest (c.lay_out.ensures.counts.honest.1 (c.length_of.ensures.reads.honest.1 h))

pub returns-clause-tidy : goal.returns-clause-tidy
returns-clause-tidy g c = λ h.
    let net : Net = c.in-Ok-copy.copy in
    let is = same_header net c.args.journal_pages c.nodes.result c.room.result c.arcs.result.now c.nodes.ensures.value c.arcs.ensures.value c.room.ensures.value in
    let fits = sizes_fit net c.args.journal_pages c.nodes.ensures.network c.requires.some c.requires.few in
    let begun = c.length_of.ensures.reads.honest.1 h in
    let laid = c.lay_out.ensures.counts.honest.1 begun in
    let made = created (g.D.Disk.content c.open_gates.new.disk) (g.D.Disk.content c.lay_out.new.disk) (record { format = Two; nodes = c.nodes.result; arcs = length c.arcs.result.now; room = c.room.result; journal_pages = c.args.journal_pages }) net c.args.version c.args.journal_pages c.requires.versions
    c.nodes.ensures.network fits is (c.in-Ok-lay_out.ensures.laid_out begun) (c.in-Ok-open_gates.ensures.opened laid) in
    made.tidy_at

pub returns-clause-standing : goal.returns-clause-standing
returns-clause-standing g c = λ h.
    let net : Net = c.in-Ok-copy.copy in
    let is = same_header net c.args.journal_pages c.nodes.result c.room.result c.arcs.result.now c.nodes.ensures.value c.arcs.ensures.value c.room.ensures.value in
    let fits = sizes_fit net c.args.journal_pages c.nodes.ensures.network c.requires.some c.requires.few in
    let begun = c.length_of.ensures.reads.honest.1 h in
    let laid = c.lay_out.ensures.counts.honest.1 begun in
    let made = created (g.D.Disk.content c.open_gates.new.disk) (g.D.Disk.content c.lay_out.new.disk) (record { format = Two; nodes = c.nodes.result; arcs = length c.arcs.result.now; room = c.room.result; journal_pages = c.args.journal_pages }) net c.args.version c.args.journal_pages c.requires.versions
    c.nodes.ensures.network fits is (c.in-Ok-lay_out.ensures.laid_out begun) (c.in-Ok-open_gates.ensures.opened laid) in
    made.standing_is

pub returns-clause-made : goal.returns-clause-made
returns-clause-made g c = λ h.
    let net : Net = c.in-Ok-copy.copy in
    let is = same_header net c.args.journal_pages c.nodes.result c.room.result c.arcs.result.now c.nodes.ensures.value c.arcs.ensures.value c.room.ensures.value in
    let fits = sizes_fit net c.args.journal_pages c.nodes.ensures.network c.requires.some c.requires.few in
    let begun = c.length_of.ensures.reads.honest.1 h in
    let laid = c.lay_out.ensures.counts.honest.1 begun in
    let content = g.D.Disk.content c.open_gates.new.disk in
    let made = created content (g.D.Disk.content c.lay_out.new.disk) (record { format = Two; nodes = c.nodes.result; arcs = length c.arcs.result.now; room = c.room.result; journal_pages = c.args.journal_pages }) net c.args.version c.args.journal_pages c.requires.versions
    c.nodes.ensures.network fits is (c.in-Ok-lay_out.ensures.laid_out begun) (c.in-Ok-open_gates.ensures.opened laid) in
    let same = subst (λ (x : Header). standing_of content ≡ Some (record { header = x; slot = A; epoch = 1; network = net; version = c.args.version; next = 0; unchecked = 0 })) is made.standing_is in
    subst (λ (n : Net). IsNewFile c.args.journal_pages n c.args.version content) c.in-Ok-copy.ensures.same same
