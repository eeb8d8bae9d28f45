use Rattle.std.proofs.Common.{◌≡◌, ◌∙◌, inl, ℕ, List, ◌++◌, Ok, length, take, drop, refl, ap, sym, arith}
use Rattle.std.specs.Prelude.{map}
use Rattle.std.proofs.lemmas.List.{take_at}
use Rattle.std.proofs.lemmas.Result.{err_from_is_err_and}
use Rattle.roadnet.specs.declared.arcs.RoadArc.{RoadArc}
use Rattle.roadnet.specs.Net.{Net}
use Rattle.pages.specs.Spelling.{ends_of, word_of}
use Rattle.storefile.specs.StoreFile.{page}
use Rattle.storefile.specs.Judging.{words_from, laid_from}
use Rattle.pagereader.proofs.Outcomes.{may_refuse_whole}
use Rattle.checkpoint.specs.Loading.{loaded_from, parts_from}
use Rattle.checkpoint.proofs.Loaded.{loaded_is, loaded_stop}
use Rattle.pagereader.proofs.Calls.{reads_then, reads_then_refuses}
use Rattle.checkpoint.proofs.slots.load.Goals as goal

pub add_blank-requires : goal.add_blank-requires
add_blank-requires g c = let a = c.in_ok-head.ensures.fits.arcs.0 in omega (arith, a, c.arcs.ensures, c.requires.count)

pub returns-in_err-read_parts-clause-refused : goal.returns-in_err-read_parts-clause-refused
returns-in_err-read_parts-clause-refused g c h =
    let p = err_from_is_err_and c.from_residual-in_err-read_parts.result c.from_residual-in_err-read_parts.ensures.1 in
    let there = c.in_ok-head.ensures.reads.same h in
    let count : length c.deref_mut.result.now ≡ c.in_ok-head.head.arcs = ap length c.deref_mut.ensures.value ∙ c.in-Ok.ensures.count ∙ c.arcs.ensures in
    rw (p.1, p.2) (may_refuse_whole (parts_from (page (g.D.Disk.content c.read_head.new.disk)) c.args.header.now c.args.slot (length c.deref_mut.result.now)) (loaded_from (page (g.D.Disk.content c.args.disk.now)) c.args.header.now c.args.slot (map ends_of c.args.arcs.items)) _
    (λ e. loaded_stop (page (g.D.Disk.content c.args.disk.now)) c.args.header.now c.args.slot (map ends_of c.args.arcs.items) c.in_ok-head.head _ (c.in_ok-head.ensures.spelled h)
    (ap (λ (file : List ℕ). parts_from (page file) c.args.header.now c.args.slot c.in_ok-head.head.arcs) (sym there.same_content)
    ∙ ap (parts_from (page (g.D.Disk.content c.read_head.new.disk)) c.args.header.now c.args.slot) (sym count) ∙ e))
    (c.in_err-read_parts.ensures.refused (c.in_ok-head.ensures.reads.honest.1 h)))

pub returns-in_err-read_parts-clause-reads : goal.returns-in_err-read_parts-clause-reads
returns-in_err-read_parts-clause-reads g c =
    let p = err_from_is_err_and c.from_residual-in_err-read_parts.result c.from_residual-in_err-read_parts.ensures.1 in
    rw (p.1, p.2) (reads_then_refuses g.D.Disk c.in_ok-head.head _ c.args.disk.now c.read_head.new.disk c.read_parts.new.disk c.in_ok-head.ensures.reads c.in_err-read_parts.ensures.reads)

pub returns-in_err-network-clause-reads : goal.returns-in_err-network-clause-reads
returns-in_err-network-clause-reads g c =
    let p = err_from_is_err_and c.from_residual-in_err-network.result c.from_residual-in_err-network.ensures.1 in
    let both = reads_then g.D.Disk c.in_ok-head.head _ c.args.disk.now c.read_head.new.disk c.read_parts.new.disk c.in_ok-head.ensures.reads c.in_ok-read_parts.ensures.reads in
    rw (p.1, p.2, c.in_err-network.ensures.refused) (record { causes = refl; same = both.same; counted = both.counted; honest = both.honest })

pub returns-clause-reads : goal.returns-clause-reads
returns-clause-reads g c =
    let both = reads_then g.D.Disk c.in_ok-head.head _ c.args.disk.now c.read_head.new.disk c.read_parts.new.disk c.in_ok-head.ensures.reads c.in_ok-read_parts.ensures.reads in
    record { causes = tt; same = both.same; counted = both.counted; honest = both.honest }

pub returns-in_err-network-clause-refused : goal.returns-in_err-network-clause-refused
returns-in_err-network-clause-refused g c h =
    let p = err_from_is_err_and c.from_residual-in_err-network.result c.from_residual-in_err-network.ensures.1 in
    rw (p.1, p.2) (inl c.in_err-network.ensures.refused)

pub returns-clause-loaded : goal.returns-clause-loaded
returns-clause-loaded g c h =
    let there = c.in_ok-head.ensures.reads.same h in
    let then_honest = c.in_ok-head.ensures.reads.honest.1 h in
    let head = c.in_ok-head.head in
    let arcs = c.read_parts.new.arcs in
    let count : length c.deref_mut.result.now ≡ c.in_ok-head.head.arcs = ap length c.deref_mut.ensures.value ∙ c.in-Ok.ensures.count ∙ c.arcs.ensures in
    let back : take c.add_blank.new.arcs.len (c.read_parts.new.arcs ++ drop (length c.read_parts.new.arcs) c.add_blank.new.arcs.items) ≡ c.read_parts.new.arcs =
    take_at c.read_parts.new.arcs (drop (length c.read_parts.new.arcs) c.add_blank.new.arcs.items) c.add_blank.new.arcs.len (omega arith) in
    let net : c.in_ok-network.network ≡ record { nodes = c.args.header.now.nodes; arcs = c.read_parts.new.arcs; landmarks = c.in_ok-head.head.landmarks; room = c.args.header.now.room } =
    c.in_ok-network.ensures.network ∙ ap (λ (xs : List RoadArc). record { nodes = c.args.header.now.nodes; arcs = xs; landmarks = c.in_ok-head.head.landmarks; room = c.args.header.now.room }) back in
    let words : words_from (page (g.D.Disk.content c.args.disk.now)) c.args.header.now c.args.slot c.in_ok-head.head.arcs ≡ Ok (map word_of c.read_parts.new.arcs) =
    ap (λ (f : List ℕ). words_from (page f) c.args.header.now c.args.slot c.in_ok-head.head.arcs) (sym there.same_content)
    ∙ ap (words_from (page (g.D.Disk.content c.read_head.new.disk)) c.args.header.now c.args.slot) (sym count) ∙ c.in_ok-read_parts.ensures.words then_honest in
    let laid : laid_from (page (g.D.Disk.content c.args.disk.now)) c.args.header.now c.args.slot c.in_ok-head.head.arcs ≡ Ok (map ends_of (drop c.args.header.now.arcs c.read_parts.new.arcs)) =
    ap (λ (f : List ℕ). laid_from (page f) c.args.header.now c.args.slot c.in_ok-head.head.arcs) (sym there.same_content)
    ∙ ap (laid_from (page (g.D.Disk.content c.read_head.new.disk)) c.args.header.now c.args.slot) (sym count) ∙ c.in_ok-read_parts.ensures.laid then_honest in
    let ends : map ends_of (take c.args.header.now.arcs c.read_parts.new.arcs) ≡ map ends_of c.args.arcs.items =
    c.in_ok-read_parts.ensures.first ∙ ap (λ (xs : List RoadArc). map ends_of (take c.args.header.now.arcs xs)) c.deref_mut.ensures.value
    ∙ ap (λ (n : ℕ). map ends_of (take n c.add_blank.new.arcs.items)) (sym c.requires.count) ∙ ap (map ends_of) c.in-Ok.ensures.first in
    loaded_is (page (g.D.Disk.content c.args.disk.now)) c.args.header.now c.args.slot (map ends_of c.args.arcs.items) c.in_ok-head.head
    c.read_parts.new.arcs c.in_ok-network.network (c.in_ok-head.ensures.spelled h) words laid ends net

pub returns-clause-count : goal.returns-clause-count
returns-clause-count g c =
    let count : length c.deref_mut.result.now ≡ c.in_ok-head.head.arcs = ap length c.deref_mut.ensures.value ∙ c.in-Ok.ensures.count ∙ c.arcs.ensures in
    let back : take c.add_blank.new.arcs.len (c.read_parts.new.arcs ++ drop (length c.read_parts.new.arcs) c.add_blank.new.arcs.items) ≡ c.read_parts.new.arcs =
    take_at c.read_parts.new.arcs (drop (length c.read_parts.new.arcs) c.add_blank.new.arcs.items) c.add_blank.new.arcs.len (omega arith) in
    ap (λ (n : Net). length n.arcs) c.in_ok-network.ensures.network ∙ ap length back ∙ c.read_parts.ensures.count ∙ count
