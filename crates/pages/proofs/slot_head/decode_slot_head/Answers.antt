use Rattle.std.proofs.Common.{◌≡◌, ℕ, List, true, drop, length, arith, refl, ap, sym, subst, ◌∙◌}
use Rattle.std.specs.Prelude.{IsTrue, nat_le, ◌&&◌}
use Rattle.std.specs.List.{list_all}
use Rattle.std.specs.List.Sorted.{IsStrictlyIncreasing}
use Rattle.std.proofs.lemmas.Slice.{between_to_end}
use Rattle.byteorder.specs.Endian.{big_number}
use Rattle.pages.specs.Contents.{Head}
use Rattle.pages.specs.Spelling.{body, head_page}
use Rattle.pages.specs.Reading.{read_items}
use Rattle.pages.proofs.Items.{length-read}
use Rattle.pages.proofs.Heads.{found_fit, found_arcs, found_landmarks, found_is, found_head, nodes_are}
use Rattle.pages.proofs.slot_head.decode_slot_head.Goals as goal

pub returns-then-not-are_fit : goal.returns-then-not-are_fit
returns-then-not-are_fit c = λ s spells.
    let fit = found_fit c.args.header.now c.args.page.now c.read_u64-epoch.result c.read_u64-version.result c.read_u64-next_sequence.result c.read_u32-count.result _ s c.requires (record {
      epoch_is = c.read_u64-epoch.ensures;
      version_is = c.read_u64-version.ensures ∙ ap (big_number 8) (between_to_end c.args.page.now 8 4096 (omega arith));
      sequence_is = c.read_u64-next_sequence.ensures ∙ ap (big_number 8) (between_to_end c.args.page.now 16 4096 (omega arith));
      count_is = c.read_u32-count.ensures ∙ ap (big_number 4) (between_to_end c.args.page.now 24 4096 (omega arith));
      arcs_is = refl;
    }) spells in
    let told : IsTrue c.are_fit.result = c.are_fit.ensures.1 fit in
    absurd (cc (told, c.if-not-are_fit.true))

pub returns-then-not-are_arcs : goal.returns-then-not-are_arcs
returns-then-not-are_arcs c = λ s spells.
    let fit = found_arcs c.args.header.now c.args.page.now c.read_u64-epoch.result c.read_u64-version.result c.read_u64-next_sequence.result c.read_u32-count.result c.read_arcs-arcs.result s c.requires (record {
      epoch_is = c.read_u64-epoch.ensures;
      version_is = c.read_u64-version.ensures ∙ ap (big_number 8) (between_to_end c.args.page.now 8 4096 (omega arith));
      sequence_is = c.read_u64-next_sequence.ensures ∙ ap (big_number 8) (between_to_end c.args.page.now 16 4096 (omega arith));
      count_is = c.read_u32-count.ensures ∙ ap (big_number 4) (between_to_end c.args.page.now 24 4096 (omega arith));
      arcs_is = c.read_arcs-arcs.ensures;
    }) spells in
    let told : IsTrue c.are_arcs.result = c.are_arcs.ensures.1 fit in
    absurd (cc (told, c.if-not-are_arcs.true))

pub returns-then-not-is_ascending : goal.returns-then-not-is_ascending
returns-then-not-is_ascending c = λ s spells.
    let is = found_landmarks c.args.header.now c.args.page.now c.read_u64-epoch.result c.read_u64-version.result c.read_u64-next_sequence.result c.read_u32-count.result c.read_arcs-arcs.result c.in_ok-landmarks.landmarks.items s c.requires (record {
      epoch_is = c.read_u64-epoch.ensures;
      version_is = c.read_u64-version.ensures ∙ ap (big_number 8) (between_to_end c.args.page.now 8 4096 (omega arith));
      sequence_is = c.read_u64-next_sequence.ensures ∙ ap (big_number 8) (between_to_end c.args.page.now 16 4096 (omega arith));
      count_is = c.read_u32-count.ensures ∙ ap (big_number 4) (between_to_end c.args.page.now 24 4096 (omega arith));
      arcs_is = c.read_arcs-arcs.ensures;
    }) (c.in_ok-landmarks.ensures ∙ ap (read_items (big_number 4) 4 c.read_u32-count.result) (between_to_end c.args.page.now c.landmarks_at-from.result 4096 (omega arith) ∙ ap (λ (n : ℕ). drop n c.args.page.now) c.landmarks_at-from.ensures.place)) spells in
    let told : IsTrue c.is_ascending.result = c.is_ascending.ensures.1 (subst IsStrictlyIncreasing (sym (c.deref.ensures.value ∙ is)) spells.fits.ascending) in
    absurd (cc (told, c.if-not-is_ascending.true))

pub returns-then-not-are_nodes : goal.returns-then-not-are_nodes
returns-then-not-are_nodes c = λ s spells.
    let is = found_landmarks c.args.header.now c.args.page.now c.read_u64-epoch.result c.read_u64-version.result c.read_u64-next_sequence.result c.read_u32-count.result c.read_arcs-arcs.result c.in_ok-landmarks.landmarks.items s c.requires (record {
      epoch_is = c.read_u64-epoch.ensures;
      version_is = c.read_u64-version.ensures ∙ ap (big_number 8) (between_to_end c.args.page.now 8 4096 (omega arith));
      sequence_is = c.read_u64-next_sequence.ensures ∙ ap (big_number 8) (between_to_end c.args.page.now 16 4096 (omega arith));
      count_is = c.read_u32-count.ensures ∙ ap (big_number 4) (between_to_end c.args.page.now 24 4096 (omega arith));
      arcs_is = c.read_arcs-arcs.ensures;
    }) (c.in_ok-landmarks.ensures ∙ ap (read_items (big_number 4) 4 c.read_u32-count.result) (between_to_end c.args.page.now c.landmarks_at-from.result 4096 (omega arith) ∙ ap (λ (n : ℕ). drop n c.args.page.now) c.landmarks_at-from.ensures.place)) spells in
    let told : c.are_nodes.result ≡ true = c.are_nodes.ensures ∙ ap (list_all (λ (x : ℕ). nat_le 1 x && nat_le x c.args.header.now.nodes)) (c.deref-2.ensures.value ∙ is) ∙ nodes_are c.args.header.now.nodes s.landmarks spells.fits.each in
    absurd (cc (told, c.if-not-are_nodes.true))

pub is_head_page-requires : goal.is_head_page-requires
is_head_page-requires c =
    let told : IsTrue c.are_fit.result = cc (c.if-not-are_fit.false) in
    let count : length c.deref-3.result.now ≡ c.read_u32-count.result = ap length (c.deref-3.ensures.value ∙ c.in_ok-landmarks.ensures) ∙ length-read (big_number 4) 4 c.read_u32-count.result _ in
    omega (arith, count, (c.are_fit.ensures.0 told).count_to)

pub returns-then-not-is_head_page : goal.returns-then-not-is_head_page
returns-then-not-is_head_page c = λ s spells.
    let is = found_is c.args.header.now c.args.page.now c.read_u64-epoch.result c.read_u64-version.result c.read_u64-next_sequence.result c.read_u32-count.result c.read_arcs-arcs.result c.in_ok-landmarks.landmarks.items s c.requires (record {
      epoch_is = c.read_u64-epoch.ensures;
      version_is = c.read_u64-version.ensures ∙ ap (big_number 8) (between_to_end c.args.page.now 8 4096 (omega arith));
      sequence_is = c.read_u64-next_sequence.ensures ∙ ap (big_number 8) (between_to_end c.args.page.now 16 4096 (omega arith));
      count_is = c.read_u32-count.ensures ∙ ap (big_number 4) (between_to_end c.args.page.now 24 4096 (omega arith));
      arcs_is = c.read_arcs-arcs.ensures;
    }) (c.in_ok-landmarks.ensures ∙ ap (read_items (big_number 4) 4 c.read_u32-count.result) (between_to_end c.args.page.now c.landmarks_at-from.result 4096 (omega arith) ∙ ap (λ (n : ℕ). drop n c.args.page.now) c.landmarks_at-from.ensures.place)) spells in
    let told : IsTrue c.is_head_page.result = c.is_head_page.ensures.1 (spells.spelled ∙ ap (λ (x : Head). body (head_page c.args.header.now.format x)) (sym is)
    ∙ ap (λ (xs : List ℕ). body (head_page c.args.header.now.format (record { epoch = c.read_u64-epoch.result; version = c.read_u64-version.result; next_sequence = c.read_u64-next_sequence.result; arcs = c.read_arcs-arcs.result; landmarks = xs }))) (sym c.deref-3.ensures.value)) in
    absurd (cc (told, c.if-not-is_head_page.true))

pub returns : goal.returns
returns c =
    let fit : IsTrue c.are_fit.result = cc (c.if-not-are_fit.false) in
    let arcs : IsTrue c.are_arcs.result = cc (c.if-not-are_arcs.false) in
    let ascends : IsTrue c.is_ascending.result = cc (c.if-not-is_ascending.false) in
    let nodes : c.are_nodes.result ≡ true = cc (c.if-not-are_nodes.false) in
    let same : IsTrue c.is_head_page.result = cc (c.if-not-is_head_page.false) in
    record {
      fits = found_head c.args.header.now c.read_u64-epoch.result c.read_u64-version.result c.read_u64-next_sequence.result c.read_u32-count.result c.read_arcs-arcs.result c.in_ok-landmarks.landmarks.items _ (c.are_fit.ensures.0 fit) (c.are_arcs.ensures.0 arcs) c.in_ok-landmarks.ensures
          (subst IsStrictlyIncreasing c.deref.ensures.value (c.is_ascending.ensures.0 ascends))
          (ap (list_all (λ (x : ℕ). nat_le 1 x && nat_le x c.args.header.now.nodes)) (sym c.deref-2.ensures.value) ∙ sym c.are_nodes.ensures ∙ nodes);
      spelled = c.is_head_page.ensures.0 same ∙ ap (λ (xs : List ℕ). body (head_page c.args.header.now.format (record { epoch = c.read_u64-epoch.result; version = c.read_u64-version.result; next_sequence = c.read_u64-next_sequence.result; arcs = c.read_arcs-arcs.result; landmarks = xs }))) c.deref-3.ensures.value;
    }
