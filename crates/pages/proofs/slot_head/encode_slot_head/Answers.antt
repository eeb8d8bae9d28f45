use Rattle.std.proofs.Common.{◌∙◌, ◌++◌, [], ap, sym, append-nil}
use Rattle.std.specs.List.{flat_map}
use Rattle.std.proofs.lemmas.List.{take_all}
use Rattle.byteorder.specs.Endian.{big_bytes}
use Rattle.pages.specs.Contents.{Head}
use Rattle.pages.specs.Spelling.{head_front, page_of}
use Rattle.pages.proofs.Padding.{then_put}
use Rattle.pages.proofs.Heads.{room}
use Rattle.pages.proofs.slot_head.encode_slot_head.Goals as goal

pub loop-landmark-init : goal.loop-landmark-init
loop-landmark-init c =
    let s : Head = record { epoch = c.args.epoch; version = c.args.version; next_sequence = c.args.next_sequence; arcs = c.args.arcs; landmarks = c.args.landmarks.now } in
    then_put [] (head_front c.args.format s) c.put_front.ensures c.new-page.ensures ∙ sym (append-nil (head_front c.args.format s))

pub put_u32-requires : goal.put_u32-requires
put_u32-requires c =
    let s : Head = record { epoch = c.args.epoch; version = c.args.version; next_sequence = c.args.next_sequence; arcs = c.args.arcs; landmarks = c.args.landmarks.now } in
    room c.args.format s c.loop-landmark.page c.loop-landmark.landmark-index c.requires c.loop-landmark-test.true c.loop-landmark.invariant

pub returns : goal.returns
returns c =
    let s : Head = record { epoch = c.args.epoch; version = c.args.version; next_sequence = c.args.next_sequence; arcs = c.args.arcs; landmarks = c.args.landmarks.now } in
    let all = take_all c.loop-landmark.landmark-index c.args.landmarks.now c.loop-landmark-test.false in
    c.finish.ensures ∙ ap page_of (c.loop-landmark.invariant ∙ ap (λ xs. head_front c.args.format s ++ flat_map (big_bytes 4) xs) all)
