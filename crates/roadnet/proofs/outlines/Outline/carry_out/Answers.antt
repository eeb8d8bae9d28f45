use Rattle.std.proofs.Common.{◌≡◌, ◌∙◌, ℕ, List, ap, sym, subst, fold}
use Rattle.std.specs.List.{All}
use Rattle.roadnet.specs.declared.commands.Command.{Command}
use Rattle.roadnet.specs.Batches.{HasFitNumbers, changed_landmarks}
use Rattle.roadnet.specs.Flags.{changed_flags}
use Rattle.roadnet.specs.Groups.{commands_of}
use Rattle.roadnet.proofs.Flagged.{commands_of_one, outline_kept, steps_by}
use Rattle.roadnet.proofs.InTurn.{all_admitted_fit}
use Rattle.roadnet.proofs.outlines.Outline.carry_out.Goals as goal

pub invariant_of-self-then-names_no_node : goal.invariant_of-self-then-names_no_node
invariant_of-self-then-names_no_node c =
    let there = c.self.invariant in
    let opened_is : c.change_flags.new.flags.items ≡ fold changed_flags c.self.inside.opened.items c.args.group.now =
    c.in_ok-change_flags.ensures.ok ∙ ap (λ (cs : List Command). fold changed_flags c.self.inside.opened.items cs) c.commands-commands.ensures.value in
    let landmarks_is : c.self.inside.landmarks.items ≡ fold changed_landmarks c.self.inside.landmarks.items c.args.group.now =
    sym (c.names_no_node.ensures c.if-names_no_node.true c.self.inside.landmarks.items) ∙ ap (λ (cs : List Command). fold changed_landmarks c.self.inside.landmarks.items cs) c.commands-commands.ensures.value in
    outline_kept there.0 (record { nodes = c.self.inside.nodes; opened = c.self.inside.opened.items; landmarks = c.self.inside.landmarks.items; room = c.self.inside.room }) c.args.group.now c.change_flags.new.flags.items c.self.inside.landmarks.items there.2 (c.requires.admitted there.0 (there.2 ∙ c.self.view_is)) opened_is landmarks_is there.1

pub returns-then-names_no_node-clause-ok : goal.returns-then-names_no_node-clause-ok
returns-then-names_no_node-clause-ok c net of =
    let opened_is : c.change_flags.new.flags.items ≡ fold changed_flags c.self.inside.opened.items c.args.group.now =
    c.in_ok-change_flags.ensures.ok ∙ ap (λ (cs : List Command). fold changed_flags c.self.inside.opened.items cs) c.commands-commands.ensures.value in
    let landmarks_is : c.self.inside.landmarks.items ≡ fold changed_landmarks c.self.inside.landmarks.items c.args.group.now =
    sym (c.names_no_node.ensures c.if-names_no_node.true c.self.inside.landmarks.items) ∙ ap (λ (cs : List Command). fold changed_landmarks c.self.inside.landmarks.items cs) c.commands-commands.ensures.value in
    steps_by net (record { nodes = c.self.inside.nodes; opened = c.self.inside.opened.items; landmarks = c.self.inside.landmarks.items; room = c.self.inside.room }) c.args.group.now c.change_flags.new.flags.items c.self.inside.landmarks.items (of ∙ sym c.self.view_is) (c.requires.admitted net of) opened_is landmarks_is

pub landmarks_after-requires-clause-fits : goal.landmarks_after-requires-clause-fits
landmarks_after-requires-clause-fits c =
    let there = c.self.invariant in
    subst (All HasFitNumbers) (sym (commands_of_one c.one.result.now c.args.group.now c.one.ensures)) (all_admitted_fit there.0 c.args.group.now there.1 (c.requires.admitted there.0 (there.2 ∙ c.self.view_is)))

pub invariant_of-self-2 : goal.invariant_of-self-2
invariant_of-self-2 c =
    let there = c.self.invariant in
    let opened_is : c.change_flags-2.new.flags.items ≡ fold changed_flags c.self.inside.opened.items c.args.group.now =
    c.in_ok-change_flags-2.ensures.ok ∙ ap (λ (cs : List Command). fold changed_flags c.self.inside.opened.items cs) c.commands-commands.ensures.value in
    let landmarks_is : c.replace.new.dest.items ≡ fold changed_landmarks c.self.inside.landmarks.items c.args.group.now =
    ap (λ v. v.items) c.replace.ensures.after ∙ (c.in_ok-landmarks.ensures ∙ (ap (λ (l : List ℕ). fold changed_landmarks l (commands_of c.one.result.now)) c.deref.ensures.value ∙ ap (λ (cs : List Command). fold changed_landmarks c.self.inside.landmarks.items cs) (commands_of_one c.one.result.now c.args.group.now c.one.ensures))) in
    outline_kept there.0 (record { nodes = c.self.inside.nodes; opened = c.self.inside.opened.items; landmarks = c.self.inside.landmarks.items; room = c.self.inside.room }) c.args.group.now c.change_flags-2.new.flags.items c.replace.new.dest.items there.2 (c.requires.admitted there.0 (there.2 ∙ c.self.view_is)) opened_is landmarks_is there.1

pub returns-clause-ok : goal.returns-clause-ok
returns-clause-ok c net of =
    let opened_is : c.change_flags-2.new.flags.items ≡ fold changed_flags c.self.inside.opened.items c.args.group.now =
    c.in_ok-change_flags-2.ensures.ok ∙ ap (λ (cs : List Command). fold changed_flags c.self.inside.opened.items cs) c.commands-commands.ensures.value in
    let landmarks_is : c.replace.new.dest.items ≡ fold changed_landmarks c.self.inside.landmarks.items c.args.group.now =
    ap (λ v. v.items) c.replace.ensures.after ∙ (c.in_ok-landmarks.ensures ∙ (ap (λ (l : List ℕ). fold changed_landmarks l (commands_of c.one.result.now)) c.deref.ensures.value ∙ ap (λ (cs : List Command). fold changed_landmarks c.self.inside.landmarks.items cs) (commands_of_one c.one.result.now c.args.group.now c.one.ensures))) in
    steps_by net (record { nodes = c.self.inside.nodes; opened = c.self.inside.opened.items; landmarks = c.self.inside.landmarks.items; room = c.self.inside.room }) c.args.group.now c.change_flags-2.new.flags.items c.replace.new.dest.items (of ∙ sym c.self.view_is) (c.requires.admitted net of) opened_is landmarks_is
