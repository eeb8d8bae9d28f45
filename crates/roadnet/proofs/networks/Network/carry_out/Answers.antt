use Rattle.std.proofs.Common.{◌≡◌, ◌∙◌, ℕ, List, Some, ap, sym, subst, fold}
use Rattle.roadnet.specs.Net.{Net, IsNetwork}
use Rattle.roadnet.specs.Batches.{changed_arcs, changed_landmarks}
use Rattle.roadnet.specs.Groups.{commands_of}
use Rattle.roadnet.proofs.InTurn.{after_all_is_changed, all_admitted_fit, carried_all, refused_as_their_commands}
use Rattle.roadnet.proofs.GroupsInTurn.{IsNetwork-changed_by_all}
use Rattle.roadnet.proofs.networks.Network.carry_out.Goals as goal

pub landmarks_after-requires-clause-fits : goal.landmarks_after-requires-clause-fits
landmarks_after-requires-clause-fits c =
    all_admitted_fit c.args.self.now (commands_of c.args.groups.now) (subst IsNetwork c.self.view_is c.self.invariant) (sym (refused_as_their_commands c.args.self.now c.args.groups.now) ∙ c.in_default.ensures)

pub change_all-requires : goal.change_all-requires
change_all-requires c =
    all_admitted_fit c.args.self.now (commands_of c.args.groups.now) (subst IsNetwork c.self.view_is c.self.invariant) (sym (refused_as_their_commands c.args.self.now c.args.groups.now) ∙ c.in_default.ensures)

pub returns-clause-fits : goal.returns-clause-fits
returns-clause-fits c =
    all_admitted_fit c.args.self.now (commands_of c.args.groups.now) (subst IsNetwork c.self.view_is c.self.invariant) (sym (refused_as_their_commands c.args.self.now c.args.groups.now) ∙ c.in_default.ensures)

pub change_all-requires-2 : goal.change_all-requires-2
change_all-requires-2 c =
    all_admitted_fit c.args.self.now (commands_of c.args.groups.now) (subst IsNetwork c.self.view_is c.self.invariant) (sym (refused_as_their_commands c.args.self.now c.args.groups.now) ∙ c.in_default.ensures)

pub returns-then-name_no_node-clause-fits : goal.returns-then-name_no_node-clause-fits
returns-then-name_no_node-clause-fits c =
    all_admitted_fit c.args.self.now (commands_of c.args.groups.now) (subst IsNetwork c.self.view_is c.self.invariant) (sym (refused_as_their_commands c.args.self.now c.args.groups.now) ∙ c.in_default.ensures)

pub returns-then-name_no_node-clause-ok : goal.returns-then-name_no_node-clause-ok
returns-then-name_no_node-clause-ok c =
    let arcs : c.change_all.new.arcs.items ≡ fold changed_arcs c.args.self.now.arcs (commands_of c.args.groups.now) =
    c.in-Ok.ensures.ok ∙ ap (λ (net : Net). fold changed_arcs net.arcs (commands_of c.args.groups.now)) c.self.view_is in
    let landmarks : c.self.inside.landmarks.items ≡ fold changed_landmarks c.args.self.now.landmarks (commands_of c.args.groups.now) =
    sym (c.name_no_node.ensures c.if-name_no_node.true c.self.inside.landmarks.items) ∙ ap (λ (net : Net). fold changed_landmarks net.landmarks (commands_of c.args.groups.now)) c.self.view_is in
    let is = carried_all c.args.self.now c.args.groups.now c.self.inside.nodes c.change_all.new.arcs.items c.self.inside.landmarks.items c.self.inside.room (ap (λ (net : Net). net.nodes) c.self.view_is) arcs landmarks (ap (λ (net : Net). net.room) c.self.view_is) in
    after_all_is_changed c.args.self.now c.args.groups.now c.in_default.ensures ∙ ap Some is

pub invariant_of-self-2 : goal.invariant_of-self-2
invariant_of-self-2 c =
    let arcs : c.change_all-2.new.arcs.items ≡ fold changed_arcs c.args.self.now.arcs (commands_of c.args.groups.now) =
    c.in-Ok-change_all.ensures.ok ∙ ap (λ (net : Net). fold changed_arcs net.arcs (commands_of c.args.groups.now)) c.self.view_is in
    let landmarks : c.replace-landmarks.new.dest.items ≡ fold changed_landmarks c.args.self.now.landmarks (commands_of c.args.groups.now) =
    ap (λ v. v.items) c.replace-landmarks.ensures.after ∙ (c.in-Ok-landmarks_after.ensures ∙ ap (λ (l : List ℕ). fold changed_landmarks l (commands_of c.args.groups.now)) (c.deref.ensures.value ∙ ap (λ (net : Net). net.landmarks) c.self.view_is)) in
    let is = carried_all c.args.self.now c.args.groups.now c.self.inside.nodes c.change_all-2.new.arcs.items c.replace-landmarks.new.dest.items c.self.inside.room (ap (λ (net : Net). net.nodes) c.self.view_is) arcs landmarks (ap (λ (net : Net). net.room) c.self.view_is) in
    subst IsNetwork is (IsNetwork-changed_by_all c.args.self.now c.args.groups.now (subst IsNetwork c.self.view_is c.self.invariant) c.in_default.ensures)

pub returns-clause-ok : goal.returns-clause-ok
returns-clause-ok c =
    let arcs : c.change_all-2.new.arcs.items ≡ fold changed_arcs c.args.self.now.arcs (commands_of c.args.groups.now) =
    c.in-Ok-change_all.ensures.ok ∙ ap (λ (net : Net). fold changed_arcs net.arcs (commands_of c.args.groups.now)) c.self.view_is in
    let landmarks : c.replace-landmarks.new.dest.items ≡ fold changed_landmarks c.args.self.now.landmarks (commands_of c.args.groups.now) =
    ap (λ v. v.items) c.replace-landmarks.ensures.after ∙ (c.in-Ok-landmarks_after.ensures ∙ ap (λ (l : List ℕ). fold changed_landmarks l (commands_of c.args.groups.now)) (c.deref.ensures.value ∙ ap (λ (net : Net). net.landmarks) c.self.view_is)) in
    let is = carried_all c.args.self.now c.args.groups.now c.self.inside.nodes c.change_all-2.new.arcs.items c.replace-landmarks.new.dest.items c.self.inside.room (ap (λ (net : Net). net.nodes) c.self.view_is) arcs landmarks (ap (λ (net : Net). net.room) c.self.view_is) in
    after_all_is_changed c.args.self.now c.args.groups.now c.in_default.ensures ∙ ap Some is

pub invariant_of-self : goal.invariant_of-self
invariant_of-self c =
    let arcs : c.change_all.new.arcs.items ≡ fold changed_arcs c.args.self.now.arcs (commands_of c.args.groups.now) =
    c.in-Ok.ensures.ok ∙ ap (λ (net : Net). fold changed_arcs net.arcs (commands_of c.args.groups.now)) c.self.view_is in
    let landmarks : c.self.inside.landmarks.items ≡ fold changed_landmarks c.args.self.now.landmarks (commands_of c.args.groups.now) =
    sym (c.name_no_node.ensures c.if-name_no_node.true c.self.inside.landmarks.items) ∙ ap (λ (net : Net). fold changed_landmarks net.landmarks (commands_of c.args.groups.now)) c.self.view_is in
    let is = carried_all c.args.self.now c.args.groups.now c.self.inside.nodes c.change_all.new.arcs.items c.self.inside.landmarks.items c.self.inside.room (ap (λ (net : Net). net.nodes) c.self.view_is) arcs landmarks (ap (λ (net : Net). net.room) c.self.view_is) in
    subst IsNetwork is (IsNetwork-changed_by_all c.args.self.now c.args.groups.now (subst IsNetwork c.self.view_is c.self.invariant) c.in_default.ensures)
