use Rattle.std.proofs.Common.{rules, ◌≡◌, Ok}
use Rattle.std.specs.Prelude.{◌≤◌, length, IfSome, IfErr, IfOk, OnOk}
use Rattle.dimacs.specs.Content.{content}
use Rattle.roadnet.specs.Net.{IsRoomFor, most_landmarks}
use Rattle.store.specs.Migrating.{room_of, roomed}
use Rattle.storetexts.specs.Created.{landmarks_of, with_landmarks, IsRefusedPlan}
use Rattle.storetexts.proofs.Made.{network_told_known, plan_told_known}
use Rattle.storetexts.proofs.creating.read_planned.Goals as goal

pub returns-clause-refused : goal.returns-clause-refused
returns-clause-refused g c =
    let net = c.in_ok-network.network in
    let marks = c.in_ok-landmarks.landmarks.items in
    let network : IfSome (g.P.Text.bytes c.args.gr.now) (λ n. content n ≡ Ok net) = search rules in
    let landmarks : IfSome (g.Q.Text.bytes c.args.ss.now) (λ l. landmarks_of net l ≡ Ok marks) = search rules in
    let why : IfErr c.planned.result (IsRefusedPlan net marks c.args.room) = search rules in
    let told = plan_told_known c.planned.result _ _ c.args.room (g.P.Text.source c.read_gr.new.text) (g.Q.Text.source c.read_ss.new.text) net marks network landmarks why in
    search (rules, told)

pub returns-clause-network : goal.returns-clause-network
returns-clause-network g c =
    let net = c.in_ok-network.network in
    let marks = c.in_ok-landmarks.landmarks.items in
    let network : IfSome (g.P.Text.bytes c.args.gr.now) (λ n. content n ≡ Ok net) = search rules in
    let landmarks : IfSome (g.Q.Text.bytes c.args.ss.now) (λ l. landmarks_of net l ≡ Ok marks) = search rules in
    let few : OnOk c.planned.result (length marks ≤ most_landmarks) = search rules in
    let fits : OnOk c.planned.result (IsRoomFor net (room_of net c.args.room)) = search rules in
    let made : IfOk c.planned.result (λ made. made ≡ roomed (with_landmarks net marks) c.args.room) = search rules in
    let told = network_told_known c.planned.result _ _ c.args.room net marks network landmarks few fits made in
    search (rules, told)
