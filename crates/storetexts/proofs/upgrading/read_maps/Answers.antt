use Rattle.std.proofs.Common.{rules, ◌≡◌, Ok}
use Rattle.std.specs.Prelude.{IfSome}
use Rattle.dimacs.specs.Content.{content}
use Rattle.storetexts.proofs.Upgraded.{maps_told, room_refused}
use Rattle.storetexts.proofs.upgrading.read_maps.Goals as goal

pub returns-in-Ok-clause-maps : goal.returns-in-Ok-clause-maps
returns-in-Ok-clause-maps g c =
    let old_is : IfSome (g.P.Text.bytes c.args.before.now) (λ n. content n ≡ Ok c.in_ok-old.old) = search rules in
    let map_is : IfSome (g.Q.Text.bytes c.args.after.now) (λ n. content n ≡ Ok c.in_ok-map.map) = search rules in
    maps_told _ _ c.args.room c.in_ok-old.old c.in_ok-map.map c.in-Ok.new old_is map_is c.in-Ok.ensures.fits c.in-Ok.ensures.ok

pub returns-in-Err-clause-refused : goal.returns-in-Err-clause-refused
returns-in-Err-clause-refused g c =
    let old_is : IfSome (g.P.Text.bytes c.args.before.now) (λ n. content n ≡ Ok c.in_ok-old.old) = search rules in
    let map_is : IfSome (g.Q.Text.bytes c.args.after.now) (λ n. content n ≡ Ok c.in_ok-map.map) = search rules in
    room_refused _ _ c.args.room (g.P.Text.source c.read_gr.new.text) (g.Q.Text.source c.read_gr-2.new.text) c.in_ok-old.old c.in_ok-map.map _ old_is map_is c.in-Err.ensures.refused.0 c.in-Err.ensures.refused.2
