use Rattle.std.proofs.Common.{rules, ◌≡◌, subst}
use Rattle.roadnet.specs.Net.{Net}
use Rattle.rows.specs.Backs.{LeadsBack}
use Rattle.view_tests.proofs.viewing.shares_back.Goals as goal

pub with_back-requires : goal.with_back-requires
with_back-requires c =
    let of_view : LeadsBack c.in_ok-view.view.network c.in-Ok.back = subst (λ (n : Net). LeadsBack n c.in-Ok.back) c.network.ensures c.in-Ok.ensures in
    let same : c.in-Ok-new.back.value ≡ c.in-Ok.back = search rules in
    rw same of_view
