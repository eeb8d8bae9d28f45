-- What a route is told as.
use Rattle.std.proofs.Common.{◌≡◌, ◌∙◌, ℕ, ◌++◌, ap, refl, inl, inr}
use Rattle.std.specs.Prelude.{Result, Ok, Err, IfOk}
use Rattle.roadnet.specs.declared.refusals.OutOfMemory.{OutOfMemory as NoMemory}
use Rattle.roadnet.specs.Net.{Net}
use Rattle.routes.specs.declared.replies.RouteReply.{RouteReply}
use Rattle.routes.specs.RouteReplies.{IsRightRoute}
use Rattle.printing.specs.RouteLines.{route_lines}
use Rattle.sessions.specs.declared.queries.finding.Heading.{Heading}
use Rattle.sessions.specs.Headings.{heading_line}
use Rattle.sessions.specs.Routed.{IsRouteUnder, route_or_refusal}

pub route_found : (told heading : Heading) (shown net : Net) (source target : ℕ) (found : Result RouteReply NoMemory) → told ≡ heading → shown ≡ net → IfOk found (IsRightRoute net source target)
    → IsRouteUnder heading net source target (route_or_refusal told shown source target found)
route_found told heading shown net source target (Ok reply) same is right = inl (
  reply,
  right,
  ap (λ (h : Heading). heading_line h ++ route_lines shown source target reply) same ∙ ap (λ (n : Net). heading_line heading ++ route_lines n source target reply) is,
)
route_found told heading shown net source target (Err error) same is right = inr refl
