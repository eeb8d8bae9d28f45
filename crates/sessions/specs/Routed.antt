-- What lines `route` are told.
use Rattle.std.specs.Prelude.{◌≡◌, ◌⊎◌, ℕ, List, ◌++◌, Result, Ok, Err}
use Rattle.roadnet.specs.declared.refusals.OutOfMemory.{OutOfMemory as NoMemory}
use Rattle.roadnet.specs.declared.refusals.Refusal.TheVariants.{OutOfMemory}
use Rattle.roadnet.specs.Net.{Net}
use Rattle.roadnet.specs.Numbers.{number_of}
use Rattle.routes.specs.declared.replies.RouteReply.{RouteReply}
use Rattle.routes.specs.RouteReplies.{IsRightRoute}
use Rattle.printing.specs.Printed.{refusal_line}
use Rattle.printing.specs.RouteLines.{route_lines}
use Rattle.suppositions.specs.Supposing.{Supposition}
use Rattle.sessions.specs.declared.queries.finding.Heading.{Heading}
use Rattle.sessions.specs.declared.queries.finding.Heading.TheVariants.{Shown, Supposed}
use Rattle.sessions.specs.Headings.{heading_line}

-- the heading and the lines of a reply in this network, or `no 11`
abbrev pub route_or_refusal : Heading → Net → ℕ → ℕ → Result RouteReply NoMemory → List ℕ
route_or_refusal heading net source target (Ok reply) = heading_line heading ++ route_lines net source target reply
route_or_refusal heading net source target (Err error) = refusal_line (number_of OutOfMemory)

-- the heading and the lines of a right reply in this network; or that there was no memory for it (11)
abbrev pub IsRouteUnder : Heading → Net → ℕ → ℕ → List ℕ → Type 0
IsRouteUnder heading net source target told =
    ((reply : RouteReply) × IsRightRoute net source target reply × (told ≡ heading_line heading ++ route_lines net source target reply))
    ⊎ (told ≡ refusal_line (number_of OutOfMemory))

-- a route in this network, after its version
abbrev pub IsRouteAnswer : ℕ → ℕ → Net → ℕ → List ℕ → Type 0
IsRouteAnswer source target net version told = IsRouteUnder (Shown version) net source target told

-- a route in what is supposed, after the version on which it is based
abbrev pub IsRouteIn : Supposition → ℕ → ℕ → List ℕ → Type 0
IsRouteIn supposed source target told = IsRouteUnder (Supposed supposed.version) supposed.network source target told
