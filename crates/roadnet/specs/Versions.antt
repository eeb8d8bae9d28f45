-- The versions of a network: version v is the network after the first v groups that were accepted.
use Rattle.std.specs.Prelude.{ℕ, ◌^◌}

-- the greatest version
abbrev pub most_versions : ℕ
most_versions = 2 ^ 48
