-- What is supposed of a network: that a group of commands was carried out.
--     Supposes version net group supposed     it has the network after the group, on top of this version
--     IsUnanswered There refusal              24 where a node isn't there, else 11
use Rattle.std.specs.Prelude.{◌≡◌, ◌⊎◌, ℕ, List, Some}
use Rattle.roadnet.specs.declared.commands.Command.{Command}
use Rattle.roadnet.specs.declared.refusals.Refusal.{Refusal}
use Rattle.roadnet.specs.declared.refusals.Refusal.TheVariants.{NoSuchNode, OutOfMemory}
use Rattle.roadnet.specs.Net.{Net}
use Rattle.roadnet.specs.Step.{step_group}

-- A network that is supposed, and the version of the one that it was made of.
pub record Supposition : Type 0 where
  pub version : ℕ
  pub network : Net

-- the network of this version, with the group carried out, all of it
pub record Supposes (version : ℕ) (net : Net) (group : List Command) (supposed : Supposition) : Type 0 where
  pub made_of : supposed.version ≡ version
  pub after : step_group net group ≡ Some supposed.network

-- why nothing is told: a node that is asked about isn't there (24), or, where all are, want of memory (11)
abbrev pub IsSuppositionUnanswered : Type 0 → Refusal → Type 0
IsSuppositionUnanswered There refusal = ((refusal ≡ NoSuchNode) × ¬ There) ⊎ ((refusal ≡ OutOfMemory) × There)
