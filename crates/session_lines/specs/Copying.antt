-- What sessions may do beside asking: have commands carried out, and copies made of what their desk shows.
use Rattle.std.specs.Prelude.{◌≡◌, ◌⊎◌, ℕ, Bool, true, false, List}
use Rattle.roadnet.specs.declared.refusals.Refusal.{Refusal}
use Rattle.roadnet.specs.declared.refusals.Refusal.TheVariants.{Read, OutOfMemory, Device, NotEmpty}
use Rattle.roadnet.specs.Net.{Net}

-- whether commands are carried out, whether copies are made at all, and of which network, at which version, the copy of a name is one
pub record Copying : Type 1 where
  pub changes : Bool
  pub allowed : Bool
  pub made : List ℕ → Net → ℕ → Type 0

-- no copy is made
abbrev pub no_copying : Copying
no_copying = record { changes = true; allowed = false; made = λ name network version. ⊥ }

-- sessions that ask alone: none of their commands is carried out, and no copy is made
abbrev pub asking_alone : Copying
asking_alone = record { changes = false; allowed = false; made = λ name network version. ⊥ }

-- sessions at a door: they ask alone, or may do this
abbrev pub copying_at : Bool → Copying → Copying
copying_at true copying = asking_alone
copying_at false copying = copying

-- why a copy is not made: something of its name is there (46), its device fails (43), it can't be made (10), or memory ran out (11)
abbrev pub IsUnmade : Refusal → Type 0
IsUnmade refusal = (refusal ≡ NotEmpty) ⊎ ((refusal ≡ Device) ⊎ ((refusal ≡ Read) ⊎ (refusal ≡ OutOfMemory)))
