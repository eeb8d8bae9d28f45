-- What a commit answers, and what it asks of a store's content.
use Rattle.std.specs.Prelude.{◌≡◌, ◌⊎◌, ℕ, ◌+◌, Bool, List, [], ◌∷◌, length, map, Option, Some, None, Result, MatchResult, nat_lt, nat_le, if◌then◌else◌}
use Rattle.roadnet.specs.declared.refusals.Refusal.{Refusal}
use Rattle.roadnet.specs.declared.refusals.Refusal.TheVariants.{Broken, VersionsExhausted, JournalFull, OutOfMemory, Device}
use Rattle.roadnet.specs.declared.commands.Command.{Command}
use Rattle.roadnet.specs.Net.{Net}
use Rattle.roadnet.specs.Batches.{first_refusal_of_all}
use Rattle.storefile.specs.Standing.{Standing, standing_of, IsTidyAt}
use Rattle.pages.specs.Limits.{most_versions}

-- these commands, each a group of its own
abbrev pub alone : List Command → List (List Command)
alone commands = map (λ command. command ∷ []) commands

-- Why a commit of these groups is refused whatever memory and the disk give, or nothing: the store is broken; the version would pass
-- 2^48; no page of the journal is free; or the refusal of the first command that is not admitted after those before it.
abbrev pub refusal_of_commit : Bool → ℕ → ℕ → ℕ → Net → List (List Command) → Option Refusal
refusal_of_commit broken version unchecked journal_pages net groups =
    if broken then Some Broken
    else if nat_lt most_versions (version + length groups) then Some VersionsExhausted
    else if nat_le journal_pages unchecked then Some JournalFull
    else first_refusal_of_all net groups

-- With what a commit may refuse that has this cause: with the cause; and where there is none, for want of memory or since the disk failed.
abbrev pub MayRefuseCommit : Option Refusal → Refusal → Type 0
MayRefuseCommit cause refusal = (cause ≡ Some refusal) ⊎ ((cause ≡ None) × ((refusal ≡ OutOfMemory) ⊎ (refusal ≡ Device)))

-- It refuses exactly where there is a cause; and where there is none, for want of memory or since the disk failed.
abbrev pub RefusesCommit : {T : Type 0} → Option Refusal → Result T Refusal → Type 0
RefusesCommit cause result = MatchResult result (λ _. cause ≡ None) (MayRefuseCommit cause)

-- The content stands for this, and no page of its journal is of the next sequence or a later one.
abbrev pub HasTidyStanding : List ℕ → Standing → Type 0
HasTidyStanding content standing = (standing_of content ≡ Some standing) × IsTidyAt content standing.header standing.next
