-- What is told of the arcs of a store's network, and for what that is refused.
use Rattle.std.specs.Prelude.{ℕ, List, Option, ⊤}
use Rattle.std.specs.Io.KnownBytes.{Appends}
use Rattle.roadnet.specs.declared.refusals.Refusal.TheVariants.{Write}
use Rattle.printing.specs.Looks.{look_lines}
use Rattle.printing.specs.declared.failed.Failed.{Failed}
use Rattle.printing.specs.declared.failed.Failed.TheVariants.{Text, Code}
use Rattle.printing.specs.declared.looks.Look.{Look}
use Rattle.storetexts.specs.Asked.{OfStore, IsStoreUnopened}

-- what is written are the version of a store and the answer line in its network, and nothing else
abbrev pub IsStoreShown : Type 0 → List ℕ → Look → Option (List ℕ) → Option (List ℕ) → Type 0
IsStoreShown Honest file look old new = OfStore Honest file (λ net version. Appends old new (look_lines net version look))

-- opening is refused, or a store was opened and the writer failed
abbrev pub IsRefusedShow : Type 0 → List ℕ → Failed → Type 0
IsRefusedShow Honest file (Text which fault) = ⊥
IsRefusedShow Honest file (Code Write) = OfStore Honest file (λ net version. ⊤)
IsRefusedShow Honest file (Code refusal) = IsStoreUnopened Honest file refusal
