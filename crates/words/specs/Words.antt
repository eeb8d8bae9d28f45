-- What the program's words ask for.
use Rattle.std.specs.Prelude.{◌≡◌, ◌⊎◌, ◌≤◌, ◌<◌, ◌^◌, ℕ, Bool, true, false, List, [], ◌∷◌, Option, None, Some, option_map, unwrap_or}
use Rattle.std.specs.Option.{ForSome}
use Rattle.std.specs.String.{string_bytes}
use Rattle.std.specs.Str.Parse.{IsNumeral, digits_value, without_leading_plus}
use lib.Chars.{codes}
use Rattle.clap.specs.declared.parser.matches.Found.{Found}
use Rattle.clap.specs.Words.{first_value, matched_of, one_text, raw_values}
use Rattle.words.specs.declared.jobs.PairTexts.{PairTexts}
use Rattle.words.specs.declared.jobs.PairTexts.TheVariants.{Listed, Table}
use Rattle.words.specs.declared.jobs.Job.{Job}
use Rattle.words.specs.declared.jobs.Job.TheVariants.{Joint, Once, Route, Batch, Reach, Reached, Rehearse, Create, Apply, Ask, Check, Serve, Migrate, Copy, Upgrade, Show, Export}
use Rattle.words.specs.declared.jobs.ArcNumbers.{ArcNumbers}
use Rattle.words.specs.declared.jobs.ArcNumbers.TheVariants.{Arc, Between}
use Rattle.words.specs.declared.usages.Usage.{Usage}
use Rattle.words.specs.declared.pipes.PipePair.{PipePair}
use Rattle.words.specs.declared.pipes.Misfit.{Misfit}
use Rattle.words.specs.declared.pipes.Misfit.TheVariants.{MissingWord}
use Rattle.words.specs.Pipes.{ArePipesFit, AreMisfit, ArePairs}

-- a width of a search's buckets
abbrev pub IsWidth : ℕ → Type 0
IsWidth delta = (1 ≤ delta) × (delta ≤ 2147483647)

-- the width of the search's buckets that they give, if any
abbrev pub delta_of : Job → Option ℕ
delta_of (Joint delta) = delta
delta_of (Once network source target delta) = delta
delta_of (Route network source target delta) = delta
delta_of (Batch network pairs delta) = delta
delta_of (Reach network source within delta) = delta
delta_of (Reached network target within delta) = delta
delta_of (Rehearse network script journal_pages room delta) = delta
delta_of (Apply store commands delta) = delta
delta_of (Ask store pairs routes delta) = delta
delta_of (Serve store pipes copies delta workers patience) = delta
delta_of job = None

-- the width of the searches of a job's rows, where it makes some and one is given: `create`, `apply`, `check`, `migrate`, `copy`, `upgrade`, `show` and `export` compute none
abbrev pub searched_width : Job → Option ℕ
searched_width (Apply store commands delta) = None
searched_width job = delta_of job

-- the pages of the store's journal, where it makes a store and they are given
abbrev pub journal_pages_of : Job → Option ℕ
journal_pages_of (Rehearse network script journal_pages room delta) = Some journal_pages
journal_pages_of (Create store network landmarks journal_pages room) = Some journal_pages
journal_pages_of (Copy store file room journal_pages) = journal_pages
journal_pages_of job = None

-- the row workers of its desk, where it has one
abbrev pub workers_of : Job → Option ℕ
workers_of (Serve store pipes copies delta workers patience) = Some workers
workers_of job = None

-- the pairs of pipes by which clients may come, where there are some
abbrev pub pipes_of : Job → List PipePair
pipes_of (Serve store pipes copies delta workers patience) = pipes.items
pipes_of job = []

-- a number of journal pages
abbrev pub IsJournal : ℕ → Type 0
IsJournal pages = (1 ≤ pages) × (pages ≤ 65536)

-- a number of row workers
abbrev pub IsWorkers : ℕ → Type 0
IsWorkers workers = (1 ≤ workers) × (workers ≤ 64)

-- the numbers that it gives are within their ranges, and its pairs of pipes may be served
abbrev pub HasFitParts : Job → Type 0
HasFitParts job = ForSome (delta_of job) IsWidth × ForSome (journal_pages_of job) IsJournal × ForSome (workers_of job) IsWorkers × ArePipesFit (pipes_of job)

-- the subcommand that asks for a job, if it needs one
abbrev pub subcommand_of : Job → Option (List ℕ)
subcommand_of (Joint delta) = None
subcommand_of (Once network source target delta) = Some (codes "once")
subcommand_of (Route network source target delta) = Some (codes "route")
subcommand_of (Batch network pairs delta) = Some (codes "batch")
subcommand_of (Reach network source within delta) = Some (codes "reach")
subcommand_of (Reached network target within delta) = Some (codes "reached")
subcommand_of (Rehearse network script journal_pages room delta) = Some (codes "rehearse")
subcommand_of (Create store network landmarks journal_pages room) = Some (codes "create")
subcommand_of (Apply store commands delta) = Some (codes "apply")
subcommand_of (Ask store pairs routes delta) = Some (codes "ask")
subcommand_of (Check store) = Some (codes "check")
subcommand_of (Serve store pipes copies delta workers patience) = Some (codes "serve")
subcommand_of (Migrate old new room) = Some (codes "migrate")
subcommand_of (Upgrade store old network new room) = Some (codes "upgrade")
subcommand_of (Copy store file room journal_pages) = Some (codes "copy")
subcommand_of (Show store look) = Some (codes "show")
subcommand_of (Export store folder) = Some (codes "export")

-- this word is a numeral of this number
abbrev pub IsWordOf : List ℕ → ℕ → Type 0
IsWordOf word number = IsNumeral 10 (without_leading_plus word) × (digits_value 10 (without_leading_plus word) ≡ number)

-- the fit number that the word of this name gives; none where there is no word, or none of a fit number
abbrev pub GivesNumber : Found → List ℕ → (ℕ → Type 0) → Option ℕ → Type 0
GivesNumber found name IsFit None = (word : List ℕ) (number : ℕ) → one_text found name ≡ Some word → IsWordOf word number → ¬ IsFit number
GivesNumber found name IsFit (Some number) = IsFit number × ((word : List ℕ) × (one_text found name ≡ Some word) × IsWordOf word number)

-- a number of 64 bits
abbrev pub IsLong : ℕ → Type 0
IsLong number = number < 2 ^ 64

-- a number from 1 to the most
abbrev pub IsUpTo : ℕ → ℕ → Type 0
IsUpTo most number = (1 ≤ number) × (number ≤ most)

-- the fit number that the word of this name gives; another where it gives none
abbrev pub GivesOr : Found → List ℕ → (ℕ → Type 0) → ℕ → ℕ → Type 0
GivesOr found name IsFit other number = GivesNumber found name IsFit (Some number) ⊎ ((number ≡ other) × GivesNumber found name IsFit None)

-- one of these texts is missing, or of these numbers of 64 bits
abbrev pub Lacks : Found → List (List ℕ) → List (List ℕ) → Type 0
Lacks found [] [] = ⊥
Lacks found [] (number ∷ numbers) = GivesNumber found number IsLong None ⊎ Lacks found [] numbers
Lacks found (text ∷ texts) numbers = (first_value found text ≡ None) ⊎ Lacks found texts numbers

-- the names of the texts that give pairs
abbrev pub pair_names : PairTexts → List (List ℕ)
pair_names (Listed pairs) = pairs.now ∷ []
pair_names (Table sources targets) = sources.now ∷ targets.now ∷ []

-- a list of pairs alone, or sources and targets and no list; nothing else names pairs
abbrev pub names_given : Option (List ℕ) → Option (List ℕ) → Option (List ℕ) → Option (List (List ℕ))
names_given (Some pairs) None None = Some (pairs ∷ [])
names_given None (Some sources) (Some targets) = Some (sources ∷ targets ∷ [])
names_given pairs sources targets = None

-- the names of the texts that the words give for pairs
abbrev pub given_pairs : Found → Option (List (List ℕ))
given_pairs found = names_given (first_value found (codes "P2P")) (first_value found (codes "from")) (first_value found (codes "to"))

-- for how many seconds a version may be waited for
abbrev pub IsPatience : ℕ → Type 0
IsPatience patience = (1 ≤ patience) × (patience ≤ 86400)

-- whether the words have the flag of this name, which stands for the text `true`
abbrev pub GivesFlag : Found → List ℕ → Bool → Type 0
GivesFlag found name flag = (one_text found name ≡ Some (codes "true") → flag ≡ true) × (one_text found name ≡ None → flag ≡ false)

-- whether they have `--verbose`
abbrev pub GivesVerbose : Found → Bool → Type 0
GivesVerbose found verbose = GivesFlag found (codes "verbose") verbose

-- all words that stand under a name
abbrev pub all_values : Found → List ℕ → List (List ℕ)
all_values found name = unwrap_or (option_map raw_values (matched_of found name)) []

-- the numbers of arcs to be shown: one an arc's, two those of the nodes from which and to which arcs lead; or the first is missing
abbrev pub GivesArcs : Found → Option ArcNumbers → Type 0
GivesArcs found None = GivesNumber found (codes "K") IsLong None
GivesArcs found (Some (Arc number)) = GivesNumber found (codes "K") IsLong (Some number) × GivesNumber found (codes "H") IsLong None
GivesArcs found (Some (Between tail head)) = GivesNumber found (codes "K") IsLong (Some tail) × GivesNumber found (codes "H") IsLong (Some head)

-- the words give the parts of this job
abbrev pub GivesParts : Found → Job → Type 0
GivesParts found (Joint delta) = GivesNumber found (codes "delta") IsWidth delta
GivesParts found (Once network source target delta) =
    (first_value found (codes "GR") ≡ Some network.now) × GivesNumber found (codes "S") IsLong (Some source)
    × GivesNumber found (codes "T") IsLong (Some target) × GivesNumber found (codes "delta") IsWidth delta
GivesParts found (Route network source target delta) =
    (first_value found (codes "GR") ≡ Some network.now) × GivesNumber found (codes "S") IsLong (Some source)
    × GivesNumber found (codes "T") IsLong (Some target) × GivesNumber found (codes "delta") IsWidth delta
GivesParts found (Batch network pairs delta) =
    (first_value found (codes "GR") ≡ Some network.now) × (given_pairs found ≡ Some (pair_names pairs)) × GivesNumber found (codes "delta") IsWidth delta
GivesParts found (Reach network source within delta) =
    (first_value found (codes "GR") ≡ Some network.now) × GivesNumber found (codes "S") IsLong (Some source)
    × GivesNumber found (codes "within") IsLong within × GivesNumber found (codes "delta") IsWidth delta
GivesParts found (Reached network target within delta) =
    (first_value found (codes "GR") ≡ Some network.now) × GivesNumber found (codes "T") IsLong (Some target)
    × GivesNumber found (codes "within") IsLong within × GivesNumber found (codes "delta") IsWidth delta
GivesParts found (Rehearse network script journal_pages room delta) =
    (first_value found (codes "GR") ≡ Some network.now) × (first_value found (codes "SCRIPT") ≡ Some script.now)
    × GivesOr found (codes "journal") IsJournal 64 journal_pages × GivesNumber found (codes "room") IsLong room × GivesNumber found (codes "delta") IsWidth delta
GivesParts found (Create store network landmarks journal_pages room) =
    (first_value found (codes "STORE") ≡ Some store.now) × (first_value found (codes "GR") ≡ Some network.now)
    × (first_value found (codes "SS") ≡ Some landmarks.now) × GivesOr found (codes "journal") IsJournal 64 journal_pages × GivesNumber found (codes "room") IsLong room
GivesParts found (Apply store commands delta) =
    (first_value found (codes "STORE") ≡ Some store.now) × (first_value found (codes "COMMANDS") ≡ Some commands.now)
    × GivesNumber found (codes "delta") IsWidth delta
GivesParts found (Ask store pairs routes delta) =
    (first_value found (codes "STORE") ≡ Some store.now) × (given_pairs found ≡ Some (pair_names pairs))
    × GivesFlag found (codes "routes") routes × GivesNumber found (codes "delta") IsWidth delta
GivesParts found (Check store) = first_value found (codes "STORE") ≡ Some store.now
GivesParts found (Serve store pipes copies delta workers patience) =
    (first_value found (codes "STORE") ≡ Some store.now) × ArePairs (all_values found (codes "PIPES")) (all_values found (codes "asking")) pipes.items × ArePipesFit pipes.items
    × (option_map (λ folder. folder.now) copies ≡ first_value found (codes "copies")) × GivesNumber found (codes "delta") IsWidth delta
    × GivesOr found (codes "workers") IsWorkers 4 workers × GivesOr found (codes "patience") IsPatience 30 patience
GivesParts found (Migrate old new room) =
    (first_value found (codes "OLD") ≡ Some old.now) × (first_value found (codes "NEW") ≡ Some new.now) × GivesNumber found (codes "room") IsLong room
GivesParts found (Upgrade store old network new room) =
    (first_value found (codes "STORE") ≡ Some store.now) × (first_value found (codes "OLD") ≡ Some old.now) × (first_value found (codes "GR") ≡ Some network.now)
    × (first_value found (codes "NEW") ≡ Some new.now) × GivesNumber found (codes "room") IsLong room
GivesParts found (Copy store file room journal_pages) =
    (first_value found (codes "STORE") ≡ Some store.now) × (first_value found (codes "FILE") ≡ Some file.now)
    × GivesNumber found (codes "room") IsLong room × GivesNumber found (codes "journal") IsJournal journal_pages
GivesParts found (Show store arcs) = (first_value found (codes "STORE") ≡ Some store.now) × GivesArcs found (Some arcs)
GivesParts found (Export store folder) = (first_value found (codes "STORE") ≡ Some store.now) × (first_value found (codes "FOLDER") ≡ Some folder.now)

-- the words of this subcommand give this job
abbrev pub GivesJob : List ℕ → Found → Job → Type 0
GivesJob name found job = (subcommand_of job ≡ Some name) × GivesParts found job

-- the words of `serve` give no job: a word is missing, or the names of pipes are none of pairs
abbrev pub GivesNoServer : Found → Misfit → Type 0
GivesNoServer found why =
    ((why ≡ MissingWord) × (first_value found (codes "STORE") ≡ None)) ⊎ AreMisfit (all_values found (codes "PIPES")) (all_values found (codes "asking")) why

-- what is written in place of a text's file for the standard input
abbrev pub IsInput : List ℕ → Type 0
IsInput name = name ≡ codes "-"

-- the texts of pairs are the standard input twice, or once where another text is it too
abbrev pub ComesTwice : Bool → PairTexts → Type 0
ComesTwice true (Listed pairs) = IsInput pairs.now
ComesTwice true (Table sources targets) = IsInput sources.now ⊎ IsInput targets.now
ComesTwice false (Listed pairs) = ⊥
ComesTwice false (Table sources targets) = IsInput sources.now × IsInput targets.now

-- two texts of a job are the standard input
abbrev pub NamesInputTwice : Job → Type 0
NamesInputTwice (Batch network pairs delta) = (IsInput network.now × ComesTwice true pairs) ⊎ ComesTwice false pairs
NamesInputTwice (Ask store pairs routes delta) = ComesTwice false pairs
NamesInputTwice (Rehearse network script journal_pages room delta) = IsInput network.now × IsInput script.now
NamesInputTwice (Create store network landmarks journal_pages room) = IsInput network.now × IsInput landmarks.now
NamesInputTwice (Upgrade store old network new room) = IsInput old.now × IsInput network.now
NamesInputTwice job = ⊥

-- help, want of memory, which has no text, or a misuse
pub record IsUsage (usage : Usage) : Type 0 where
  pub known : usage.status ≤ 2
  pub memory : usage.status ≡ 1 → string_bytes usage.text ≡ []
