-- What the program says of failures.
use Rattle.std.specs.Prelude.{◌≡◌, ◌⊎◌, ℕ, Bool, true, false, List, Option, None, Some, option_map, unwrap_or, ◌==◌, if◌then◌else◌, Result, Ok, Err, MatchResult, ⊤}
use lib.Chars.{codes}
use Rattle.roadnet.specs.declared.refusals.Refusal.{Refusal}
use Rattle.roadnet.specs.declared.refusals.Refusal.TheVariants.{Damaged, Device, HistoryFull, NotAStore, NotEmpty, OtherNetwork, OutOfMemory, TooLarge, WrongFormat, Write}
use Rattle.store.specs.Opening.{MayRefuseToOpen, IsStoreFile}
use Rattle.dimacs.specs.declared.fault.Code.TheVariants.{Read}
use Rattle.printing.specs.declared.failed.Failed.{Failed}
use Rattle.printing.specs.declared.failed.Failed.TheVariants.{Text, Code}
use Rattle.words.specs.declared.pipes.PipePair.{PipePair}
use Rattle.words.specs.Pipes.{pipe_named}
use Rattle.words.specs.declared.jobs.PairTexts.{PairTexts}
use Rattle.words.specs.declared.jobs.PairTexts.TheVariants.{Listed, Table}
use Rattle.words.specs.declared.jobs.Job.{Job}
use Rattle.words.specs.declared.jobs.Job.TheVariants.{Joint, Once, Route, Batch, Reach, Reached, Rehearse, Create, Apply, Ask, Check, Serve, Migrate, Copy, Upgrade, Show, Export}

-- the failure is one of the call's first text
abbrev pub is_of_first : Failed → Bool
is_of_first (Text which fault) = which == 0
is_of_first (Code refusal) = false

-- the failure is one of the call's second text
abbrev pub is_of_second : Failed → Bool
is_of_second (Text which fault) = which == 1
is_of_second (Code refusal) = false

-- the failure is one of the call's third name: the file of a store, or of a third text
abbrev pub is_of_third : Failed → Bool
is_of_third (Text which fault) = which == 2
is_of_third (Code refusal) = false

-- the name of the pipe of which a failure is, 3 and on, or that of the store
abbrev pub pipe_name : List ℕ → List PipePair → Failed → List ℕ
pipe_name store pairs (Text which fault) = pipe_named store pairs which
pipe_name store pairs (Code refusal) = store

-- the name of the folder of copies, if there is one
abbrev pub folder_name : List ℕ → Option (List ℕ) → List ℕ
folder_name store copies = unwrap_or copies store

-- the name of the text of pairs of which a failure is: that of the targets of a table where they are told of, else that of its sources
abbrev pub pairs_name : PairTexts → Bool → List ℕ
pairs_name (Listed pairs) of_targets = pairs.now
pairs_name (Table sources targets) of_targets = if of_targets then targets.now else sources.now

-- by what name a fault line calls the text of a failure
abbrev pub text_name : Job → Failed → List ℕ
text_name (Joint delta) failed = if is_of_first failed then codes "net" else codes "script"
text_name (Once network source target delta) failed = network.now
text_name (Route network source target delta) failed = network.now
text_name (Batch network pairs delta) failed = if is_of_first failed then network.now else pairs_name pairs (is_of_third failed)
text_name (Reach network source within delta) failed = network.now
text_name (Reached network target within delta) failed = network.now
text_name (Rehearse network script journal_pages room delta) failed = if is_of_first failed then network.now else script.now
text_name (Create store network landmarks journal_pages room) failed =
    if is_of_first failed then network.now else if is_of_second failed then landmarks.now else store.now
text_name (Apply store commands delta) failed = if is_of_first failed then commands.now else store.now
text_name (Ask store pairs routes delta) failed = if is_of_third failed then store.now else pairs_name pairs (is_of_second failed)
text_name (Check store) failed = store.now
text_name (Serve store pipes copies delta workers patience) failed =
    if is_of_second failed then folder_name store.now (option_map (λ folder. folder.now) copies) else pipe_name store.now pipes.items failed
text_name (Migrate old new room) failed = if is_of_first failed then old.now else new.now
text_name (Upgrade store old network new room) failed =
    if is_of_first failed then old.now else if is_of_second failed then network.now else if is_of_third failed then new.now else store.now
text_name (Copy store file room journal_pages) failed = if is_of_first failed then store.now else file.now
text_name (Show store look) failed = store.now
text_name (Export store folder) failed = if is_of_second failed then folder.now else store.now

-- the store that a job opens, if it opens one
abbrev pub opened_store : Job → Option (List ℕ)
opened_store (Apply store commands delta) = Some store.now
opened_store (Ask store pairs routes delta) = Some store.now
opened_store (Check store) = Some store.now
opened_store (Serve store pipes copies delta workers patience) = Some store.now
opened_store (Migrate old new room) = Some old.now
opened_store (Upgrade store old network new room) = Some store.now
opened_store (Copy store file room journal_pages) = Some store.now
opened_store (Show store look) = Some store.now
opened_store (Export store folder) = Some store.now
opened_store job = None

-- the store that a job makes, if it makes one
abbrev pub made_store : Job → Option (List ℕ)
made_store (Create store network landmarks journal_pages room) = Some store.now
made_store (Migrate old new room) = Some new.now
made_store (Upgrade store old network new room) = Some new.now
made_store (Copy store file room journal_pages) = Some file.now
made_store job = None

-- the text from which the store of a job is said to have been made, if there is one
abbrev pub old_map : Job → Option (List ℕ)
old_map (Upgrade store old network new room) = Some old.now
old_map job = None

-- the store that a job serves, if it serves one
abbrev pub served_store : Job → Option (List ℕ)
served_store (Serve store pipes copies delta workers patience) = Some store.now
served_store job = None

-- what a refusal is about that names nothing
abbrev pub refused_file : Job → Refusal → Option (List ℕ)
refused_file job NotAStore = opened_store job
refused_file job WrongFormat = opened_store job
refused_file job (Damaged page) = opened_store job
refused_file job NotEmpty = made_store job
refused_file job OtherNetwork = old_map job
refused_file job Device = served_store job
refused_file job TooLarge = Some (codes "--room")
refused_file job refusal = None

-- what is told of a file that can't be opened
abbrev pub unopened : ℕ → Failed
unopened which = Text which (record { line = 0; code = Read })

-- a text's file is not read: it can't be opened, or memory ran out
abbrev pub IsFileUnopened : ℕ → Failed → Type 0
IsFileUnopened which failed = (failed ≡ unopened which) ⊎ (failed ≡ Code OutOfMemory)

-- the second text's file is not read, or the first text has a fault
abbrev pub IsFaultOrUnopened : Failed → Type 0
IsFaultOrUnopened failed = (is_of_first failed ≡ true) ⊎ IsFileUnopened 1 failed

-- the failure is one of this text
abbrev pub IsFaultOf : ℕ → Failed → Type 0
IsFaultOf which (Text text fault) = text ≡ which
IsFaultOf which (Code refusal) = ⊥

-- the third text's file is not read, or one of the first two has a fault or is not read
abbrev pub IsTableUnread : Failed → Type 0
IsTableUnread failed = IsFaultOrUnopened failed ⊎ (IsFaultOf 1 failed ⊎ IsFileUnopened 2 failed)

-- what is told of a store in this file, and of a text that is not read: that failure where the store opens, else a refusal of the store
abbrev pub IsToldAfterOpening : List ℕ → Failed → Failed → Type 0
IsToldAfterOpening file failed told =
    (IsStoreFile file × (told ≡ failed)) ⊎ ((refusal : Refusal) × (told ≡ Code refusal) × MayRefuseToOpen file refusal)

-- the same where a text stands before it, which is read for the store: its fault is told first
abbrev pub IsToldAfterSources : List ℕ → Failed → Failed → Type 0
IsToldAfterSources file failed told =
    (IsStoreFile file × (IsFaultOf 0 told ⊎ (told ≡ failed))) ⊎ ((refusal : Refusal) × (told ≡ Code refusal) × MayRefuseToOpen file refusal)

-- there is no file for a new store: it can't be opened, its name can't be made durable, or memory ran out
abbrev pub IsFileUnmade : Failed → Type 0
IsFileUnmade failed = (failed ≡ unopened 2) ⊎ ((failed ≡ Code Device) ⊎ (failed ≡ Code OutOfMemory))

-- there is no new file for a text: one of its name is there, it can't be made in the folder, or memory ran out
abbrev pub IsTextUnmade : Failed → Type 0
IsTextUnmade failed = (failed ≡ Code NotEmpty) ⊎ IsFileUnopened 1 failed

-- the texts of a network are not written out: one has no new file, or one could not be written or made durable
abbrev pub IsTextUnwritten : Failed → Type 0
IsTextUnwritten failed = IsTextUnmade failed ⊎ (failed ≡ Code Device)

-- the new store is there, whether or not this could be told
abbrev pub IsStoreMade : {T : Type 0} → Result T Failed → Type 0
IsStoreMade outcome = MatchResult outcome (λ _. ⊤) (λ failed. failed ≡ Code Write)

-- the exit status of a job: 0 where it is done, 3 where a server is to be started again, and 1 after any other fault
abbrev pub job_status : {T : Type 0} → Result T Failed → ℕ
job_status (Ok done) = 0
job_status (Err (Code HistoryFull)) = 3
job_status (Err failed) = 1
