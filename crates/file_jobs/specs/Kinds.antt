-- What a job works on.
use Rattle.file_jobs.specs.declared.running.Kind.{Kind}
use Rattle.file_jobs.specs.declared.running.Kind.TheVariants.{Texts, NewStore, OldStore, Served}
use Rattle.words.specs.declared.jobs.Job.{Job}
use Rattle.words.specs.declared.jobs.Job.TheVariants.{Joint, Once, Route, Batch, Reach, Reached, Rehearse, Create, Apply, Ask, Check, Serve, Migrate, Copy, Upgrade, Show, Export}

-- texts alone, a store that it makes, one that is there, or one that it serves
abbrev pub kind_of : Job → Kind
kind_of (Joint delta) = Texts
kind_of (Once network source target delta) = Texts
kind_of (Route network source target delta) = Texts
kind_of (Batch network pairs delta) = Texts
kind_of (Reach network source within delta) = Texts
kind_of (Reached network target within delta) = Texts
kind_of (Rehearse network script journal_pages room delta) = Texts
kind_of (Create store network landmarks journal_pages room) = NewStore
kind_of (Apply store commands delta) = OldStore
kind_of (Ask store pairs routes delta) = OldStore
kind_of (Check store) = OldStore
kind_of (Serve store pipes copies delta workers patience) = Served
kind_of (Migrate old new room) = NewStore
kind_of (Copy store file room journal_pages) = NewStore
kind_of (Upgrade store old network new room) = NewStore
kind_of (Show store look) = OldStore
kind_of (Export store folder) = OldStore
