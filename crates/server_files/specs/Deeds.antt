-- What a door did last with the pipes of its pair, and what it did before that.
use Rattle.server_files.specs.declared.deeds.Deed.{Deed}
use Rattle.server_files.specs.declared.deeds.Deeds.{Deeds}

-- the same after one more deed
abbrev pub with_deed : Deed → Deeds → Deeds
with_deed deed deeds = record { last = deed; before = deeds.last; earlier = deeds.before }
