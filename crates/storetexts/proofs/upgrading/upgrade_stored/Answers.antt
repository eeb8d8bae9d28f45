use Rattle.std.proofs.Common.{◌∙◌, inl, inr, ap}
use Rattle.store.specs.State.{told}
use Rattle.storetexts.specs.Upgraded.{fit_pages}
use Rattle.storetexts.proofs.Upgraded.{journal_fits}
use Rattle.storetexts.proofs.upgrading.upgrade_stored.Goals as goal

pub returns-in-Err-clause-refused : goal.returns-in-Err-clause-refused
returns-in-Err-clause-refused g c = inl (c.in-Err.ensures.causes, c.in-Err.ensures.judged)

pub returns-in-Ok-upgraded-clause-made : goal.returns-in-Ok-upgraded-clause-made
returns-in-Ok-upgraded-clause-made g c = record {
  stored = told c.in-Ok.store;
  stands = c.in-Ok.ensures.told;
  made_is = rw c.network.ensures at c.in-Ok-upgraded.ensures.made;
  counts_are = rw c.network.ensures at c.in-Ok-upgraded.ensures.counted;
  pages_are = λ honest. c.fit_pages-journal_pages.ensures.same ∙ (ap fit_pages c.journal_pages.ensures ∙ journal_fits (g.O.Disk.content c.args.stored) (told c.in-Ok.store) (c.in-Ok.ensures.told honest));
}

pub returns-in-Err-upgraded-clause-refused : goal.returns-in-Err-upgraded-clause-refused
returns-in-Err-upgraded-clause-refused g c = inr (told c.in-Ok.store, c.in-Ok.ensures.told, rw c.network.ensures at c.in-Err-upgraded.ensures.refused)
