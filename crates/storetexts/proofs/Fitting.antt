-- Want of memory is told only of a file with a header that fits it; and what holds however a call ended.
use Rattle.std.proofs.Common.{◌≡◌, ◌∙◌, ℕ, List, length, None, Some, Result, Ok, Err, refl, sym, ap}
use Rattle.std.specs.Prelude.{IfErr, OnOk}
use Rattle.roadnet.specs.declared.refusals.Refusal.{Refusal}
use Rattle.roadnet.specs.declared.refusals.Refusal.TheVariants.{OutOfMemory}
use Rattle.pages.specs.declared.content.Format.TheVariants.{Two}
use Rattle.pages.specs.declared.header.Header.{Header}
use Rattle.storefile.specs.StoreFile.{page}
use Rattle.storefile.specs.Standing.{Standing, standing_in, standing_of}
use Rattle.store.specs.Opening.{header_from, HeaderFits}
use Rattle.store.proofs.Steps.{no_header}
use Rattle.printing.specs.declared.failed.Failed.{Failed}
use Rattle.printing.specs.declared.failed.Failed.TheVariants.{Code}
use Rattle.storetexts.specs.Refused.{IfNoMemory}

-- a file that stands for something has such a header
pub fits : (file : List ℕ) (standing : Standing) → standing_of file ≡ Some standing → HeaderFits file
fits file standing is = go _ refl
  where
    go : (said : Result Header Refusal) → header_from Two (length file) (page file 0) ≡ said → HeaderFits file
    go (Ok header) said = (header, said)
    go (Err refusal) said = absurd (let never : None ≡ Some standing = sym (ap standing_in (no_header Two (length file) (page file) refusal said)) ∙ is in cc)

pub memory_any : (failed : Failed) (P : Type 0) → P → IfNoMemory failed P
memory_any (Code OutOfMemory) P p = p
memory_any _ P p = tt

pub if_no_memory : {X : Type 0} (r : Result X Failed) (P : Type 0) → P → IfErr r (λ failed. IfNoMemory failed P)
if_no_memory (Ok done) P p = tt
if_no_memory (Err failed) P p = memory_any failed P p

pub if_ok : {X : Type 0} (r : Result X Failed) (P : Type 0) → P → OnOk r P
if_ok (Ok done) P p = p
if_ok (Err failed) P p = tt
