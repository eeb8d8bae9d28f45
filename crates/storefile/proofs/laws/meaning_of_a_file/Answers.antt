use Rattle.std.proofs.Common.{◌≡◌, ◌∙◌, ℕ, ◌+◌, List, length, Ok, ap, refl, sym, arith}
use Rattle.pages.specs.declared.content.Format.{Format}
use Rattle.pages.specs.declared.content.Format.TheVariants.{One, Two}
use Rattle.pages.specs.Formats.{format_number_of}
use Rattle.roadnet.specs.Net.{Net}
use Rattle.storefile.specs.StoreFile.{page, Stored, StandsIn, groups_of, next_sequence}
use Rattle.storefile.specs.Judging.{opened_in, refusal_in}
use Rattle.storefile.proofs.Rests.{stored_as, standing_is}
use Rattle.storefile.proofs.Networks.{stores_networks, stands_for_networks}
use Rattle.storefile.proofs.Opening.{opened_whole, ok_same, format_found}
use Rattle.storefile.proofs.Whole.{opened_is, not_refused}
use Rattle.storefile.proofs.laws.meaning_of_a_file.Goals as goal

-- a file that stands for something is opened in its format
opened_as : (format : Format) (file : List ℕ) (net : Net) (v q : ℕ) (a : StandsIn format file net v q) → opened_in format file ≡ Ok (a.0, net)
opened_as format file net v q a = ap (λ (f : Format). opened_in f file) (sym a.2) ∙ opened_whole (length file) (page file) a.0 net a.1.is a.1.gives.network

pub returns-clause-at_most_one : goal.returns-clause-at_most_one
returns-clause-at_most_one c = λ format file net net' v v' q q' a b.
    let e = opened_as format file net v q a in
    let f = opened_as format file net' v' q' b in
    let same = ok_same (a.0, net) (b.0, net') (sym e ∙ f) in (
      ap (λ (x : Stored × Net). x.1) same,
      a.1.gives.version_is ∙ ap (λ (x : Stored × Net). x.0.version + length (groups_of x.0)) same ∙ sym b.1.gives.version_is,
      a.1.next_is ∙ ap (λ (x : Stored × Net). next_sequence x.0) same ∙ sym b.1.next_is,
    )

pub returns-clause-one_format : goal.returns-clause-one_format
returns-clause-one_format c = λ file net net' v v' q q' a b.
    let one : format_number_of a.0.header.format ≡ format_number_of b.0.header.format = sym (format_found (page file 0) a.0.header a.1.is.header) ∙ format_found (page file 0) b.0.header b.1.is.header in
    let both : format_number_of One ≡ format_number_of Two = ap format_number_of (sym a.2) ∙ one ∙ ap format_number_of b.2 in
    absurd (omega (arith, both))

pub returns-clause-not_refused : goal.returns-clause-not_refused
returns-clause-not_refused c = λ format file net v q a. ap refusal_in (opened_as format file net v q a)

pub returns-clause-unless_refused : goal.returns-clause-unless_refused
returns-clause-unless_refused c = λ format file e.
    let x = not_refused (opened_in format file) e in
    let is = opened_is format (length file) (page file) x.0 x.1 in
    (x.0.1, x.0.0.version + length (groups_of x.0.0), next_sequence x.0.0, (x.0.0, record { is = is.0; gives = record { network = is.1; version_is = refl }; next_is = refl }, is.2))

pub returns-clause-networks : goal.returns-clause-networks
returns-clause-networks c = stores_networks

pub returns-clause-stands_for_networks : goal.returns-clause-stands_for_networks
returns-clause-stands_for_networks c = stands_for_networks

pub returns-clause-told : goal.returns-clause-told
returns-clause-told c = λ file x. (stored_as file x, standing_is file x.header x.slot x.epoch x.network x.version x.next x.unchecked)
