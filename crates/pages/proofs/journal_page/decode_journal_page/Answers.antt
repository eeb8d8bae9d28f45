use Rattle.std.proofs.Common.{◌≡◌, true, List, Vec, Global, length, arith, ap, sym, ◌∙◌}
use Rattle.std.specs.Prelude.{IsTrue}
use Rattle.std.specs.List.{list_all}
use Rattle.std.specs.Option.{option_map}
use Rattle.std.proofs.lemmas.Slice.{between_to_end}
use Rattle.std.proofs.lemmas.List.Elements.{All-from_recursion}
use Rattle.byteorder.specs.Endian.{big_number}
use Rattle.pages.specs.declared.content.Format.TheVariants.{Two}
use Rattle.pages.specs.declared.content.Record.{Record}
use Rattle.pages.specs.Grouping.{records_in, are_whole, is_of_format}
use Rattle.pages.specs.Spelling.{body, records_page, IsRecord}
use Rattle.pages.specs.Reading.{read_records}
use Rattle.pages.proofs.Grouped.{records_whole, records_again}
use Rattle.pages.proofs.Records.{all_are_of}
use Rattle.pages.proofs.Entries.{entry_read, same_page, found_none, found_fit, found_fits, found_records, found_numbers}
use Rattle.pages.proofs.journal_page.decode_journal_page.Goals as goal

pub returns-then-not-is_count : goal.returns-then-not-is_count
returns-then-not-is_count c = λ e spells.
    let page = c.args.page.now in
    let n : c.from-count.result ≡ length (records_in e.groups) = c.from-count.ensures ∙ c.read_u16.ensures ∙ ap (big_number 2) (between_to_end page 16 4096 (omega arith)) ∙ (entry_read c.args.format page e spells).count in
    let told : IsTrue c.is_count.result = c.is_count.ensures.1 (omega (arith, n, spells.fits.records.some), omega (arith, n, spells.fits.records.few)) in
    absurd (cc (told, c.if-not-is_count.true))

pub returns-in_default : goal.returns-in_default
returns-in_default c = λ e spells.
    let page = c.args.page.now in
    found_none c.args.format page e c.read_u64-sequence.result c.read_u64-first_number.result c.from-count.result spells (record {
      sequence = c.read_u64-sequence.ensures;
      first_number = c.read_u64-first_number.ensures ∙ ap (big_number 8) (between_to_end page 8 4096 (omega arith));
      count = c.from-count.ensures ∙ c.read_u16.ensures ∙ ap (big_number 2) (between_to_end page 16 4096 (omega arith));
      records = ap (option_map (λ (v : Vec Record Global). v.items)) (sym c.in_default.is) ∙ c.in_ok-records.ensures ∙ ap (read_records c.from-count.result) (between_to_end page 32 4096 (omega arith));
    })

pub returns-then-not-are_of_format : goal.returns-then-not-are_of_format
returns-then-not-are_of_format c = λ e spells.
    let page = c.args.page.now in
    let is = found_records c.args.format page e c.read_u64-sequence.result c.read_u64-first_number.result c.from-count.result c.in-Some.records.items spells (record {
      sequence = c.read_u64-sequence.ensures;
      first_number = c.read_u64-first_number.ensures ∙ ap (big_number 8) (between_to_end page 8 4096 (omega arith));
      count = c.from-count.ensures ∙ c.read_u16.ensures ∙ ap (big_number 2) (between_to_end page 16 4096 (omega arith));
      records = ap (option_map (λ (v : Vec Record Global). v.items)) (sym c.in-Some.is) ∙ c.in_ok-records.ensures ∙ ap (read_records c.from-count.result) (between_to_end page 32 4096 (omega arith));
    }) in
    let told : c.are_of_format.result ≡ true = c.are_of_format.ensures ∙ ap (list_all (is_of_format c.args.format)) (c.deref.ensures.value ∙ is) ∙ all_are_of c.args.format (records_in e.groups) spells.fits.records.each in
    absurd (cc (told, c.if-not-are_of_format.true))

pub returns-then-not-are_whole : goal.returns-then-not-are_whole
returns-then-not-are_whole c = λ e spells.
    let page = c.args.page.now in
    let is = found_records c.args.format page e c.read_u64-sequence.result c.read_u64-first_number.result c.from-count.result c.in-Some.records.items spells (record {
      sequence = c.read_u64-sequence.ensures;
      first_number = c.read_u64-first_number.ensures ∙ ap (big_number 8) (between_to_end page 8 4096 (omega arith));
      count = c.from-count.ensures ∙ c.read_u16.ensures ∙ ap (big_number 2) (between_to_end page 16 4096 (omega arith));
      records = ap (option_map (λ (v : Vec Record Global). v.items)) (sym c.in-Some.is) ∙ c.in_ok-records.ensures ∙ ap (read_records c.from-count.result) (between_to_end page 32 4096 (omega arith));
    }) in
    let told : c.are_whole.result ≡ true = c.are_whole.ensures ∙ ap are_whole (c.deref-2.ensures.value ∙ is) ∙ records_whole e.groups in
    absurd (cc (told, c.if-not-are_whole.true))

pub is_records_page-requires-clause-few : goal.is_records_page-requires-clause-few
is_records_page-requires-clause-few c =
    let page = c.args.page.now in
    let told : IsTrue c.is_count.result = cc (c.if-not-is_count.false) in
    let few = c.is_count.ensures.0 told in
    let fit = found_fit page c.read_u64-sequence.result c.read_u64-first_number.result c.from-count.result c.in-Some.records.items c.fits-page (record {
      sequence = c.read_u64-sequence.ensures;
      first_number = c.read_u64-first_number.ensures ∙ ap (big_number 8) (between_to_end page 8 4096 (omega arith));
      count = c.from-count.ensures ∙ c.read_u16.ensures ∙ ap (big_number 2) (between_to_end page 16 4096 (omega arith));
      records = ap (option_map (λ (v : Vec Record Global). v.items)) (sym c.in-Some.is) ∙ c.in_ok-records.ensures ∙ ap (read_records c.from-count.result) (between_to_end page 32 4096 (omega arith));
    }) few.0 few.1 in
    rw c.deref-3.ensures.value fit.few

pub is_records_page-requires-clause-fits : goal.is_records_page-requires-clause-fits
is_records_page-requires-clause-fits c =
    let page = c.args.page.now in
    let told : IsTrue c.is_count.result = cc (c.if-not-is_count.false) in
    let few = c.is_count.ensures.0 told in
    let fit = found_fit page c.read_u64-sequence.result c.read_u64-first_number.result c.from-count.result c.in-Some.records.items c.fits-page (record {
      sequence = c.read_u64-sequence.ensures;
      first_number = c.read_u64-first_number.ensures ∙ ap (big_number 8) (between_to_end page 8 4096 (omega arith));
      count = c.from-count.ensures ∙ c.read_u16.ensures ∙ ap (big_number 2) (between_to_end page 16 4096 (omega arith));
      records = ap (option_map (λ (v : Vec Record Global). v.items)) (sym c.in-Some.is) ∙ c.in_ok-records.ensures ∙ ap (read_records c.from-count.result) (between_to_end page 32 4096 (omega arith));
    }) few.0 few.1 in
    rw c.deref-3.ensures.value (All-from_recursion (IsRecord Two) c.in-Some.records.items fit.each)

pub returns-then-not-is_records_page : goal.returns-then-not-is_records_page
returns-then-not-is_records_page c = λ e spells.
    let page = c.args.page.now in
    let is = found_records c.args.format page e c.read_u64-sequence.result c.read_u64-first_number.result c.from-count.result c.in-Some.records.items spells (record {
      sequence = c.read_u64-sequence.ensures;
      first_number = c.read_u64-first_number.ensures ∙ ap (big_number 8) (between_to_end page 8 4096 (omega arith));
      count = c.from-count.ensures ∙ c.read_u16.ensures ∙ ap (big_number 2) (between_to_end page 16 4096 (omega arith));
      records = ap (option_map (λ (v : Vec Record Global). v.items)) (sym c.in-Some.is) ∙ c.in_ok-records.ensures ∙ ap (read_records c.from-count.result) (between_to_end page 32 4096 (omega arith));
    }) in
    let numbers = found_numbers c.args.format page e c.read_u64-sequence.result c.read_u64-first_number.result c.from-count.result c.in-Some.records.items spells (record {
      sequence = c.read_u64-sequence.ensures;
      first_number = c.read_u64-first_number.ensures ∙ ap (big_number 8) (between_to_end page 8 4096 (omega arith));
      count = c.from-count.ensures ∙ c.read_u16.ensures ∙ ap (big_number 2) (between_to_end page 16 4096 (omega arith));
      records = ap (option_map (λ (v : Vec Record Global). v.items)) (sym c.in-Some.is) ∙ c.in_ok-records.ensures ∙ ap (read_records c.from-count.result) (between_to_end page 32 4096 (omega arith));
    }) in
    let told : IsTrue c.is_records_page.result = c.is_records_page.ensures.1 (spells.spelled ∙ sym (same_page e _ _ _ numbers.0 numbers.1 (c.deref-3.ensures.value ∙ is))) in
    absurd (cc (told, c.if-not-is_records_page.true))

pub returns : goal.returns
returns c =
    let page = c.args.page.now in
    let told : IsTrue c.is_count.result = cc (c.if-not-is_count.false) in
    let few = c.is_count.ensures.0 told in
    let of : c.are_of_format.result ≡ true = cc (c.if-not-are_of_format.false) in
    let whole : c.are_whole.result ≡ true = cc (c.if-not-are_whole.false) in
    let same : IsTrue c.is_records_page.result = cc (c.if-not-is_records_page.false) in
    let all_of = ap (list_all (is_of_format c.args.format)) (sym c.deref.ensures.value) ∙ sym c.are_of_format.ensures ∙ of in
    let all_whole = ap are_whole (sym c.deref-2.ensures.value) ∙ sym c.are_whole.ensures ∙ whole in
    record {
      fits = found_fits c.args.format page c.read_u64-sequence.result c.read_u64-first_number.result c.from-count.result c.in-Some.records.items c.fits-page (record {
        sequence = c.read_u64-sequence.ensures;
        first_number = c.read_u64-first_number.ensures ∙ ap (big_number 8) (between_to_end page 8 4096 (omega arith));
        count = c.from-count.ensures ∙ c.read_u16.ensures ∙ ap (big_number 2) (between_to_end page 16 4096 (omega arith));
        records = ap (option_map (λ (v : Vec Record Global). v.items)) (sym c.in-Some.is) ∙ c.in_ok-records.ensures ∙ ap (read_records c.from-count.result) (between_to_end page 32 4096 (omega arith));
      }) few.0 few.1 all_of all_whole;
      spelled = c.is_records_page.ensures.0 same
          ∙ ap (λ (rs : List Record). body (records_page c.read_u64-sequence.result c.read_u64-first_number.result rs)) (c.deref-3.ensures.value ∙ sym (records_again c.in-Some.records.items all_whole));
    }
