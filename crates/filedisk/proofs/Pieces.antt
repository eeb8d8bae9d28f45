-- Bytes that are read or written in pieces.
use Rattle.std.proofs.Common.{◌≡◌, ◌∙◌, ℕ, ◌+◌, ◌-◌, ◌≤◌, max, List, [], ◌++◌, length, take, drop, replicate, sym, ap, arith, append_assoc, append-nil, length-append, length-take, length-drop, drop_of_length-le, inr, inl}
use Rattle.std.specs.Prelude.{slice_range}
use borrow.Rule.Slice.PartMut.{put_mid}
use Rattle.std.proofs.lemmas.Bool.{cases_lt}
use Rattle.std.proofs.lemmas.List.{take-append-le, length-replicate, take-append-drop, drop-drop, take_all}
use Rattle.std.proofs.lemmas.Slice.{drop-append-drop}
use Rattle.std.proofs.Math.Seq.{take-add, take-append_seam, drop-append_seam, take-length}
use Rattle.disk.specs.Contents.{overwritten, Torn, PartlyWritten}
use Rattle.filedisk.specs.Files.{lengthened}

-- ---- what is written
pub written_none : (old bytes : List ℕ) (at : ℕ) → old ≡ overwritten old at (take 0 bytes)
written_none old bytes at =
    let none : at + length (take 0 bytes) ≡ at = omega (arith, length-take 0 bytes) in
    sym (ap (λ (n : ℕ). (take at old ++ take 0 bytes) ++ drop n old) none ∙ ap (λ (l : List ℕ). l ++ drop at old) (append-nil (take at old)) ∙ take-append-drop at old)

pub written_all : (old bytes : List ℕ) (at done : ℕ) → length bytes ≤ done → done ≤ length bytes → overwritten old at (take done bytes) ≡ overwritten old at bytes
written_all old bytes at done least most =
    let all : done ≡ length bytes = omega (arith, least, most) in
    ap (λ (w : List ℕ). overwritten old at w) (ap (λ (n : ℕ). take n bytes) all ∙ take-length bytes)

module _ (old bytes : List ℕ) (at done count : ℕ) (le : at + length bytes ≤ length old) (fits : done + count ≤ length bytes) where
  part_length : length (take done bytes) ≡ done
  part_length = omega (arith, length-take done bytes, fits)

  next_length : length (take count (drop done bytes)) ≡ count
  next_length = omega (arith, length-take count (drop done bytes), length-drop done bytes, fits)

  whole_length : length (take (done + count) bytes) ≡ done + count
  whole_length = omega (arith, length-take (done + count) bytes, fits)

  front_length : length (take at old ++ take done bytes) ≡ at + done
  front_length = omega (arith, length-append (take at old) (take done bytes), length-take at old, part_length, le)

  front : take (at + done) (overwritten old at (take done bytes)) ≡ take at old ++ take done bytes
  front =
      ap (λ (n : ℕ). take n ((take at old ++ take done bytes) ++ drop (at + length (take done bytes)) old)) (sym front_length)
      ∙ take-append_seam (take at old ++ take done bytes) (drop (at + length (take done bytes)) old)

  back : drop ((at + done) + length (take count (drop done bytes))) (overwritten old at (take done bytes)) ≡ drop ((at + done) + length (take count (drop done bytes))) old
  back = drop-append-drop (at + length (take done bytes)) old (take at old ++ take done bytes) ((at + done) + length (take count (drop done bytes)))
      (omega (arith, part_length)) (omega (arith, front_length, part_length))

  pub overwritten_more : overwritten (overwritten old at (take done bytes)) (at + done) (take count (drop done bytes)) ≡ overwritten old at (take (done + count) bytes)
  overwritten_more =
      let both : take done bytes ++ take count (drop done bytes) ≡ take (done + count) bytes = sym (take-add done count bytes) in
      let ends : (at + done) + length (take count (drop done bytes)) ≡ at + length (take (done + count) bytes) = omega (arith, next_length, whole_length) in
      ap (λ (l : List ℕ). (l ++ take count (drop done bytes)) ++ drop ((at + done) + length (take count (drop done bytes))) (overwritten old at (take done bytes))) front
      ∙ ap (λ (l : List ℕ). ((take at old ++ take done bytes) ++ take count (drop done bytes)) ++ l) back
      ∙ ap (λ (l : List ℕ). l ++ drop ((at + done) + length (take count (drop done bytes))) old) (append_assoc (take at old) (take done bytes) (take count (drop done bytes)))
      ∙ ap (λ (w : List ℕ). (take at old ++ w) ++ drop ((at + done) + length (take count (drop done bytes))) old) both
      ∙ ap (λ (n : ℕ). (take at old ++ take (done + count) bytes) ++ drop n old) ends

-- ---- a longer content
pub lengthened_none : (old : List ℕ) (size : ℕ) → size ≤ length old → lengthened old size ≡ old
lengthened_none old size le =
    let zero : size - length old ≡ 0 = omega (arith, le) in
    ap (λ (n : ℕ). old ++ replicate n 0) zero ∙ append-nil old

pub length-lengthened : (old : List ℕ) (size : ℕ) → length (lengthened old size) ≡ max (length old) size
length-lengthened old size = omega (arith, length-append old (replicate (size - length old) 0), length-replicate {A = ℕ} (size - length old) 0)

pub lengthened_written : (old bytes : List ℕ) (at : ℕ) → at ≤ length old → overwritten (lengthened old (at + length bytes)) at bytes ≡ overwritten old at bytes
lengthened_written old bytes at le =
    elim (cases_lt (length old) (at + length bytes)) [
      | inr all ↦ ap (λ (l : List ℕ). overwritten l at bytes) (lengthened_none old (at + length bytes) all)
      | inl short ↦
          let size : ℕ = at + length bytes in
          let new_end : drop size (lengthened old size) ≡ [] = drop_of_length-le (lengthened old size) (omega (arith, length-lengthened old size, short)) in
          let old_end : drop size old ≡ [] = drop_of_length-le old (omega (arith, short)) in
          ap (λ (l : List ℕ). (l ++ bytes) ++ drop size (lengthened old size)) (take-append-le at old (replicate (size - length old) 0) le)
          ∙ ap (λ (l : List ℕ). (take at old ++ bytes) ++ l) (new_end ∙ sym old_end)
    ]

-- a write that fails in a content that is long enough for it
pub partly_written : (at n : ℕ) (old mid new : List ℕ) → at ≤ length old → mid ≡ lengthened old (at + n) → Torn at n mid new → Torn at n old new → PartlyWritten at n old new
partly_written at n old mid new le is here torn =
    let long : length mid ≡ max (length old) (at + n) = ap length is ∙ length-lengthened old (at + n) in
    record { torn = torn; whole_length = inr (omega (arith, long, here.no_shorter, here.no_longer)) }

-- ---- one piece more
piece_written : (first mid new bytes : List ℕ) (at done count place : ℕ) → at + length bytes ≤ length first → done ≤ length bytes → count ≤ length (drop done bytes) → place ≡ at + done
    → mid ≡ overwritten first at (take done bytes) → new ≡ overwritten mid place (take count (drop done bytes)) → new ≡ overwritten first at (take (done + count) bytes)
piece_written first mid new bytes at done count place fits within most is before here =
    here ∙ ap (λ (l : List ℕ). overwritten l place (take count (drop done bytes))) before
    ∙ ap (λ (n : ℕ). overwritten (overwritten first at (take done bytes)) n (take count (drop done bytes))) is
    ∙ overwritten_more first bytes at done count fits (omega (arith, length-drop done bytes, within, most))

-- the part of a slice from here on is all of the rest
pub written_more : (first mid new bytes : List ℕ) (at done count place : ℕ) → at + length bytes ≤ length first → done ≤ length bytes → count ≤ length (take (length bytes - done) (drop done bytes)) → place ≡ at + done
    → mid ≡ overwritten first at (take done bytes) → new ≡ overwritten mid place (take count (take (length bytes - done) (drop done bytes))) → new ≡ overwritten first at (take (done + count) bytes)
written_more first mid new bytes at done count place fits within most is before here =
    let rest : take (length bytes - done) (drop done bytes) ≡ drop done bytes = take_all (length bytes - done) (drop done bytes) (omega (arith, length-drop done bytes)) in
    piece_written first mid new bytes at done count place fits within (omega (arith, most, ap length rest)) is before (here ∙ ap (λ (l : List ℕ). overwritten mid place (take count l)) rest)

pub written_within : (bytes : List ℕ) (done count : ℕ) → done ≤ length bytes → count ≤ length (take (length bytes - done) (drop done bytes)) → done + count ≤ length bytes
written_within bytes done count within most = omega (arith, within, most, length-take (length bytes - done) (drop done bytes), length-drop done bytes)

-- ---- what is read
pub read_none : (content into : List ℕ) (at : ℕ) → into ≡ slice_range content at (at + 0) ++ drop 0 into
read_none content into at =
    let none : (at + 0) - at ≡ 0 = omega arith in
    sym (ap (λ (n : ℕ). take n (drop at content) ++ into) none)

pub read_all : (content first into : List ℕ) (at done : ℕ) → length first ≤ done → done ≤ length first → into ≡ slice_range content at (at + done) ++ drop done first → into ≡ slice_range content at (at + length first)
read_all content first into at done least most e =
    let all : done ≡ length first = omega (arith, least, most) in
    let none : drop done first ≡ [] = drop_of_length-le first least in
    e ∙ ap (λ (l : List ℕ). slice_range content at (at + done) ++ l) none ∙ append-nil (slice_range content at (at + done)) ∙ ap (λ (n : ℕ). slice_range content at (at + n)) all

-- the front that was filled, and then what was read into the rest
pub read_more : (content first into new : List ℕ) (at done count place : ℕ) → at + length first ≤ length content → done ≤ length first → count ≤ length first - done → place ≡ at + done
    → into ≡ slice_range content at (at + done) ++ drop done first → new ≡ slice_range content place (place + count) ++ drop count (drop done into)
    → take done into ++ new ≡ slice_range content at (at + (done + count)) ++ drop (done + count) first
read_more content first into new at done count place fits within most is before here =
    let size : (at + done) - at ≡ done = omega arith in
    let size' : (place + count) - place ≡ count = omega arith in
    let size'' : (at + (done + count)) - at ≡ done + count = omega arith in
    let filled : into ≡ take done (drop at content) ++ drop done first = before ∙ ap (λ (n : ℕ). take n (drop at content) ++ drop done first) size in
    let long : length (take done (drop at content)) ≡ done = omega (arith, length-take done (drop at content), length-drop at content, fits, within) in
    let front : take done into ≡ take done (drop at content) =
    ap (take done) filled ∙ ap (λ (n : ℕ). take n (take done (drop at content) ++ drop done first)) (sym long) ∙ take-append_seam (take done (drop at content)) (drop done first) in
    let back : drop done into ≡ drop done first =
    ap (drop done) filled ∙ ap (λ (n : ℕ). drop n (take done (drop at content) ++ drop done first)) (sym long) ∙ drop-append_seam (take done (drop at content)) (drop done first) in
    let read : new ≡ take count (drop done (drop at content)) ++ drop (done + count) first =
    here ∙ ap (λ (n : ℕ). take n (drop place content) ++ drop count (drop done into)) size'
    ∙ ap (λ (l : List ℕ). take count l ++ drop count (drop done into)) (ap (λ (n : ℕ). drop n content) is ∙ sym (drop-drop done at content))
    ∙ ap (λ (l : List ℕ). take count (drop done (drop at content)) ++ l) (ap (drop count) back ∙ drop-drop count done first) in
    ap (λ (l : List ℕ). l ++ new) front ∙ ap (λ (l : List ℕ). take done (drop at content) ++ l) read
    ∙ sym (append_assoc (take done (drop at content)) (take count (drop done (drop at content))) (drop (done + count) first))
    ∙ ap (λ (l : List ℕ). l ++ drop (done + count) first) (sym (take-add done count (drop at content)))
    ∙ ap (λ (n : ℕ). take n (drop at content) ++ drop (done + count) first) (sym size'')

pub read_step : (content mid first into new : List ℕ) (at done count place k : ℕ) → at + length first ≤ length content → done ≤ length into → count ≤ length (take k (drop done into)) → place ≡ at + done
    → k ≡ length into - done → length into ≡ length first → mid ≡ content → into ≡ slice_range content at (at + done) ++ drop done first
    → new ≡ slice_range mid place (place + count) ++ drop count (take k (drop done into)) → put_mid done k into new ≡ slice_range content at (at + (done + count)) ++ drop (done + count) first
read_step content mid first into new at done count place k fits within most is size long same before here =
    let part : take k (drop done into) ≡ drop done into = take_all k (drop done into) (omega (arith, length-drop done into, size)) in
    let after : drop k (drop done into) ≡ [] = drop_of_length-le (drop done into) (omega (arith, length-drop done into, size)) in
    let some : count ≤ length first - done = omega (arith, most, length-take k (drop done into), length-drop done into, size, long, within) in
    let read : new ≡ slice_range content place (place + count) ++ drop count (drop done into) =
    here ∙ ap (λ (l : List ℕ). slice_range l place (place + count) ++ drop count (take k (drop done into))) same ∙ ap (λ (l : List ℕ). slice_range content place (place + count) ++ drop count l) part in
    ap (λ (l : List ℕ). take done into ++ (new ++ l)) after ∙ ap (λ (l : List ℕ). take done into ++ l) (append-nil new)
    ∙ read_more content first into new at done count place fits (omega (arith, within, long)) some is before read
