-- One piece more of a read or a write.
use Rattle.std.proofs.Common.{◌≡◌, ◌∙◌, ℕ, suc, ◌+◌, ◌-◌, ◌<◌, ◌≤◌, List, [], ◌++◌, length, take, drop, refl, sym, ap, subst, arith, append-nil, length-take, length-drop, drop_of_length-le}
use Rattle.std.proofs.lemmas.List.{take_all}
use Rattle.std.proofs.Math.Seq.{take-add, take-append_seam, drop-append_seam}
use borrow.Rule.Slice.PartMut.{put_mid}
use Rattle.filedisk.specs.Noted.{NotedCall, Read, Write, Told, Gave, Makes}
use Rattle.filedisk.specs.Whole.{WritesPieces, ReadsPieces}

pub writes_piece : (at : ℕ) (bytes : List ℕ) (old mid new : List NotedCall) (written count place k : ℕ) → 0 < count → place ≡ at + written → k ≡ length bytes - written
    → (pieces : ℕ) × WritesPieces at bytes old pieces written mid → Makes (Write place (take k (drop written bytes))) (Told count) mid new → (pieces : ℕ) × WritesPieces at bytes old pieces (written + count) new
writes_piece at bytes old mid new written count place k some here rest before made =
    let whole : take k (drop written bytes) ≡ drop written bytes = take_all k (drop written bytes) (omega (arith, length-drop written bytes, rest)) in
    (suc before.0, (written, count, mid, before.1, some, refl, subst (λ (n : ℕ). Makes (Write n (drop written bytes)) (Told count) mid new) here (subst (λ (l : List ℕ). Makes (Write place l) (Told count) mid new) whole made)))

-- what is filled, once the rest was read into in part
filled_front : (into new : List ℕ) (filled count k : ℕ) → filled ≤ length into → k ≡ length into - filled → take (filled + count) (put_mid filled k into new) ≡ take filled into ++ take count new
filled_front into new filled count k within rest =
    let front : List ℕ = take filled into in
    let long : length front ≡ filled = omega (arith, length-take filled into, within) in
    let after : drop k (drop filled into) ≡ [] = drop_of_length-le (drop filled into) (omega (arith, length-drop filled into, rest)) in
    ap (λ (l : List ℕ). take (filled + count) (front ++ (new ++ l))) after ∙ ap (λ (l : List ℕ). take (filled + count) (front ++ l)) (append-nil new)
    ∙ take-add filled count (front ++ new)
    ∙ ap (λ (n : ℕ). take n (front ++ new) ++ take count (drop n (front ++ new))) (sym long)
    ∙ ap (λ (l : List ℕ). l ++ take count (drop (length front) (front ++ new))) (take-append_seam front new)
    ∙ ap (λ (l : List ℕ). front ++ take count l) (drop-append_seam front new)

pub reads_piece : (at total : ℕ) (into new : List ℕ) (old mid after : List NotedCall) (filled count place k : ℕ) → 0 < count → place ≡ at + filled → filled ≤ length into → k ≡ length into - filled
    → length into ≡ total → length new ≡ length (take k (drop filled into)) → count ≤ length (take k (drop filled into))
    → (pieces : ℕ) × ReadsPieces at total old pieces (take filled into) mid → Makes (Read place (length (take k (drop filled into)))) (Gave (take count new)) mid after
    → (pieces : ℕ) × ReadsPieces at total old pieces (take (filled + count) (put_mid filled k into new)) after
reads_piece at total into new old mid after filled count place k some here within rest long same most before made =
    let front : length (take filled into) ≡ filled = omega (arith, length-take filled into, within) in
    let from : place ≡ at + length (take filled into) = omega (arith, here, front) in
    let asked : length (take k (drop filled into)) ≡ total - length (take filled into) = omega (arith, length-take k (drop filled into), length-drop filled into, rest, long, front) in
    let piece : 0 < length (take count new) = omega (arith, length-take count new, same, most, some) in (
      suc before.0,
      (
        take filled into,
        take count new,
        mid,
        before.1,
        piece,
        filled_front into new filled count k within rest,
        subst (λ (n : ℕ). Makes (Read n (total - length (take filled into))) (Gave (take count new)) mid after) from (subst (λ (n : ℕ). Makes (Read place n) (Gave (take count new)) mid after) asked made),
      ),
    )
