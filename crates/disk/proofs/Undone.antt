-- A write that is undone.
use Rattle.std.proofs.Common.{◌≡◌, ⊎_elim, ℕ, ◌+◌, ◌-◌, ◌≤◌, min, List, [], ◌++◌, length, take, drop, sym, ◌∙◌, ap, arith, append_assoc, length-take, length-drop, length-append, take-append-drop}
use Rattle.std.proofs.lemmas.Bool.{cases_lt}
use Rattle.std.proofs.lemmas.List.{take_all, drop_all, take_at, drop_at, take-take, drop-drop}
use Rattle.std.proofs.Math.Seq.{sets, sets-eq}
use Rattle.disk.specs.Contents.{overwritten}
use Rattle.disk.proofs.Overwritten.{length-overwritten}

take-overwritten : (old bytes : List ℕ) (at : ℕ) → at ≤ length old → take at (overwritten old at bytes) ≡ take at old
take-overwritten old bytes at le =
    ap (λ (l : List ℕ). take at l) (append_assoc (take at old) bytes (drop (at + length bytes) old))
    ∙ take_at (take at old) (bytes ++ drop (at + length bytes) old) at (omega (arith, length-take at old))

drop-overwritten : (old bytes : List ℕ) (at : ℕ) → at ≤ length old → drop (at + length bytes) (overwritten old at bytes) ≡ drop (at + length bytes) old
drop-overwritten old bytes at le =
    drop_at (take at old ++ bytes) (drop (at + length bytes) old) (at + length bytes) (omega (arith, length-append (take at old) bytes, length-take at old))

-- the end of it, in what it covers of the old content
end : (old bytes : List ℕ) (at n : ℕ) → at ≤ length old → n ≡ min (length bytes) (length old - at) → drop (at + n) (take (length old) (overwritten old at bytes)) ≡ drop (at + n) old
end old bytes at n le is = ⊎_elim
    (λ fits.
    let same : n ≡ length bytes = omega arith in
    let whole : take (length old) (overwritten old at bytes) ≡ overwritten old at bytes = take_all (length old) (overwritten old at bytes) (omega (arith, length-overwritten old bytes at le)) in
    ap (λ (l : List ℕ). drop (at + n) l) whole ∙ ap (λ (k : ℕ). drop (at + k) (overwritten old at bytes)) same
    ∙ drop-overwritten old bytes at le ∙ sym (ap (λ (k : ℕ). drop (at + k) old) same))
    (λ passes.
    let none : drop (at + n) (take (length old) (overwritten old at bytes)) ≡ [] = drop_all (at + n) (take (length old) (overwritten old at bytes)) (omega (arith, length-take (length old) (overwritten old at bytes))) in
    none ∙ sym (drop_all (at + n) old (omega arith)))
    (cases_lt (at + length bytes) (length old + 1))

pub undone : (old bytes : List ℕ) (at n : ℕ) → at ≤ length old → n ≡ min (length bytes) (length old - at)
    → sets (take (length old) (overwritten old at bytes)) at (take (length bytes) (take n (drop at old))) ≡ old
undone old bytes at n le is =
    let written = take (length old) (overwritten old at bytes) in
    let part = take n (drop at old) in
    let long : length part ≡ n = omega (arith, length-take n (drop at old), length-drop at old) in
    let all_of : take (length bytes) part ≡ part = take_all (length bytes) part (omega (arith, long)) in
    let size : length written ≡ length old = omega (arith, length-take (length old) (overwritten old at bytes), length-overwritten old bytes at le) in
    let front : take at written ≡ take at old = take-take at (length old) (overwritten old at bytes) le ∙ take-overwritten old bytes at le in
    ap (λ (r : List ℕ). sets written at r) all_of
    ∙ sets-eq part written at (omega (arith, long, size))
    ∙ ap (λ (k : ℕ). take at written ++ part ++ drop (at + k) written) long
    ∙ ap (λ (l : List ℕ). l ++ part ++ drop (at + n) written) front
    ∙ ap (λ (l : List ℕ). take at old ++ part ++ l) (end old bytes at n le is)
    ∙ append_assoc (take at old) part (drop (at + n) old)
    ∙ ap (λ (l : List ℕ). take at old ++ (part ++ l)) (sym (drop-drop n at old))
    ∙ ap (λ (l : List ℕ). take at old ++ l) (take-append-drop n (drop at old))
    ∙ take-append-drop at old
