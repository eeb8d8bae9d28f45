-- Of rows some lead: those that tell enough of the source.
use Rattle.std.proofs.Common.{◌≡◌, ◌∙◌, ℕ, ◌<◌, ◌≤◌, ◌⊎◌, max, List, [], ◌∷◌, map, fold, filter, Bool, true, false, cond, refl, ap, arith, inl, inr}
use Rattle.std.proofs.lemmas.Bool.{cases_lt, leb-true, leb-false}
use Rattle.std.specs.Prelude.{nat_le}
use Rattle.rows.specs.Guides.{AreRowsAlike, TellNoMore, leading, tells_at_least, potential_by, potential_of, potential_toward}
use Rattle.rows.specs.declared.guides.Toward.{Toward}
use Rattle.rows.specs.declared.landmark_rows.Row.{Row}

-- of fewer rows the greatest is no more
fewer_step : (f : Row → ℕ) (p : Row → Bool) (row : Row) (rows : List Row) → ((a b : ℕ) → a ≤ b → fold max a (map f (filter p rows)) ≤ fold max b (map f rows))
    → (a b : ℕ) → a ≤ b → (passes : Bool) → fold max a (map f (cond passes (row ∷ filter p rows) (filter p rows))) ≤ fold max (max b (f row)) (map f rows)
fewer_step f p row rows rest a b h true = rest (max a (f row)) (max b (f row)) (omega (arith, h))
fewer_step f p row rows rest a b h false = rest a (max b (f row)) (omega (arith, h))

greatest_of_fewer : (f : Row → ℕ) (p : Row → Bool) (rows : List Row) (a b : ℕ) → a ≤ b → fold max a (map f (filter p rows)) ≤ fold max b (map f rows)
greatest_of_fewer f p [] a b h = h
greatest_of_fewer f p (row ∷ rows) a b h = fewer_step f p row rows (greatest_of_fewer f p rows) a b h (p row)

-- two numbers are the same, or the one is no more than the other, which is less than the least
abbrev AreEven : ℕ → ℕ → ℕ → Type 0
AreEven least a b = (a ≡ b) ⊎ ((a ≤ b) × (b < least))

even_with : (least a b n : ℕ) → AreEven least a b → least ≤ n → max a n ≡ max b n
even_with least a b n (inl e) h = ap (λ m. max m n) e
even_with least a b n (inr l) h = omega (arith, l.0, l.1, h)

even_without : (least a b n : ℕ) → AreEven least a b → n < least → AreEven least a (max b n)
even_without least a b n (inr l) h = inr (omega (arith, l.0), omega (arith, l.1, h))
even_without least a b n (inl e) h = elim (cases_lt b n) as (λ _. AreEven least a (max b n)) [
  | inl less ↦ inr (omega (arith, e), omega (arith, h, less))
  | inr le ↦ inl (omega (arith, e, le))
]

-- where the greatest of all is as much as the least that is asked for, it is among those that are as much
leads_step : (f : Row → ℕ) (least : ℕ) (row : Row) (rows : List Row)
    → ((a b : ℕ) → AreEven least a b → least ≤ fold max b (map f rows) → fold max a (map f (filter (λ r. nat_le least (f r)) rows)) ≡ fold max b (map f rows))
    → (a b : ℕ) → AreEven least a b → least ≤ fold max (max b (f row)) (map f rows) → (passes : Bool) → nat_le least (f row) ≡ passes
    → fold max a (map f (cond passes (row ∷ filter (λ r. nat_le least (f r)) rows) (filter (λ r. nat_le least (f r)) rows))) ≡ fold max (max b (f row)) (map f rows)
leads_step f least row rows rest a b even h true e = rest (max a (f row)) (max b (f row)) (inl (even_with least a b (f row) even (leb-true least (f row) e))) h
leads_step f least row rows rest a b even h false e = rest a (max b (f row)) (even_without least a b (f row) even (leb-false least (f row) e)) h

greatest_leads : (f : Row → ℕ) (least : ℕ) (rows : List Row) (a b : ℕ) → AreEven least a b → least ≤ fold max b (map f rows) → fold max a (map f (filter (λ r. nat_le least (f r)) rows)) ≡ fold max b (map f rows)
greatest_leads f least [] a b (inl e) h = e
greatest_leads f least [] a b (inr l) h = absurd (omega (arith, l.1, h))
greatest_leads f least (row ∷ rows) a b even h = leads_step f least row rows (greatest_leads f least rows) a b even h (nat_le least (f row)) refl

-- what leads tells of no node more than all rows, and of the source as much
pub leaders_tell_no_more : (towards : List Toward) (least target source : ℕ) (rows : List Row) → AreRowsAlike towards (leading least target source rows) target → TellNoMore towards rows target
leaders_tell_no_more towards least target source rows alike u =
    let less : potential_of (leading least target source rows) target u ≤ potential_of rows target u = greatest_of_fewer (λ (row : Row). potential_by row.distances target u) (tells_at_least least target source) rows 0 0 (omega arith) in
    omega (arith, alike u, less)

pub leaders_tell_the_source : (towards : List Toward) (least target source : ℕ) (rows : List Row) → AreRowsAlike towards (leading least target source rows) target → least ≤ potential_of rows target source
    → potential_toward towards source ≡ potential_of rows target source
leaders_tell_the_source towards least target source rows alike some =
    alike source ∙ greatest_leads (λ (row : Row). potential_by row.distances target source) least rows 0 0 (inl refl) some
