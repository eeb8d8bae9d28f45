-- The laws of right replies.
use Rattle.std.proofs.Common.{◌≡◌, ◌∙◌, ℕ, ◌≤◌, ◌⊎◌, inl, inr, Option, None, Some, refl, sym, ap, ⊎_elim, arith}
use Rattle.roadnet.specs.declared.refusals.Refusal.{Refusal}
use Rattle.roadnet.specs.Net.{Net}
use Rattle.roadnet.specs.Walks.{length_of}
use Rattle.roadnet.proofs.Joined.{least_is_one, least_or_no_walk}
use Rattle.rows.specs.declared.queries.Query.{Query}
use Rattle.rows.specs.declared.queries.Query.TheVariants.{Dist, From, Lower}
use Rattle.rows.specs.declared.queries.Reply.{Reply}
use Rattle.rows.specs.declared.queries.Reply.TheVariants.{Length, NoWalk, AtLeast, Refused}
use Rattle.rows.specs.Replies.{IsDistance, IsToldByLandmarks, IsAnswer, IsRight, query_refusal_of}
use Rattle.rows.specs.ReplyLaws.{RightIsOne, BoundUnderDistance, ShownHasNoWalk}
use Rattle.rows.proofs.BoundLaws.{bound_is_below, bound_is_one, bound_or_shown, shown_is_true}

one_distance : (net : Net) (s t : ℕ) (first second : Reply) → IsDistance net s t first → IsDistance net s t second → first ≡ second
one_distance net s t (Length d) (Length e) a b = ap Length (least_is_one net s t d e a b)
one_distance net s t (Length d) NoWalk a b = absurd (least_or_no_walk net s t d a b)
one_distance net s t (Length d) (AtLeast e) a b = absurd b
one_distance net s t (Length d) (Refused r) a b = absurd b
one_distance net s t NoWalk (Length e) a b = absurd (least_or_no_walk net s t e b a)
one_distance net s t NoWalk NoWalk a b = refl
one_distance net s t NoWalk (AtLeast e) a b = absurd b
one_distance net s t NoWalk (Refused r) a b = absurd b
one_distance net s t (AtLeast d) second a b = absurd a
one_distance net s t (Refused r) second a b = absurd a

one_told : (net : Net) (s t : ℕ) (first second : Reply) → IsToldByLandmarks net s t first → IsToldByLandmarks net s t second → first ≡ second
one_told net s t (AtLeast d) (AtLeast e) a b = ap AtLeast (bound_is_one net s t d e a b)
one_told net s t (AtLeast d) NoWalk a b = absurd (bound_or_shown net s t d a b)
one_told net s t (AtLeast d) (Length e) a b = absurd b
one_told net s t (AtLeast d) (Refused r) a b = absurd b
one_told net s t NoWalk (AtLeast e) a b = absurd (bound_or_shown net s t e b a)
one_told net s t NoWalk NoWalk a b = refl
one_told net s t NoWalk (Length e) a b = absurd b
one_told net s t NoWalk (Refused r) a b = absurd b
one_told net s t (Length d) second a b = absurd a
one_told net s t (Refused r) second a b = absurd a

one_answer : (net : Net) (query : Query) (first second : Reply) → IsAnswer net query first → IsAnswer net query second → first ≡ second
one_answer net (Dist s t) first second a b = one_distance net s t first second a b
one_answer net (From l t) first second a b = one_distance net l t first second a b
one_answer net (Lower s t) first second a b = one_told net s t first second a b

abbrev Answers : Net → Query → Reply → Type 0
Answers net query reply = (query_refusal_of net query ≡ None) × IsAnswer net query reply

abbrev Refuses : Net → Query → Reply → Type 0
Refuses net query reply = (r : Refusal) × (reply ≡ Refused r) × (query_refusal_of net query ≡ Some r)

cases : (net : Net) (query : Query) (reply : Reply) → IsRight net query reply → Answers net query reply ⊎ Refuses net query reply
cases net query (Length d) right = inl right
cases net query NoWalk right = inl right
cases net query (AtLeast d) right = inl right
cases net query (Refused r) right = inr (r, refl, right)

never : {X : Type 0} (o : Option X) (x : X) → o ≡ None → o ≡ Some x → ⊥
never o x none some = let e : None ≡ Some x = sym none ∙ some in cc

same_refusal : (first second : Reply) (o : Option Refusal) (r q : Refusal) → first ≡ Refused r → o ≡ Some r → second ≡ Refused q → o ≡ Some q → first ≡ second
same_refusal first second o r q a b c d = let same : r ≡ q = cc in a ∙ ap Refused same ∙ sym c

pub right_is_one : RightIsOne
right_is_one net query first second a b =
    ⊎_elim
    (λ (x : Answers net query first). ⊎_elim (λ (y : Answers net query second). one_answer net query first second x.1 y.1)
    (λ (y : Refuses net query second). absurd (never (query_refusal_of net query) y.0 x.0 y.2)) (cases net query second b))
    (λ (x : Refuses net query first). ⊎_elim (λ (y : Answers net query second). absurd (never (query_refusal_of net query) x.0 y.0 x.2))
    (λ (y : Refuses net query second). same_refusal first second (query_refusal_of net query) x.0 y.0 x.1 x.2 y.1 y.2) (cases net query second b))
    (cases net query first a)

pub bound_under_distance : BoundUnderDistance
bound_under_distance net s t bound distance a b =
    let below : bound ≤ length_of net b.1.walked.0 = bound_is_below net s t bound b.1.walked.0 a.1 b.1.walked.1 in
    let same : length_of net b.1.walked.0 ≡ distance = b.1.walked.2 in
    omega (arith, below, same)

pub shown_has_no_walk : ShownHasNoWalk
shown_has_no_walk net s t a = (a.0, shown_is_true net s t a.1)
