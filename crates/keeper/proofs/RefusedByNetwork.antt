-- For what a group is refused once nothing but the network may refuse it.
use Rattle.std.proofs.Common.{◌≡◌, ◌∙◌, ◌+◌, ◌<◌, ◌≤◌, false, Some, None, Option, ◌⊎◌, inl, inr, ⊎_elim, ap, subst, arith, cond, leb, ltb, length, List, [], ◌∷◌, lit≤, Bool, true}
use Rattle.std.specs.Prelude.{option_and_then, is_none}
use Rattle.std.proofs.lemmas.Bool.{le-ltb, lt-leb}
use Rattle.roadnet.specs.declared.groups.Group.{Group}
use Rattle.roadnet.specs.declared.refusals.Refusal.{Refusal}
use Rattle.roadnet.specs.declared.refusals.Refusal.TheVariants.{Broken, HistoryFull, VersionsExhausted, QueueFull, Closed}
use Rattle.roadnet.specs.Net.{Net}
use Rattle.roadnet.specs.Numbers.{number_of}
use Rattle.roadnet.specs.declared.commands.Command.{Command}
use Rattle.roadnet.specs.declared.commands.Command.TheVariants.{Set, Close, Reopen, Mark, Unmark, Lay}
use Rattle.roadnet.specs.Causes.{first_applying}
use Rattle.roadnet.specs.Step.{causes, changed, refusal_of, first_refusal}
use Rattle.machine.specs.Machine.{Machine, latest, pending, of_life, accepted_network, most_of_life, most_versions, most_pending}
use Rattle.machine.specs.Calls.{refusal_of_submit}

past : {X : Type 0} (b : Bool) (x : X) (rest other : Option X) → b ≡ false → rest ≡ other → cond b (Some x) rest ≡ other
past true x rest other h is = cc
past false x rest other h is = is

pub refused_by_network : (m : Machine) (group : Group) (net : Net)
    → m.broken ≡ false → of_life m + length group ≤ most_of_life → latest m < most_versions → pending m + length group ≤ most_pending → accepted_network m ≡ Some net
    → refusal_of_submit m group ≡ first_refusal net group
refused_by_network m group net works young counted room there =
    past m.broken _ _ _ works
    (past (ltb most_of_life (of_life m + length group)) _ _ _ (le-ltb most_of_life (of_life m + length group) young)
    (past (leb most_versions (latest m)) _ _ _ (lt-leb most_versions (latest m) counted)
    (past (ltb most_pending (pending m + length group)) _ _ _ (le-ltb most_pending (pending m + length group) room)
    (ap (λ (o : Option Net). option_and_then (λ n. first_refusal n group) o) there))))

-- ---- 61 is no refusal of the machine

-- the refusals of a table have numbers below that of a disk that failed
abbrev AreBelow : List (Refusal × Bool) → Type 0
AreBelow [] = Unit {0}
AreBelow (row ∷ rows) = (number_of row.0 < 43) × AreBelow rows

below_answer : (table : List (Refusal × Bool)) (refusal : Refusal) → AreBelow table → first_applying table ≡ Some refusal → number_of refusal < 43
below_answer [] refusal below e = absurd cc
below_answer (row ∷ rows) refusal below e =
    elim (row.1) as (λ b. cond b (Some row.0) (first_applying rows) ≡ Some refusal → number_of refusal < 43) [
      | true ↦ λ is. let same : row.0 ≡ refusal = cc in subst (λ (r : Refusal). number_of r < 43) same below.0
      | false ↦ λ is. below_answer rows refusal below.1 is
    ] e

below_refusal : (net : Net) (command : Command) (refusal : Refusal) → refusal_of net command ≡ Some refusal → number_of refusal < 43
below_refusal net (Set k w) refusal e = below_answer (causes net (Set k w)) refusal (lit≤ tt, (lit≤ tt, tt)) e
below_refusal net (Close k) refusal e = below_answer (causes net (Close k)) refusal (lit≤ tt, (lit≤ tt, tt)) e
below_refusal net (Reopen k) refusal e = below_answer (causes net (Reopen k)) refusal (lit≤ tt, (lit≤ tt, tt)) e
below_refusal net (Mark x) refusal e = below_answer (causes net (Mark x)) refusal (lit≤ tt, (lit≤ tt, (lit≤ tt, tt))) e
below_refusal net (Unmark x) refusal e = below_answer (causes net (Unmark x)) refusal (lit≤ tt, (lit≤ tt, tt)) e
below_refusal net (Lay t h w) refusal e = below_answer (causes net (Lay t h w)) refusal (lit≤ tt, (lit≤ tt, (lit≤ tt, tt))) e

here_or_later : (here later : Option Refusal) (refusal : Refusal) → cond (is_none here) later here ≡ Some refusal → (later ≡ Some refusal) ⊎ (here ≡ Some refusal)
here_or_later None later refusal e = inl e
here_or_later (Some found) later refusal e = inr e

below_first : (net : Net) (commands : List Command) (refusal : Refusal) → first_refusal net commands ≡ Some refusal → number_of refusal < 43
below_first net [] refusal e = absurd cc
below_first net (command ∷ commands) refusal e =
    ⊎_elim (λ later. below_first (changed net command) commands refusal later) (λ here. below_refusal net command refusal here) (here_or_later (refusal_of net command) (first_refusal (changed net command) commands) refusal e)

told_or : (b : Bool) (x : Refusal) (rest : Option Refusal) (r : Refusal) → cond b (Some x) rest ≡ Some r → (x ≡ r) ⊎ (rest ≡ Some r)
told_or true x rest r e = inl cc
told_or false x rest r e = inr e

by_network : (o : Option Net) (group : Group) (r : Refusal) → option_and_then (λ net. first_refusal net group) o ≡ Some r → number_of r < 43
by_network None group r e = absurd cc
by_network (Some net) group r e = below_first net group r e

pub not_closed : (m : Machine) (group : Group) (r : Refusal) → refusal_of_submit m group ≡ Some r → r ≡ Closed → ⊥
not_closed m group r told is =
    ⊎_elim (λ (e : Broken ≡ r). let never : Broken ≡ Closed = e ∙ is in absurd cc)
    (λ two. ⊎_elim (λ (e : HistoryFull ≡ r). let never : HistoryFull ≡ Closed = e ∙ is in absurd cc)
    (λ three. ⊎_elim (λ (e : VersionsExhausted ≡ r). let never : VersionsExhausted ≡ Closed = e ∙ is in absurd cc)
    (λ four. ⊎_elim (λ (e : QueueFull ≡ r). let never : QueueFull ≡ Closed = e ∙ is in absurd cc)
    (λ last. let below : number_of r < 43 = by_network (accepted_network m) group r last in let never : 61 < 43 = subst (λ (x : Refusal). number_of x < 43) is below in absurd (omega (arith, never)))
    (told_or (ltb most_pending (pending m + length group)) QueueFull _ r four))
    (told_or (leb most_versions (latest m)) VersionsExhausted _ r three))
    (told_or (ltb most_of_life (of_life m + length group)) HistoryFull _ r two))
    (told_or m.broken Broken _ r told)
