-- Answers from the view that is shown.
use Rattle.std.proofs.Common.{◌≡◌, ℕ, Option, None, Some, Result, Ok, Err, refl, ◌∙◌, subst}
use Rattle.std.specs.Prelude.{IsErr, IsSome}
use Rattle.roadnet.specs.declared.refusals.OutOfMemory.{OutOfMemory}
use Rattle.roadnet.specs.declared.refusals.Refusal.{Refusal}
use Rattle.roadnet.specs.Net.{Net}
use Rattle.rows.specs.declared.queries.Query.{Query}
use Rattle.rows.specs.declared.queries.Query.TheVariants.{Dist, From, Lower}
use Rattle.rows.specs.Replies.{IsRight, query_refusal_of}
use Rattle.machine.specs.declared.calls.Answer.{Answer}
use Rattle.machine.specs.Machine.{Machine}
use Rattle.machine.specs.Calls.{Asks, TakesRow}
use Rattle.keeper.specs.Keeping.{IsViewed}
use Rattle.keeper.specs.Parts.{or_out_of_memory}

none_of : (o : Option Refusal) → (IsSome o → ⊥) → o ≡ None
none_of None never = refl
none_of (Some refusal) never = absurd (never refl)

-- a query that is not answered takes a row
takes_row : (net : Net) (query : Query) → (IsSome (query_refusal_of net query) → ⊥) → ((l t : ℕ) → query ≡ From l t → ⊥) → ((s t : ℕ) → query ≡ Lower s t → ⊥) → TakesRow query net
takes_row net (Dist s t) refused landmark lower = none_of (query_refusal_of net (Dist s t)) refused
takes_row net (From l t) refused landmark lower = landmark l t refl
takes_row net (Lower s t) refused landmark lower = lower s t refl

-- a reply from a view of the shown version and network
pub asked : (m : Machine) (shown : Net) (shared : Option Net) (query : Query) (version : ℕ) (network : Net) (answer : Answer) → IsViewed m shown shared → version ≡ m.shown → network ≡ shown
    → answer.version ≡ version → IsRight network query answer.reply → Asks m query (Ok answer) m
asked m shown shared query version network answer k v n told right = (told ∙ v, (shown, k.shown_is, subst (λ (x : Net). IsRight x query answer.reply) n right), refl)

-- want of memory, which only a query that takes a row meets
pub unanswered : (m : Machine) (shown : Net) (shared : Option Net) (query : Query) (network : Net) (result : Result Answer OutOfMemory) → IsErr result → IsViewed m shown shared → network ≡ shown
    → (IsSome (query_refusal_of network query) → ⊥) → ((l t : ℕ) → query ≡ From l t → ⊥) → ((s t : ℕ) → query ≡ Lower s t → ⊥) → Asks m query (or_out_of_memory result) m
unanswered m shown shared query network (Ok answer) is k n refused landmark lower = cc
unanswered m shown shared query network (Err e) is k n refused landmark lower = (refl, (shown, k.shown_is, subst (TakesRow query) n (takes_row network query refused landmark lower)), refl)
