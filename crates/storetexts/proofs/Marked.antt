-- Nodes marked one after the other.
use Rattle.std.proofs.Common.{◌≡◌, ◌∙◌, ℕ, ◌+◌, ◌<◌, ◌≤◌, Bool, true, false, cond, List, [], Option, Some, None, length, get_or, take, sym, ap}
use Rattle.std.specs.Prelude.{is_none}
use Rattle.std.specs.List.Sorted.{IsStrictlyIncreasing}
use Rattle.std.proofs.lemmas.List.{take_all}
use Rattle.roadnet.specs.declared.commands.Command.{Command}
use Rattle.roadnet.specs.declared.commands.Command.TheVariants.{Mark}
use Rattle.roadnet.specs.Members.{set_of, with_member}
use Rattle.roadnet.specs.Net.{Net}
use Rattle.roadnet.specs.Step.{refusal_of, changed, step}
use Rattle.roadnet.proofs.Members.{set_of_more}
use Rattle.dimacs.proofs.Sets.{set_of_ascending}
use Rattle.storetexts.specs.Created.{with_landmarks}

-- a step changes the network as its command says
pub stepped : (net next : Net) (command : Command) → step net command ≡ Some next → next ≡ changed net command
stepped net next command made = go (is_none (refusal_of net command)) made
  where
    go : (b : Bool) → ◌≡◌ {A = Option Net} (cond b (Some (changed net command)) None) (Some next) → next ≡ changed net command
    go true e = cc
    go false e = cc

pub marked_first : (net : Net) → net.landmarks ≡ [] → net ≡ with_landmarks net []
marked_first net bare = ap (with_landmarks net) bare

pub marked_more : (net old new : Net) (marks : List ℕ) (i x : ℕ) → i < length marks → x ≡ get_or marks i 0
    → old ≡ with_landmarks net (set_of (take i marks)) → step old (Mark x) ≡ Some new → new ≡ with_landmarks net (set_of (take (i + 1) marks))
marked_more net old new marks i x lt is before made =
    stepped old new (Mark x) made
    ∙ (ap (λ (n : Net). changed n (Mark x)) before
    ∙ (ap (λ (y : ℕ). with_landmarks net (with_member y (set_of (take i marks)))) is
    ∙ ap (with_landmarks net) (sym (set_of_more marks i lt))))

pub marked_all : (net last : Net) (marks : List ℕ) (i : ℕ) → IsStrictlyIncreasing marks → length marks ≤ i
    → last ≡ with_landmarks net (set_of (take i marks)) → last ≡ with_landmarks net marks
marked_all net last marks i up end is =
    is ∙ ap (with_landmarks net) (ap set_of (take_all i marks end) ∙ set_of_ascending marks up)
