-- A store made of two readers' texts, and the refusals of these.
use Rattle.std.proofs.Common.{◌≡◌, ◌∙◌, ◌⊎◌, inl, inr, ℕ, ◌≤◌, List, length, Option, None, Some, Result, Ok, Err, refl, ap}
use Rattle.std.specs.Prelude.{IfSome, IfOk, IfErr, OnOk}
use Rattle.roadnet.specs.declared.refusals.Refusal.{Refusal}
use Rattle.roadnet.specs.declared.refusals.Refusal.TheVariants.{Write, Device, NotEmpty, OutOfMemory}
use Rattle.roadnet.specs.Net.{Net, IsRoomFor, most_landmarks}
use Rattle.disk.specs.Contents.{Only}
use Rattle.storefile.specs.StoreFile.{StandsTidyFor}
use Rattle.store.specs.Migrating.{room_of, roomed}
use Rattle.store.specs.Created.{IsNewFile}
use Rattle.store.specs.State.{checkpoint_pages_of}
use Rattle.dimacs.specs.Content.{content}
use Rattle.dimacs.specs.Texts.{Source}
use Rattle.printing.specs.declared.failed.Failed.{Failed}
use Rattle.printing.specs.declared.failed.Failed.TheVariants.{Code}
use Rattle.printing.specs.Failing.{CountsWrites}
use Rattle.storetexts.specs.Created.{landmarks_of, with_landmarks, IsNetworkOf, IsRefusedPlan, IsOfNetwork, IsOfMaking, IsRefusedNetwork, GiveNetwork, IsRefusedCreate, IsNewStore, IsNewStoreOf}
use Rattle.storetexts.specs.Refused.{IfDone, IfNotEmpty, IfNoMemory, CountsDevice}

done_weaker : (r : Result (Unit {0}) Failed) (P Q : Type 0) → (P → Q) → IfDone r P → IfDone r Q
done_weaker (Ok done) P Q f h = f h
done_weaker (Err (Code Write)) P Q f h = f h
done_weaker (Err failed) P Q f h = tt

pub done_any : (r : Result (Unit {0}) Failed) (P : Type 0) → P → IfDone r P
done_any (Ok done) P p = p
done_any (Err (Code Write)) P p = p
done_any (Err failed) P p = tt

pub made_so : (net : Net) (pages : ℕ) (content : List ℕ) (left : List ℕ → Type 0) → StandsTidyFor pages (checkpoint_pages_of (length net.arcs) net) content net 0 → IsNewFile pages net 0 content → Only content left → IsNewStore net pages content left
made_so net pages content left stands file only = record { stands = stands; file = file; only = only }

both_known : (room : Option ℕ) (a b : Option (List ℕ)) (net : Net) (pages : ℕ) (content : List ℕ) (left : List ℕ → Type 0)
    → IfSome a (λ n. IfSome b (λ l. IsNetworkOf n l room net)) → IsNewStore net pages content left → IfSome a (λ n. IfSome b (λ l. IsNewStoreOf n l room pages content left))
both_known room None b net pages content left is made = tt
both_known room (Some n) None net pages content left is made = tt
both_known room (Some n) (Some l) net pages content left is made = record { net = net; network_is = is; made = made }

pub made_of_both : (r : Result (Unit {0}) Failed) (room : Option ℕ) (a b : Option (List ℕ)) (net : Net) (pages : ℕ) (content : List ℕ) (left : List ℕ → Type 0)
    → IfSome a (λ n. IfSome b (λ l. IsNetworkOf n l room net)) → IfDone r (IsNewStore net pages content left) → IfDone r (IfSome a (λ n. IfSome b (λ l. IsNewStoreOf n l room pages content left)))
made_of_both r room a b net pages content left is made = done_weaker r _ _ (both_known room a b net pages content left is) made

module _ (failed : Failed) (of : IsOfNetwork failed) where
  pub network_not_empty : (P : Type 0) → IfNotEmpty failed P
  network_not_empty P = go failed of
    where
      go : (f : Failed) → IsOfNetwork f → IfNotEmpty f P
      go (Code NotEmpty) h = absurd h
      go _ h = tt

  -- no call of the disk is made
  pub network_device : (n : ℕ) → CountsDevice {X = Unit {0}} n n (Err failed)
  network_device n = go failed of
    where
      go : (f : Failed) → IsOfNetwork f → CountsDevice {X = Unit {0}} n n (Err f)
      go (Code Device) h = absurd h
      go (Code Write) h = tt
      go _ h = refl

  pub network_counts : (n : ℕ) → CountsWrites {X = Unit {0}} n n (Err failed)
  network_counts n = go failed of
    where
      go : (f : Failed) → IsOfNetwork f → CountsWrites {X = Unit {0}} n n (Err f)
      go (Code Write) h = absurd h
      go _ h = refl

-- ---- what is refused
making_refused : (n l : List ℕ) (room : Option ℕ) (ns ls : Source) (failed : Failed) → GiveNetwork n l room → IsOfMaking failed → IsRefusedCreate n l room ns ls failed
making_refused n l room ns ls (Code NotEmpty) give h = give
making_refused n l room ns ls (Code Device) give h = give
making_refused n l room ns ls (Code Write) give h = give
making_refused n l room ns ls (Code OutOfMemory) give h = give.1.given
making_refused n l room ns ls _ give h = absurd h

-- both texts were read, and no network is made of them
plan_refused : (n l : List ℕ) (room : Option ℕ) (ns ls : Source) (net : Net) (marks : List ℕ) (refusal : Refusal) → content n ≡ Ok net → landmarks_of net l ≡ Ok marks → IsRefusedPlan net marks room refusal
    → IsRefusedNetwork n l room ns ls (Code refusal)
plan_refused n l room ns ls net marks refusal network marks_are (inl (inl many)) = rw many.0 (record { net = net; network_is = network; holds = (marks, marks_are, many.1) })
plan_refused n l room ns ls net marks refusal network marks_are (inl (inr memory)) = rw memory.0 (record { net = net; network_is = network; marks = marks; marks_are = marks_are; few = memory.1 })
plan_refused n l room ns ls net marks refusal network marks_are (inr none) = rw none.0 (record { net = net; network_is = network; marks = marks; marks_are = marks_are; few = none.1 }, none.2)

-- the same of what making it answers
pub plan_told_known : {X : Type 0} (r : Result X Refusal) (a b : Option (List ℕ)) (room : Option ℕ) (ns ls : Source) (net : Net) (marks : List ℕ) → IfSome a (λ n. content n ≡ Ok net)
    → IfSome b (λ l. landmarks_of net l ≡ Ok marks) → IfErr r (IsRefusedPlan net marks room) → IfErr r (λ refusal. IfSome a (λ n. IfSome b (λ l. IsRefusedNetwork n l room ns ls (Code refusal))))
plan_told_known (Ok made) a b room ns ls net marks network marks_are why = tt
plan_told_known (Err refusal) None b room ns ls net marks network marks_are why = tt
plan_told_known (Err refusal) (Some n) None room ns ls net marks network marks_are why = tt
plan_told_known (Err refusal) (Some n) (Some l) room ns ls net marks network marks_are why = plan_refused n l room ns ls net marks refusal network marks_are why

-- ---- landmarks, and then a room
-- landmarks don't bear on the room
same_room : (net : Net) (marks : List ℕ) (room : Option ℕ) → room_of (with_landmarks net marks) room ≡ room_of net room
same_room net marks None = refl
same_room net marks (Some n) = refl

module _ (net marked : Net) (marks : List ℕ) (room : Option ℕ) (is : marked ≡ with_landmarks net marks) where
  pub marked_room : (made : Net) → made ≡ roomed marked room → made ≡ roomed (with_landmarks net marks) room
  marked_room made made_is = made_is ∙ ap (λ (n : Net). roomed n room) is

  pub room_fits : IsRoomFor marked (room_of marked room) → IsRoomFor net (room_of net room)
  room_fits fits = rw (is, same_room net marks room) at fits

  pub no_room : ¬ IsRoomFor marked (room_of marked room) → ¬ IsRoomFor net (room_of net room)
  no_room unfit fits = unfit (rw (is, same_room net marks room) fits)

-- both texts were read, and a network was made of them
made_network : (n l : List ℕ) (room : Option ℕ) (net made : Net) (marks : List ℕ) → content n ≡ Ok net → landmarks_of net l ≡ Ok marks → length marks ≤ most_landmarks → IsRoomFor net (room_of net room)
    → made ≡ roomed (with_landmarks net marks) room → IsNetworkOf n l room made
made_network n l room net made marks network marks_are few fits is = record { given = record { net = net; network_is = network; marks = marks; marks_are = marks_are; few = few }; fits = fits; made_is = is }

pub network_told_known : {E : Type 0} (r : Result Net E) (a b : Option (List ℕ)) (room : Option ℕ) (net : Net) (marks : List ℕ) → IfSome a (λ n. content n ≡ Ok net) → IfSome b (λ l. landmarks_of net l ≡ Ok marks)
    → OnOk r (length marks ≤ most_landmarks) → OnOk r (IsRoomFor net (room_of net room)) → IfOk r (λ made. made ≡ roomed (with_landmarks net marks) room)
    → IfOk r (λ made. IfSome a (λ n. IfSome b (λ l. IsNetworkOf n l room made)))
network_told_known (Err e) a b room net marks network marks_are few fits is = tt
network_told_known (Ok made) None b room net marks network marks_are few fits is = tt
network_told_known (Ok made) (Some n) None room net marks network marks_are few fits is = tt
network_told_known (Ok made) (Some n) (Some l) room net marks network marks_are few fits is = made_network n l room net made marks network marks_are few fits is

network_refused : (n l : List ℕ) (room : Option ℕ) (ns ls : Source) (failed : Failed) → IsRefusedNetwork n l room ns ls failed → IsRefusedCreate n l room ns ls failed
network_refused n l room ns ls (Code NotEmpty) h = absurd h
network_refused n l room ns ls (Code Device) h = absurd h
network_refused n l room ns ls (Code Write) h = absurd h
network_refused n l room ns ls _ h = h

pub network_refused_known : (a b : Option (List ℕ)) (room : Option ℕ) (ns ls : Source) (failed : Failed) → IfSome a (λ n. IfSome b (λ l. IsRefusedNetwork n l room ns ls failed)) → IfSome a (λ n. IfSome b (λ l. IsRefusedCreate n l room ns ls failed))
network_refused_known None b room ns ls failed h = tt
network_refused_known (Some n) None room ns ls failed h = tt
network_refused_known (Some n) (Some l) room ns ls failed h = network_refused n l room ns ls failed h

pub all_making_refused_known : (r : Result (Unit {0}) Failed) (a b : Option (List ℕ)) (room : Option ℕ) (ns ls : Source) (net : Net) → IfSome a (λ n. IfSome b (λ l. IsNetworkOf n l room net)) → IfErr r IsOfMaking → IfErr r (λ failed. IfSome a (λ n. IfSome b (λ l. IsRefusedCreate n l room ns ls failed)))
all_making_refused_known (Ok done) a b room ns ls net is h = tt
all_making_refused_known (Err failed) None b room ns ls net is h = tt
all_making_refused_known (Err failed) (Some n) None room ns ls net is h = tt
all_making_refused_known (Err failed) (Some n) (Some l) room ns ls net is h = making_refused n l room ns ls failed (net, is) h

pub making_kinds : (r : Result (Unit {0}) Failed) → IfErr r IsOfMaking → IfErr r (λ failed. IsOfNetwork failed ⊎ IsOfMaking failed)
making_kinds (Ok done) h = tt
making_kinds (Err failed) h = inr h

memory_so : (failed : Failed) (P Q : Type 0) → (P → Q) → IfNoMemory failed P → IfNoMemory failed Q
memory_so (Code OutOfMemory) P Q f h = f h
memory_so _ P Q f h = tt

pub memory_first : (r : Result (Unit {0}) Failed) (P Q : Type 0) → IfErr r (λ failed. IfNoMemory failed P) → IfErr r (λ failed. IfNoMemory failed (P ⊎ Q))
memory_first (Ok done) P Q h = tt
memory_first (Err failed) P Q h = memory_so failed P (P ⊎ Q) (λ p. inl p) h

pub memory_second : (failed : Failed) (P Q : Type 0) → Q → IfNoMemory failed (P ⊎ Q)
memory_second (Code OutOfMemory) P Q q = inr q
memory_second _ P Q q = tt
