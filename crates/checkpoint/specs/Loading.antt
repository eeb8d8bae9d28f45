-- What a slot's pages say.
use Rattle.std.specs.Prelude.{◌≡◌, ℕ, ◌+◌, ◌-◌, ◌*◌, min, List, ◌++◌, length, take, drop, map, Option, Result, Ok}
use Rattle.roadnet.specs.declared.arcs.RoadArc.{RoadArc}
use Rattle.roadnet.specs.declared.refusals.Refusal.{Refusal}
use Rattle.roadnet.specs.Net.{Net}
use Rattle.pages.specs.declared.header.Header.{Header}
use Rattle.pages.specs.declared.content.Ends.{Ends}
use Rattle.pages.specs.declared.content.Slot.{Slot}
use Rattle.pages.specs.declared.content.Slot.TheVariants.{A, B}
use Rattle.pages.specs.Contents.{Head}
use Rattle.pages.specs.declared.content.Word.{Word}
use Rattle.pages.specs.Spelling.{ends_of, word_of}
use Rattle.pages.specs.Gates.{open_number}
use Rattle.pages.specs.Layout.{Arcs, HeadOf, Words, EndsOf, page_number, places_in_use}
use Rattle.storefile.specs.Judging.{◌>>=◌, spelled_at, arcs_in, words_in, head_in, current_slot, words_from, laid_from, network_from}

-- the head of a slot
abbrev pub head_from : (ℕ → List ℕ) → Header → Slot → Result Head Refusal
head_from pages h slot = spelled_at (page_number h (HeadOf slot)) (head_in h (pages (page_number h (HeadOf slot))))

-- the head of a slot, and then its network, whose first arcs have these ends
abbrev pub loaded_from : (ℕ → List ℕ) → Header → Slot → List Ends → Result (Head × Net) Refusal
loaded_from pages h slot ends = do
  head ← head_from pages h slot
  words ← words_from pages h slot head.arcs
  laid ← laid_from pages h slot head.arcs
  Ok (head, network_from h (ends ++ laid) words head)

-- the words of so many arcs, and then the ends of those that the arc pages do not have
abbrev pub parts_from : (ℕ → List ℕ) → Header → Slot → ℕ → Result (List Word × List Ends) Refusal
parts_from pages h slot arcs = do
  words ← words_from pages h slot arcs
  laid ← laid_from pages h slot arcs
  Ok (words, laid)

-- the slot has this number at the front of its head, where its gate is open
abbrev pub HasFront : (ℕ → List ℕ) → Header → Slot → Option ℕ → Type 0
HasFront pages h slot n = open_number (pages (page_number h (HeadOf slot))) ≡ n

-- the current slot of each file whose slots have these numbers there
abbrev pub IsCurrentBy : Header → Option ℕ → Option ℕ → Result Slot Refusal → Type 0
IsCurrentBy h a b slot = (pages : ℕ → List ℕ) → HasFront pages h A a → HasFront pages h B b → current_slot pages h ≡ slot

-- the arcs that the arc pages do not have got the ends that the slot's end pages say
abbrev pub HasLaid : (ℕ → List ℕ) → Header → Slot → List RoadArc → List RoadArc → Type 0
HasLaid pages h slot old new = laid_from pages h slot (length old) ≡ Ok (map ends_of (drop h.arcs new))

-- the network of these arcs, with the landmarks of this head and this room
abbrev pub net_of : Header → List RoadArc → Head → ℕ → Net
net_of h arcs head room = record { nodes = h.nodes; arcs = arcs; landmarks = head.landmarks; room = room }

-- ---- what one page says, and what is put of it

-- the ends on the i-th arc page; of so many arcs, the words on the i-th word page of a slot, and the ends on its i-th end page
abbrev pub ends_told : Header → ℕ → List ℕ → Result (List Ends) Refusal
ends_told h i bytes = spelled_at (page_number h (Arcs i)) (arcs_in h.nodes (places_in_use 511 i h.arcs) bytes)

abbrev pub words_of_page : Header → Slot → ℕ → ℕ → List ℕ → Result (List Word) Refusal
words_of_page h slot m i bytes = spelled_at (page_number h (Words slot i)) (words_in (places_in_use 1023 i m) bytes)

abbrev pub laid_of_page : Header → Slot → ℕ → ℕ → List ℕ → Result (List Ends) Refusal
laid_of_page h slot m i bytes = spelled_at (page_number h (EndsOf slot i)) (arcs_in h.nodes (places_in_use 511 i (m - h.arcs)) bytes)

-- the arcs whose ends a page says stand behind those before them
pub record EndsArePut (said : Result (List Ends) Refusal) (old new : List RoadArc) : Type 0 where
  pub ends : List Ends
  pub said_is : said ≡ Ok ends
  pub put : map ends_of new ≡ map ends_of old ++ ends

-- the arcs whose words a page says stand behind those before them
pub record WordsArePut (said : Result (List Word) Refusal) (old new : List RoadArc) : Type 0 where
  pub words : List Word
  pub said_is : said ≡ Ok words
  pub put : map word_of new ≡ map word_of old ++ words

-- the words of the i-th word page are put
abbrev pub PutsWords : Header → Slot → ℕ → List ℕ → List RoadArc → List RoadArc → Type 0
PutsWords h slot i bytes old new =
    WordsArePut (words_of_page h slot (length old) i bytes) (take (min (1023 * i) (length old)) old) (take (min (1023 * (i + 1)) (length old)) new)

-- the ends of the i-th end page are put
abbrev pub PutsLaid : Header → Slot → ℕ → List ℕ → List RoadArc → List RoadArc → Type 0
PutsLaid h slot i bytes old new =
    EndsArePut (laid_of_page h slot (length old) i bytes) (take (min (511 * i) (length old - h.arcs)) (drop h.arcs old)) (take (min (511 * (i + 1)) (length old - h.arcs)) (drop h.arcs new))
