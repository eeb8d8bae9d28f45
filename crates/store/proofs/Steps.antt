-- Opening a file in its parts.
use Rattle.std.proofs.Common.{◌≡◌, ℕ, ◌*◌, Bool, true, false, List, ◌++◌, Option, None, Some, Result, Ok, Err, refl, sym, ap, ◌∙◌, arith}
use Rattle.std.specs.Prelude.{◌==◌, IfOk}
use Rattle.roadnet.specs.declared.commands.Command.{Command}
use Rattle.roadnet.specs.declared.refusals.Refusal.{Refusal}
use Rattle.roadnet.specs.declared.refusals.Refusal.TheVariants.{NotAStore, WrongFormat, Damaged}
use Rattle.roadnet.specs.Net.{Net}
use Rattle.pages.specs.declared.header.Header.{Header}
use Rattle.pages.specs.declared.content.Format.{Format}
use Rattle.pages.specs.declared.content.Format.TheVariants.{One, Two}
use Rattle.pages.specs.Formats.{format_number_of}
use Rattle.pages.specs.declared.content.Slot.{Slot}
use Rattle.pages.specs.declared.content.Ends.{Ends}
use Rattle.pages.specs.declared.content.Word.{Word}
use Rattle.pages.specs.Contents.{Head}
use Rattle.pages.specs.Layout.{page_count}
use Rattle.storefile.specs.StoreFile.{Stored}
use Rattle.storefile.specs.Judging.{◌>>=◌, unless_so, spelled_at, begins_as_store, format_of, header_in, ends_from, current_slot, words_from, laid_from, network_from, journal_from, opened_from}
use Rattle.storefile.specs.Standing.{Standing}
use Rattle.checkpoint.specs.Loading.{head_from, loaded_from}
use Rattle.store.specs.Opening.{header_from, Current, current_from}

-- what holds of an answer that is handed on
pub of_found : {X Y : Type 0} (r : Result X Y) (A B Z : X → Type 0) → IfOk r A → IfOk r B → ((x : X) → A x → B x → Z x) → IfOk r Z
of_found (Ok x) A B Z a b f = f x a b
of_found (Err y) A B Z a b f = tt

bind_same : {X Y : Type 0} (r : Result X Refusal) (f f' : X → Result Y Refusal) → ((x : X) → f x ≡ f' x) → (r >>= f) ≡ (r >>= f')
bind_same (Ok x) f f' e = e x
bind_same (Err d) f f' e = refl

sized : {H Z : Type 0} (c : Result (Unit {0}) Refusal) (x : H) (goes_on : H → Result Z Refusal) → ((c >>= λ _. Ok x) >>= goes_on) ≡ (c >>= λ _. goes_on x)
sized (Err d) x goes_on = refl
sized (Ok u) x goes_on = refl

header_steps : {H Z : Type 0} (a b : Result (Unit {0}) Refusal) (h : Result H Refusal) (c : H → Result (Unit {0}) Refusal) (goes_on : H → Result Z Refusal)
    → ((a >>= λ _. b >>= λ _. h >>= λ x. c x >>= λ _. Ok x) >>= goes_on) ≡ (a >>= λ _. b >>= λ _. h >>= λ x. c x >>= λ _. goes_on x)
header_steps (Err d) b h c goes_on = refl
header_steps (Ok u) (Err d) h c goes_on = refl
header_steps (Ok u) (Ok w) (Err d) c goes_on = refl
header_steps (Ok u) (Ok w) (Ok x) c goes_on = sized (c x) x goes_on

abbrev held : Head → Net → Result (Head × Net) Refusal
held d n = Ok (d, n)

abbrev current_of : Slot → Head × Net → Result Current Refusal
current_of s l = Ok (record { slot = s; head = l.0; network = l.1 })

abbrev current_with : Slot → Head → Net → Current
current_with s d n = record { slot = s; head = d; network = n }

words_steps : {Z : Type 0} (h : Header) (ends : List Ends) (slot : Slot) (head : Head) (words : Result (List Word) Refusal) (laid : Result (List Ends) Refusal) (goes_on : Current → Result Z Refusal)
    → (((words >>= λ w. laid >>= λ l. held head (network_from h (ends ++ l) w head)) >>= current_of slot) >>= goes_on)
    ≡ (words >>= λ w. laid >>= λ l. goes_on (current_with slot head (network_from h (ends ++ l) w head)))
words_steps h ends slot head (Err d) laid goes_on = refl
words_steps h ends slot head (Ok w) (Err d) goes_on = refl
words_steps h ends slot head (Ok w) (Ok l) goes_on = refl

head_steps : {Z : Type 0} (h : Header) (ends : List Ends) (slot : Slot) (head : Result Head Refusal) (words : Head → Result (List Word) Refusal) (laid : Head → Result (List Ends) Refusal) (goes_on : Current → Result Z Refusal)
    → (((head >>= λ d. words d >>= λ w. laid d >>= λ l. held d (network_from h (ends ++ l) w d)) >>= current_of slot) >>= goes_on)
    ≡ (head >>= λ d. words d >>= λ w. laid d >>= λ l. goes_on (current_with slot d (network_from h (ends ++ l) w d)))
head_steps h ends slot (Err d) words laid goes_on = refl
head_steps h ends slot (Ok head) words laid goes_on = words_steps h ends slot head (words head) (laid head) goes_on

slot_steps : {Z : Type 0} (h : Header) (ends : List Ends) (slot : Result Slot Refusal) (head : Slot → Result Head Refusal) (words : Slot → Head → Result (List Word) Refusal) (laid : Slot → Head → Result (List Ends) Refusal)
    (goes_on : Current → Result Z Refusal)
    → ((slot >>= λ s. (head s >>= λ d. words s d >>= λ w. laid s d >>= λ l. held d (network_from h (ends ++ l) w d)) >>= current_of s) >>= goes_on)
    ≡ (slot >>= λ s. head s >>= λ d. words s d >>= λ w. laid s d >>= λ l. goes_on (current_with s d (network_from h (ends ++ l) w d)))
slot_steps h ends (Err d) head words laid goes_on = refl
slot_steps h ends (Ok s) head words laid goes_on = head_steps h ends s (head s) (words s) (laid s) goes_on

current_steps : {Z : Type 0} (h : Header) (ends : Result (List Ends) Refusal) (slot : Result Slot Refusal) (head : Slot → Result Head Refusal) (words : Slot → Head → Result (List Word) Refusal)
    (laid : Slot → Head → Result (List Ends) Refusal) (goes_on : Current → Result Z Refusal)
    → ((ends >>= λ e. slot >>= λ s. (head s >>= λ d. words s d >>= λ w. laid s d >>= λ l. held d (network_from h (e ++ l) w d)) >>= current_of s) >>= goes_on)
    ≡ (ends >>= λ e. slot >>= λ s. head s >>= λ d. words s d >>= λ w. laid s d >>= λ l. goes_on (current_with s d (network_from h (e ++ l) w d)))
current_steps h (Err d) slot head words laid goes_on = refl
current_steps h (Ok e) slot head words laid goes_on = slot_steps h e slot head words laid goes_on

-- what is stored, once the journal's pages are known
abbrev pub stored_of : Header → Current → List (List (List Command)) → Stored
stored_of h c pages = record { header = h; slot = c.slot; epoch = c.head.epoch; version = c.head.version; sequence = c.head.next_sequence; network = c.network; unchecked = pages }

abbrev stored_with : Header → Current → List (List (List Command)) × Net → Result (Stored × Net) Refusal
stored_with h c j = Ok (stored_of h c j.0, j.1)

abbrev after_current : (ℕ → List ℕ) → Header → Current → Result (Stored × Net) Refusal
after_current pages h c = journal_from pages h h.journal_pages c.head.next_sequence c.head.version c.network >>= stored_with h c

opened_in_parts : (f : Format) (size : ℕ) (pages : ℕ → List ℕ) → opened_from f size pages ≡ (header_from f size (pages 0) >>= λ h. current_from pages h >>= after_current pages h)
opened_in_parts f size pages = sym (
    bind_same (header_from f size (pages 0)) (λ h. current_from pages h >>= after_current pages h)
    (λ h. ends_from pages h >>= λ e. current_slot pages h >>= λ s. head_from pages h s >>= λ d. words_from pages h s d.arcs >>= λ w. laid_from pages h s d.arcs >>= λ l. after_current pages h (current_with s d (network_from h (e ++ l) w d)))
    (λ h. current_steps h (ends_from pages h) (current_slot pages h) (head_from pages h) (λ x d. words_from pages h x d.arcs) (λ x d. laid_from pages h x d.arcs) (after_current pages h))
    ∙ header_steps (unless_so (begins_as_store size (pages 0)) NotAStore) (unless_so (format_of (pages 0) == format_number_of f) WrongFormat) (spelled_at 0 (header_in (pages 0))) (λ h. unless_so (size == 4096 * page_count h) (Damaged 0))
    (λ h. ends_from pages h >>= λ e. current_slot pages h >>= λ s. head_from pages h s >>= λ d. words_from pages h s d.arcs >>= λ w. laid_from pages h s d.arcs >>= λ l. after_current pages h (current_with s d (network_from h (e ++ l) w d))))

pub no_header : (f : Format) (size : ℕ) (pages : ℕ → List ℕ) (refusal : Refusal) → header_from f size (pages 0) ≡ Err refusal → opened_from f size pages ≡ Err refusal
no_header f size pages refusal e = opened_in_parts f size pages ∙ ap (λ (r : Result Header Refusal). r >>= λ h. current_from pages h >>= after_current pages h) e

pub no_current : (f : Format) (size : ℕ) (pages : ℕ → List ℕ) (h : Header) (refusal : Refusal) → header_from f size (pages 0) ≡ Ok h → current_from pages h ≡ Err refusal → opened_from f size pages ≡ Err refusal
no_current f size pages h refusal is e =
    opened_in_parts f size pages ∙ ap (λ (r : Result Header Refusal). r >>= λ h. current_from pages h >>= after_current pages h) is
    ∙ ap (λ (r : Result Current Refusal). r >>= after_current pages h) e

pub no_journal : (f : Format) (size : ℕ) (pages : ℕ → List ℕ) (h : Header) (c : Current) (refusal : Refusal) → header_from f size (pages 0) ≡ Ok h → current_from pages h ≡ Ok c
    → journal_from pages h h.journal_pages c.head.next_sequence c.head.version c.network ≡ Err refusal → opened_from f size pages ≡ Err refusal
no_journal f size pages h c refusal is held e =
    opened_in_parts f size pages ∙ ap (λ (r : Result Header Refusal). r >>= λ h. current_from pages h >>= after_current pages h) is
    ∙ ap (λ (r : Result Current Refusal). r >>= after_current pages h) held
    ∙ ap (λ (r : Result (List (List (List Command)) × Net) Refusal). r >>= stored_with h c) e

pub all_known : (f : Format) (size : ℕ) (pages : ℕ → List ℕ) (h : Header) (c : Current) (commands : List (List (List Command))) (net : Net) → header_from f size (pages 0) ≡ Ok h → current_from pages h ≡ Ok c
    → journal_from pages h h.journal_pages c.head.next_sequence c.head.version c.network ≡ Ok (commands, net) → opened_from f size pages ≡ Ok (stored_of h c commands, net)
all_known f size pages h c commands net is held e =
    opened_in_parts f size pages ∙ ap (λ (r : Result Header Refusal). r >>= λ h. current_from pages h >>= after_current pages h) is
    ∙ ap (λ (r : Result Current Refusal). r >>= after_current pages h) held
    ∙ ap (λ (r : Result (List (List (List Command)) × Net) Refusal). r >>= stored_with h c) e

-- ---- the current slot, step by step

pub no_ends : (pages : ℕ → List ℕ) (h : Header) (refusal : Refusal) → ends_from pages h ≡ Err refusal → current_from pages h ≡ Err refusal
no_ends pages h refusal e = ap (λ (r : Result (List Ends) Refusal). r >>= λ x. current_slot pages h >>= λ s. loaded_from pages h s x >>= current_of s) e

pub no_slot : (pages : ℕ → List ℕ) (h : Header) (ends : List Ends) (refusal : Refusal) → ends_from pages h ≡ Ok ends → current_slot pages h ≡ Err refusal → current_from pages h ≡ Err refusal
no_slot pages h ends refusal is e =
    ap (λ (r : Result (List Ends) Refusal). r >>= λ x. current_slot pages h >>= λ s. loaded_from pages h s x >>= current_of s) is
    ∙ ap (λ (r : Result Slot Refusal). r >>= λ s. loaded_from pages h s ends >>= current_of s) e

pub no_load : (pages : ℕ → List ℕ) (h : Header) (ends : List Ends) (slot : Slot) (refusal : Refusal) → ends_from pages h ≡ Ok ends → current_slot pages h ≡ Ok slot → loaded_from pages h slot ends ≡ Err refusal
    → current_from pages h ≡ Err refusal
no_load pages h ends slot refusal is chosen e =
    ap (λ (r : Result (List Ends) Refusal). r >>= λ x. current_slot pages h >>= λ s. loaded_from pages h s x >>= current_of s) is
    ∙ ap (λ (r : Result Slot Refusal). r >>= λ s. loaded_from pages h s ends >>= current_of s) chosen
    ∙ ap (λ (r : Result (Head × Net) Refusal). r >>= current_of slot) e

pub slot_loaded : (pages : ℕ → List ℕ) (h : Header) (ends : List Ends) (slot : Slot) (head : Head) (net : Net) → ends_from pages h ≡ Ok ends → current_slot pages h ≡ Ok slot → loaded_from pages h slot ends ≡ Ok (head, net)
    → current_from pages h ≡ Ok (record { slot = slot; head = head; network = net })
slot_loaded pages h ends slot head net is chosen e =
    ap (λ (r : Result (List Ends) Refusal). r >>= λ x. current_slot pages h >>= λ s. loaded_from pages h s x >>= current_of s) is
    ∙ ap (λ (r : Result Slot Refusal). r >>= λ s. loaded_from pages h s ends >>= current_of s) chosen
    ∙ ap (λ (r : Result (Head × Net) Refusal). r >>= current_of slot) e

-- ---- the header, step by step

pub format_by : (f g : Format) → format_number_of f ≡ format_number_of g → f ≡ g
format_by One One e = refl
format_by One Two e = absurd (omega arith)
format_by Two One e = absurd (omega arith)
format_by Two Two e = refl

pub no_store : (f : Format) (size : ℕ) (page : List ℕ) → begins_as_store size page ≡ false → header_from f size page ≡ Err NotAStore
no_store f size page e = rw e refl

pub other_format : (f : Format) (size : ℕ) (page : List ℕ) → begins_as_store size page ≡ true → (format_of page == format_number_of f) ≡ false → header_from f size page ≡ Err WrongFormat
other_format f size page begins e = rw (begins, e) refl

pub no_spelling : (f : Format) (size : ℕ) (page : List ℕ) → begins_as_store size page ≡ true → (format_of page == format_number_of f) ≡ true → header_in page ≡ None → header_from f size page ≡ Err (Damaged 0)
no_spelling f size page begins format e =
    ap (λ (b : Bool). unless_so b NotAStore >>= λ _. unless_so (format_of page == format_number_of f) WrongFormat >>= λ _. spelled_at 0 (header_in page) >>= λ h. unless_so (size == 4096 * page_count h) (Damaged 0) >>= λ _. Ok h) begins
    ∙ ap (λ (b : Bool). unless_so b WrongFormat >>= λ _. spelled_at 0 (header_in page) >>= λ h. unless_so (size == 4096 * page_count h) (Damaged 0) >>= λ _. Ok h) format
    ∙ ap (λ (o : Option Header). spelled_at 0 o >>= λ h. unless_so (size == 4096 * page_count h) (Damaged 0) >>= λ _. Ok h) e

pub sized_so : (f : Format) (size : ℕ) (page : List ℕ) (h : Header) → begins_as_store size page ≡ true → (format_of page == format_number_of f) ≡ true → header_in page ≡ Some h
    → header_from f size page ≡ (unless_so (size == 4096 * page_count h) (Damaged 0) >>= λ _. Ok h)
sized_so f size page h begins format e =
    ap (λ (b : Bool). unless_so b NotAStore >>= λ _. unless_so (format_of page == format_number_of f) WrongFormat >>= λ _. spelled_at 0 (header_in page) >>= λ h. unless_so (size == 4096 * page_count h) (Damaged 0) >>= λ _. Ok h) begins
    ∙ ap (λ (b : Bool). unless_so b WrongFormat >>= λ _. spelled_at 0 (header_in page) >>= λ h. unless_so (size == 4096 * page_count h) (Damaged 0) >>= λ _. Ok h) format
    ∙ ap (λ (o : Option Header). spelled_at 0 o >>= λ h. unless_so (size == 4096 * page_count h) (Damaged 0) >>= λ _. Ok h) e

pub other_size : (f : Format) (size : ℕ) (page : List ℕ) (h : Header) → begins_as_store size page ≡ true → (format_of page == format_number_of f) ≡ true → header_in page ≡ Some h → (size == 4096 * page_count h) ≡ false
    → header_from f size page ≡ Err (Damaged 0)
other_size f size page h begins format e other = sized_so f size page h begins format e ∙ ap (λ (b : Bool). unless_so b (Damaged 0) >>= λ _. Ok h) other

pub header_known : (f : Format) (size : ℕ) (page : List ℕ) (h : Header) → begins_as_store size page ≡ true → (format_of page == format_number_of f) ≡ true → header_in page ≡ Some h → (size == 4096 * page_count h) ≡ true
    → header_from f size page ≡ Ok h
header_known f size page h begins format e same = sized_so f size page h begins format e ∙ ap (λ (b : Bool). unless_so b (Damaged 0) >>= λ _. Ok h) same

-- ---- the fields of a store

pub same_standing : (h h' : Header) (slot slot' : Slot) (epoch epoch' : ℕ) (net : Net) (v v' q q' u u' : ℕ) → h ≡ h' → slot ≡ slot' → epoch ≡ epoch' → v ≡ v' → q ≡ q' → u ≡ u'
    → ◌≡◌ {A = Option Standing} (Some (record { header = h; slot = slot; epoch = epoch; network = net; version = v; next = q; unchecked = u })) (Some (record { header = h'; slot = slot'; epoch = epoch'; network = net; version = v'; next = q'; unchecked = u' }))
same_standing h h' slot slot' epoch epoch' net v v' q q' u u' a b c d e f = rw (a, b, c, d, e, f) refl
