-- Bytes with a gate: one byte among them or beside them, which is open at one value alone. The bytes count where it is open.
use Rattle.std.specs.Prelude.{◌≡◌, ◌⊎◌, ◌<◌, ◌≤◌, ◌+◌, ℕ, List, [], ◌∷◌, ◌++◌, length, slice_index}
use Rattle.disk.specs.Contents.{overwritten}

-- the byte of an open gate
abbrev pub open_byte : ℕ
open_byte = 165

-- the gate at this place is open in this content
abbrev pub IsGateOpen : ℕ → List ℕ → Type 0
IsGateOpen gate c = slice_index c gate ≡ open_byte

-- c is old outside the bytes from this offset on
pub record SameOutside (at count : ℕ) (old c : List ℕ) : Type 0 where
  pub same_length : length c ≡ length old
  pub below : (i : ℕ) → i < at → slice_index c i ≡ slice_index old i
  pub above : (i : ℕ) → at + count ≤ i → slice_index c i ≡ slice_index old i

-- c is old outside these bytes, and the gate is closed in it
pub record IsShut (at count gate : ℕ) (old c : List ℕ) : Type 0 where
  pub outside : SameOutside at count old c
  pub closed : IsGateOpen gate c → ⊥

-- What a stop leaves of a gate that is closed: the content as it was, or with that gate closed.
abbrev pub IsOldOrShut : List ℕ → ℕ → List ℕ → Type 0
IsOldOrShut old gate c = IsShut gate 1 gate old c ⊎ (c ≡ old)

-- What a stop leaves of a closed gate that is opened: the content with that gate closed, or with it open.
abbrev pub IsShutOrOpened : List ℕ → ℕ → List ℕ → Type 0
IsShutOrOpened old gate c = IsShut gate 1 gate old c ⊎ (c ≡ overwritten old gate (open_byte ∷ []))

-- old with this body at this offset, and an open gate behind it
abbrev pub with_page : List ℕ → ℕ → List ℕ → List ℕ
with_page old at body = overwritten old at (body ++ open_byte ∷ [])

-- What a stop leaves of a page, a body with its gate behind it, that is written over: the old page whole, the new one
-- whole, or a closed gate. The rest of the content stays as it was.
abbrev pub IsWholeOrShut : List ℕ → ℕ → List ℕ → List ℕ → Type 0
IsWholeOrShut old at body c = IsShut at (length body + 1) (at + length body) old c ⊎ ((c ≡ old) ⊎ (c ≡ with_page old at body))
