-- The names of copies.
use Rattle.std.specs.Prelude.{ℕ, Bool, ◌&&◌, ◌||◌, ◌==◌, nat_le, List, [], ◌∷◌, length, Option, None, Some, if◌then◌else◌}
use Rattle.std.specs.Char.{is_ascii_alphanumeric}
use Rattle.std.specs.List.{list_all}
use Rattle.std.specs.Str.{bytes_eq}
use lib.Chars.{codes}
use Rattle.dimacs.specs.Faults.{Row}

-- a letter, a digit, `-` or `_`
abbrev pub is_name_byte : ℕ → Bool
is_name_byte b = is_ascii_alphanumeric b || ((b == 45) || (b == 95))

-- 1 to 64 of them
abbrev pub is_name : List ℕ → Bool
is_name name = list_all is_name_byte name && (nat_le 1 (length name) && nat_le (length name) 64)

-- the name that fields are, if they are one name and no more
abbrev pub name_from : Row → Option (List ℕ)
name_from (name ∷ []) = if is_name name then Some name else None
name_from others = None

-- the name of the copy for which a line `copy NAME` asks
abbrev pub copy_of : Row → Option (List ℕ)
copy_of [] = None
copy_of (word ∷ others) = if bytes_eq word (codes "copy") then name_from others else None
