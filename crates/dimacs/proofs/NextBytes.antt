-- A byte taken behind calls that took none.
use Rattle.std.proofs.Common.{◌∙◌, ℕ, List, [], ◌∷◌, Option, Some, None, Ok, refl, sym}
use Rattle.std.specs.Io.KnownBytes.{Keeps, Consumes, IsAtEnd}
use Rattle.dimacs.specs.Counts.{TakesByte}

pub keeps_self : (a : Option (List ℕ)) → Keeps a a
keeps_self None = tt
keeps_self (Some xs) = refl

pub keeps_then : (a b c : Option (List ℕ)) → Keeps a b → Keeps b c → Keeps a c
keeps_then None b c p q = tt
keeps_then (Some xs) None c p q = absurd p
keeps_then (Some xs) (Some ys) None p q = q
keeps_then (Some xs) (Some ys) (Some zs) p q = q ∙ p

consumes_then : (a b c : Option (List ℕ)) (bytes : List ℕ) → Keeps a b → Consumes b c bytes → Consumes a c bytes
consumes_then None b c bytes p q = tt
consumes_then (Some xs) None c bytes p q = absurd p
consumes_then (Some xs) (Some ys) None bytes p q = q
consumes_then (Some xs) (Some ys) (Some zs) bytes p q = sym p ∙ q

ends_then : (a b : Option (List ℕ)) → Keeps a b → IsAtEnd b → IsAtEnd a
ends_then None b p q = tt
ends_then (Some xs) None p q = absurd p
ends_then (Some xs) (Some ys) p q = sym p ∙ q

pub takes_then : (E F : Type 0) (a b c : Option (List ℕ)) (byte : Option ℕ) → Keeps a b → TakesByte {E = E} b c (Ok byte) → TakesByte {E = F} a c (Ok byte)
takes_then E F a b c None p q = (ends_then a b p q.0, keeps_then a b c p q.1)
takes_then E F a b c (Some byte) p q = consumes_then a b c (byte ∷ []) p q
