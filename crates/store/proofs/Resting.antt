-- The size of a content that stands for something.
use Rattle.std.proofs.Common.{◌≡◌, ℕ, ◌*◌, List, length, Some, subst}
use Rattle.pages.specs.declared.header.Header.{Header}
use Rattle.pages.specs.Layout.{page_count}
use Rattle.storefile.specs.Standing.{Standing, standing_of}
use Rattle.storefile.proofs.Rests.{stored_as}

pub size_told : (file : List ℕ) (x : Standing) → standing_of file ≡ Some x → length file ≡ 4096 * page_count x.header
size_told file x e = let held = stored_as file x e in subst (λ (h : Header). length file ≡ 4096 * page_count h) held.header_is held.stands.is.size_is
