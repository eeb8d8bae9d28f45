use Rattle.std.proofs.Common.{◌≡◌, ◌∙◌, ◌≤◌, List, [], ◌++◌, length, take, refl, ap}
use Rattle.std.proofs.lemmas.List.{take_all, take_at}
use Rattle.chunked.proofs.chunks.Chunk.beginning.Goals as goal

begins : {T : Type 0} (items old middle rest all : List T) → length items ≤ 1024 → old ≡ [] → middle ≡ old ++ items → all ≡ take 1024 middle ++ rest → take (length items) all ≡ items
begins {T} items old middle rest all few none more e =
    let whole : take 1024 middle ≡ items = ap (take 1024) (more ∙ ap (λ (l : List T). l ++ items) none) ∙ take_all 1024 items few in
    rw (e, whole) (take_at items rest (length items) refl)

pub returns : goal.returns
returns g c = begins c.args.items.now c.in_ok-all.all.items c.extend_from_slice.new.self.items _ c.resize.new.self.items c.requires.few c.in_ok-all.ensures.items c.in_ok-extend_from_slice.ensures.items c.in_ok-resize.ensures.items
