use Rattle.std.proofs.Common.{◌≡◌, ◌∙◌, ℕ, Global, List, Vec, [], ◌∷◌, ◌++◌, get_or, length, map, ap, arith}
use Rattle.std.proofs.lemmas.List.{length_push, map_push}
use Rattle.frontier.proofs.Flags.{default_more, flags-none}
use Rattle.frontier.proofs.paged.PagedFlags.new.Goals as goal

items : Vec ℕ Global → List ℕ
items page = page.items

pub loop-alloc-init : goal.loop-alloc-init
unfolding items
loop-alloc-init c k = ap (λ (pages : List (Vec ℕ Global)). get_or (map items pages) k []) c.in_ok-pages.ensures.items

pub loop-alloc-smaller : goal.loop-alloc-smaller
loop-alloc-smaller c = omega (arith, c.loop-alloc-test.true, c.len.ensures, ap length c.in_ok-push.ensures.items, length_push c.loop-alloc.pages.items c.new.result)

pub loop-alloc-preserved : goal.loop-alloc-preserved
unfolding items
loop-alloc-preserved c k =
    let pages = c.loop-alloc.pages.items in
    let pushed : map items c.push.new.self.items ≡ map items pages ++ [] ∷ [] = ap (map items) c.in_ok-push.ensures.items ∙ (map_push items pages c.new.result ∙ ap (λ (words : List ℕ). map items pages ++ words ∷ []) c.new.ensures.items) in
    ap (λ (l : List (List ℕ)). get_or l k []) pushed ∙ (default_more (map items pages) [] k ∙ c.loop-alloc.invariant k)

pub returns-clause-down : goal.returns-clause-down
returns-clause-down c = flags-none (map (λ (page : Vec ℕ Global). page.items) c.loop-alloc.pages.items) c.loop-alloc.invariant
