use Rattle.std.proofs.Common.{◌≡◌, ◌∙◌, ℕ, ◌-◌, ◌*◌, ◌/◌, ◌%◌, ◌^◌, ◌<◌, Global, List, Vec, [], bit_and, w64, get_or, length, map, ap, eqb, refl, arith}
use Rattle.std.specs.Int.{bit_at}
use Rattle.std.specs.Vec.{with_item}
use Rattle.std.proofs.lemmas.List.{get_or_default, length-map}
use Rattle.std.proofs.lemmas.Nat.Bits.{bit_at_clear_same, bit_at_clear_other}
use Rattle.frontier.specs.Flags.{flag_at}
use Rattle.frontier.proofs.Flags.{page-read, page-set, set-other, set-same}
use Rattle.frontier.proofs.paged.PagedFlags.lower.Goals as goal

items : Vec ℕ Global → List ℕ
items page = page.items

pub returns-clause-down : goal.returns-clause-down
unfolding items
returns-clause-down c =
    let words = c.index_mut.result.now in
    let pages = c.args.self.now.pages.items in
    let number = c.args.number in
    let within : number / 32768 < length pages = omega (arith, c.requires.within) in
    let listed : number < length (map items pages) * 32768 = omega (arith, c.requires.within, length-map pages items) in
    let word : ℕ = bit_and c.index_mut-2.result.now (18446744073709551615 - 1 * 2 ^ (number % 64) % 18446744073709551616) in
    ap (λ ps. flag_at ps number) (page-set items pages (number / 32768) within words c.index_mut.ensures.value (with_item words (number % 32768 / 64) word) (number % 32768 / 64) word refl)
    ∙ (set-same (map items pages) number word listed c.requires.room ∙ ap (λ b. eqb b 1) (bit_at_clear_same w64 c.index_mut-2.result.now (number % 64) (omega arith)))

pub returns-clause-others : goal.returns-clause-others
unfolding items
returns-clause-others c u ne =
    let words = c.index_mut.result.now in
    let pages = c.args.self.now.pages.items in
    let number = c.args.number in
    let within : number / 32768 < length pages = omega (arith, c.requires.within) in
    let listed : number < length (map items pages) * 32768 = omega (arith, c.requires.within, length-map pages items) in
    let word : ℕ = bit_and c.index_mut-2.result.now (18446744073709551615 - 1 * 2 ^ (number % 64) % 18446744073709551616) in
    let own : words.items ≡ get_or (map items pages) (number / 32768) [] = page-read items pages (number / 32768) within words c.index_mut.ensures.value in
    let old : c.index_mut-2.result.now ≡ get_or (get_or (map items pages) (number / 32768) []) (number % 32768 / 64) 0 =
    c.index_mut-2.ensures.value ∙ (get_or_default words.items (number % 32768 / 64) c.index_mut-2.result.now 0 (omega (arith, c.requires.room, ap length own)) ∙ ap (λ (ws : List ℕ). get_or ws (number % 32768 / 64) 0) own) in
    ap (λ ps. flag_at ps u) (page-set items pages (number / 32768) within words c.index_mut.ensures.value (with_item words (number % 32768 / 64) word) (number % 32768 / 64) word refl)
    ∙ set-other (map items pages) number word listed c.requires.room (λ i h other. bit_at_clear_other w64 c.index_mut-2.result.now (number % 64) (omega arith) i h other ∙ ap (λ w. bit_at w i) old) u ne
