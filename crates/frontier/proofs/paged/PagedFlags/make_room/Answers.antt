use Rattle.std.proofs.Common.{ℕ, ◌/◌, ◌%◌, ◌<◌, Global, List, OnOk, Vec, arith, length, subst, sym}
use Rattle.frontier.proofs.Flags.{page-grown, page-new}
use Rattle.frontier.proofs.paged.PagedFlags.make_room.Goals as goal

pub returns-clause-flags : goal.returns-clause-flags
returns-clause-flags c =
    page-grown (λ (page : Vec ℕ Global). page.items) c.args.self.now.pages.items (c.args.number / 32768) (omega (arith, c.requires.within)) c.index_mut-words.result.now c.index_mut-words.ensures.value c.grow.new.words c.grow.ensures.words

pub returns-clause-room : goal.returns-clause-room
returns-clause-room c =
    subst (λ (words : List ℕ). OnOk c.grow.result (c.args.number % 32768 / 64 < length words))
    (sym (page-new (λ (page : Vec ℕ Global). page.items) c.args.self.now.pages.items (c.args.number / 32768) (omega (arith, c.requires.within)) c.index_mut-words.result.now c.index_mut-words.ensures.value c.grow.new.words))
    c.grow.ensures.room
