use Rattle.std.proofs.Common.{◌≡◌, ◌∙◌, ◌++◌, ℕ, List, Option, ap, drop, length, map, rules, subst, sym, take}
use Rattle.std.proofs.lemmas.Result.{IfOk-weaker}
use Rattle.roadnet.specs.Walks.{RowOf}
use Rattle.deltastep.specs.Words.{distance_of_word}
use Rattle.deltastep.specs.Tentative.{IsWalked}
use Rattle.deltastep.proofs.Rounds.{RowOf-round, written_back}
use Rattle.deltastep.proofs.plain.plain_row.Goals as goal

pub returns : goal.returns
returns c =
    let walked : IsWalked c.args.network.now c.args.source c.relax_all.new.words = c.relax_all.ensures.walked c.args.source (rw c.deref_mut.ensures.value c.rounds.invariant.1) in
    let same : length c.relax_all.new.words ≡ length c.rounds.words.items = search rules in
    let len : c.rounds.words.len ≡ length c.rounds.words.items = search rules in
    let words : List ℕ = take c.rounds.words.len (c.relax_all.new.words ++ drop (length c.relax_all.new.words) c.rounds.words.items) in
    let back : words ≡ c.relax_all.new.words = written_back c.rounds.words.len c.relax_all.new.words c.rounds.words.items len same in
    let made : RowOf c.args.network.now c.args.source (map distance_of_word c.relax_all.new.words) =
    RowOf-round c.args.network.now c.args.source c.deref_mut.result.now c.relax_all.new.words c.nodes-nodes.ensures.network c.requires c.relax_all.ensures.bounded walked c.rounds-test.ensures.cases in
    IfOk-weaker c.from_words.result (λ (row : List (Option ℕ)). row ≡ map distance_of_word words) (RowOf c.args.network.now c.args.source)
    (λ row e. subst (RowOf c.args.network.now c.args.source) (sym (e ∙ ap (λ (l : List ℕ). map distance_of_word l) back)) made)
    c.from_words.ensures
