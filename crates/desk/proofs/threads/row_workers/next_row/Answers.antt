use Rattle.std.proofs.Common.{rules, ◌≡◌, ◌∙◌, map, drop, List, [], ◌∷◌, ◌++◌, Option, ap, sym, subst, Global}
use Rattle.std.specs.Option.{option_to_list}
use Rattle.std.proofs.lemmas.List.{map-append}
use Rattle.std.specs.declared.collections.VecDeque.{VecDeque}
use Rattle.rows.specs.declared.landmark_rows.Row.{Row}
use Rattle.desk.specs.Shares.{AreSharesDealt}
use Rattle.desk.proofs.Dealt.{first_landmark, first_right, rest_dealt, has_first}
use Rattle.desk.proofs.threads.row_workers.next_row.Goals as goal

-- the rows of a list of queues
abbrev rows_of : List (VecDeque Row Global) → List (List Row)
rows_of queues = map (λ (queue : VecDeque Row Global). queue.items) queues

pub unwrap-row-requires : goal.unwrap-row-requires
unwrap-row-requires g c =
    let taken : c.args.parts.now.items ≡ c.unwrap-part.result ∷ c.pop_front.new.self.items =
    c.pop_front.ensures.items ∙ ap (λ (o : Option (VecDeque Row Global)). option_to_list o ++ c.pop_front.new.self.items) c.unwrap-part.ensures in
    let dealt = subst (λ (queues : List (VecDeque Row Global)). AreSharesDealt c.args.job.now.version c.args.job.now.network.now c.args.job.now.workers c.args.left.now (rows_of queues)) taken c.requires.dealt in
    let (row, others, rest, is) = has_first c.args.job.now.version c.args.job.now.network.now c.args.job.now.workers c.args.left.now (rows_of (c.unwrap-part.result ∷ c.pop_front.new.self.items)) c.requires.some c.requires.workers dealt in
    let own : c.unwrap-part.result.items ≡ row ∷ others = search rules in
    search rules

-- the rows that the workers had
was_dealt : (c_args : List (VecDeque Row Global)) (part : VecDeque Row Global) (behind : List (VecDeque Row Global)) (row : Row) (others : List Row)
    → c_args ≡ part ∷ behind → part.items ≡ row ∷ others → rows_of c_args ≡ (row ∷ others) ∷ rows_of behind
was_dealt all part behind row others taken own = ap rows_of taken ∙ ap (λ (rows : List Row). rows ∷ rows_of behind) own

pub returns-clause-landmark : goal.returns-clause-landmark
returns-clause-landmark g c =
    let job = c.args.job.now in
    let others = c.pop_front-2.new.self.items in
    let behind = c.pop_front.new.self.items in
    let taken : c.args.parts.now.items ≡ c.unwrap-part.result ∷ behind = c.pop_front.ensures.items ∙ ap (λ (o : Option (VecDeque Row Global)). option_to_list o ++ behind) c.unwrap-part.ensures in
    let own : c.unwrap-part.result.items ≡ c.unwrap-row.result ∷ others = c.pop_front-2.ensures.items ∙ ap (λ (o : Option Row). option_to_list o ++ others) c.unwrap-row.ensures in
    let dealt = subst (AreSharesDealt job.version job.network.now job.workers c.args.left.now) (was_dealt c.args.parts.now.items c.unwrap-part.result behind c.unwrap-row.result others taken own) c.requires.dealt in
    first_landmark job.version job.network.now job.workers c.args.left.now c.unwrap-row.result others (rows_of behind) c.requires.some c.requires.workers dealt

pub returns-clause-right : goal.returns-clause-right
returns-clause-right g c =
    let job = c.args.job.now in
    let others = c.pop_front-2.new.self.items in
    let behind = c.pop_front.new.self.items in
    let taken : c.args.parts.now.items ≡ c.unwrap-part.result ∷ behind = c.pop_front.ensures.items ∙ ap (λ (o : Option (VecDeque Row Global)). option_to_list o ++ behind) c.unwrap-part.ensures in
    let own : c.unwrap-part.result.items ≡ c.unwrap-row.result ∷ others = c.pop_front-2.ensures.items ∙ ap (λ (o : Option Row). option_to_list o ++ others) c.unwrap-row.ensures in
    let dealt = subst (AreSharesDealt job.version job.network.now job.workers c.args.left.now) (was_dealt c.args.parts.now.items c.unwrap-part.result behind c.unwrap-row.result others taken own) c.requires.dealt in
    first_right job.version job.network.now job.workers c.args.left.now c.unwrap-row.result others (rows_of behind) c.requires.some c.requires.workers dealt

pub returns-clause-dealt : goal.returns-clause-dealt
returns-clause-dealt g c =
    let job = c.args.job.now in
    let others = c.pop_front-2.new.self.items in
    let behind = c.pop_front.new.self.items in
    let taken : c.args.parts.now.items ≡ c.unwrap-part.result ∷ behind = c.pop_front.ensures.items ∙ ap (λ (o : Option (VecDeque Row Global)). option_to_list o ++ behind) c.unwrap-part.ensures in
    let own : c.unwrap-part.result.items ≡ c.unwrap-row.result ∷ others = c.pop_front-2.ensures.items ∙ ap (λ (o : Option Row). option_to_list o ++ others) c.unwrap-row.ensures in
    let dealt = subst (AreSharesDealt job.version job.network.now job.workers c.args.left.now) (was_dealt c.args.parts.now.items c.unwrap-part.result behind c.unwrap-row.result others taken own) c.requires.dealt in
    let left : rows_of c.push_back_reserved.new.self.items ≡ rows_of behind ++ others ∷ [] =
    ap rows_of c.push_back_reserved.ensures.items ∙ map-append (λ (queue : VecDeque Row Global). queue.items) behind (c.pop_front-2.new.self ∷ []) in
    subst (AreSharesDealt job.version job.network.now job.workers (drop 1 c.args.left.now)) (sym left)
    (rest_dealt job.version job.network.now job.workers c.args.left.now c.unwrap-row.result others (rows_of behind) c.requires.some c.requires.workers dealt)
