-- What a call of a reader does to how far its text is read.
use Rattle.std.proofs.Common.{◌≡◌, ℕ, ◌+◌, ◌≤◌, Bool, true, false, List, [], ◌++◌, length, drop, Option, Some, None, Result, Ok, Err, refl, sym, ap, ◌∙◌, arith, take-append-drop, ◌≢◌}
use Rattle.std.proofs.Math.Seq.{drop-length}
use Rattle.std.specs.Prelude.{IfSome, IfOk, MatchBool}
use Rattle.std.specs.Io.{StartsWith}
use Rattle.std.specs.Io.KnownBytes.{Keeps}
use Rattle.std.specs.Io.BufRead.{DropsConsumable}
use Rattle.std.proofs.lemmas.List.{drop-append-le}
use Rattle.std.proofs.lemmas.List.Elements.{All-nil}
use Rattle.dimacs.specs.declared.lines.feed.Feed.{Feed}
use Rattle.dimacs.specs.declared.lines.feed.TakenBytes.{TakenBytes}
use Rattle.dimacs.specs.declared.lines.feed.Ended.{Ended}
use Rattle.dimacs.specs.declared.fault.Code.{Code}
use Rattle.dimacs.specs.declared.fault.Fault.{Fault}
use Rattle.dimacs.specs.declared.fault.Code.TheVariants.{Read}
use Rattle.dimacs.specs.Lines.{rows}
use Rattle.dimacs.specs.Faults.{Row, Judge, fault_at}
use Rattle.dimacs.specs.Joint.{taken_of}
use Rattle.dimacs.specs.Ends.{HasTakenSome, ReadsLines}
use Rattle.dimacs.specs.Progress.{Within, BeforeRun, Feeds}
use Rattle.dimacs.specs.Turns.{WithinSome, FarFrom, RunFrom, EndsFrom, StopsFrom}
use Rattle.dimacs.proofs.Remarks.{nothing_kept}
use Rattle.dimacs.proofs.Far.{run_reads, stop_told, clean_front, front_within}

-- the bytes that are shown are the front of what is left
shown_front : (left shown : List ℕ) → StartsWith left shown → left ≡ shown ++ drop (length shown) left
shown_front left shown e = sym (take-append-drop (length shown) left) ∙ ap (λ (l : List ℕ). l ++ drop (length shown) left) e

room : (o : Option ℕ) (n k : ℕ) → n ≤ k → IfSome o (λ m. k ≤ m) → IfSome o (λ m. n ≤ m)
room None n k le h = tt
room (Some m) n k le h = omega arith

module _ {S : Type 0} (judge : Judge) (has_taken : List Row → S → Type 0) (mark : ℕ) where
  -- nothing of it depends on how many calls are left
  relabel : (text left : List ℕ) (feed : Feed S) (n : ℕ) → Within judge has_taken mark text left feed → Within judge has_taken mark text left (record feed { left = n })
  relabel text left feed n at = record { earlier = at.earlier; front = at.front; before = at.before; lines = at.lines; in_line = at.in_line; kept = at.kept; count = at.count; clean = at.clean; no_run = at.no_run; taken = at.taken; read = at.read; feeds = at.feeds }

  relabel_run : (text left : List ℕ) (feed : Feed S) (n : ℕ) → BeforeRun judge has_taken text left feed → BeforeRun judge has_taken text left (record feed { left = n })
  relabel_run text left feed n at = record { earlier = at.earlier; row = at.row; lines = at.lines; is = at.is; until = at.until; count = at.count; clean = at.clean; no_run = at.no_run; taken = at.taken }

  pub far_on : (known a b : Option (List ℕ)) (feed : Feed S) (n : ℕ) → FarFrom judge has_taken mark known a feed → Keeps a b → FarFrom judge has_taken mark known b (record feed { left = n })
  far_on None a b feed n far kept = λ left. let some = far left in (some.0, relabel some.0 left feed n some.1)
  far_on (Some text) None b feed n far kept = absurd far
  far_on (Some text) (Some a) None feed n far kept = absurd kept
  far_on (Some text) (Some a) (Some b) feed n far kept = rw kept (relabel text a feed n far)

  pub far_at_end : (known a b : Option (List ℕ)) (shown : List ℕ) (feed : Feed S) → FarFrom judge has_taken mark known a feed → Keeps a b → IfSome a (λ xs. length shown ≡ 0 → xs ≡ []) → length shown ≡ 0
      → EndsFrom judge has_taken mark known b feed
  far_at_end None a b shown feed far kept end none = far
  far_at_end (Some text) None b shown feed far kept end none = absurd far
  far_at_end (Some text) (Some a) None shown feed far kept end none = absurd kept
  far_at_end (Some text) (Some a) (Some b) shown feed far kept end none =
      let nothing : a ≡ [] = end none in
      (rw nothing at far, kept ∙ nothing)

  -- what was shown was taken
  pub far_refused : (known a : Option (List ℕ)) (shown : List ℕ) (old new : Feed S) (code : Code) → FarFrom judge has_taken mark known a old → IfSome a (λ xs. StartsWith xs shown)
      → ((text more : List ℕ) → Within judge has_taken mark text (shown ++ more) old → Feeds judge has_taken mark text shown more new (Err code))
      → StopsFrom judge known new code
  far_refused None a shown old new code far front feeds = tt
  far_refused (Some text) None shown old new code far front feeds = absurd far
  far_refused (Some text) (Some a) shown old new code far front feeds = feeds text (drop (length shown) a) (rw (shown_front a shown front) at far)

  -- what is left when some of it is consumed
  left_after : (a b shown : List ℕ) (taken : ℕ) → b ≡ a → StartsWith a shown → taken ≤ length shown → drop taken b ≡ drop taken shown ++ drop (length shown) a
  left_after a b shown taken kept front le = ap (drop taken) (kept ∙ shown_front a shown front) ∙ drop-append-le taken shown (drop (length shown) a) le

  fed_on : (text a shown : List ℕ) (new : Feed S) (part : TakenBytes) (n : ℕ) (c : Option (List ℕ)) → c ≡ Some (drop part.count shown ++ drop (length shown) a)
      → Feeds judge has_taken mark text shown (drop (length shown) a) new (Ok part)
      → MatchBool part.at_run (RunFrom judge has_taken (Some text) c (record new { left = n })) (FarFrom judge has_taken mark (Some text) c (record new { left = n }))
  fed_on text a shown new part n c e feeds = go part.at_run refl feeds
    where
      go : (b : Bool) → part.at_run ≡ b → MatchBool b (BeforeRun judge has_taken text (drop part.count shown ++ drop (length shown) a) new) ((part.count ≡ length shown) × Within judge has_taken mark text (drop (length shown) a) new) → MatchBool b (RunFrom judge has_taken (Some text) c (record new { left = n })) (FarFrom judge has_taken mark (Some text) c (record new { left = n }))
      go true is run = rw e (relabel_run text (drop part.count shown ++ drop (length shown) a) new n run)
      go false is p =
          let nothing : drop part.count shown ++ drop (length shown) a ≡ drop (length shown) a = rw (p.0, drop-length shown) refl in
          rw (e, nothing) (relabel text (drop (length shown) a) new n p.1)

  -- the same whatever follows what was shown
  fed_some : (shown : List ℕ) (old new : Feed S) (part : TakenBytes) (n : ℕ) (c : Option (List ℕ)) → WithinSome judge has_taken mark old
      → ((text more : List ℕ) → Within judge has_taken mark text (shown ++ more) old → Feeds judge has_taken mark text shown more new (Ok part))
      → MatchBool part.at_run (RunFrom judge has_taken None c (record new { left = n })) (FarFrom judge has_taken mark None c (record new { left = n }))
  fed_some shown old new part n c far feeds = go part.at_run feeds
    where
      go : (b : Bool) → ((text more : List ℕ) → Within judge has_taken mark text (shown ++ more) old → MatchBool b (BeforeRun judge has_taken text (drop part.count shown ++ more) new) ((part.count ≡ length shown) × Within judge has_taken mark text more new))
          → MatchBool b (RunFrom judge has_taken None c (record new { left = n })) (FarFrom judge has_taken mark None c (record new { left = n }))
      go true fed =
          let some = far (shown ++ []) in
          let rest = drop part.count shown ++ [] in
          (some.0, rest, relabel_run some.0 rest new n (fed some.0 [] some.1))
      go false fed = λ left.
          let some = far (shown ++ left) in
          let on = fed some.0 left some.1 in
          (some.0, relabel some.0 left new n on.1)

  pub far_fed : (known a b c : Option (List ℕ)) (buffered : Option ℕ) (shown : List ℕ) (old new : Feed S) (part : TakenBytes) (n : ℕ) → FarFrom judge has_taken mark known a old
      → IfSome a (λ xs. StartsWith xs shown) → Keeps a b → IfSome a (λ _. IfSome buffered (λ k. length shown ≤ k)) → DropsConsumable b c buffered part.count → part.count ≤ length shown
      → ((text more : List ℕ) → Within judge has_taken mark text (shown ++ more) old → Feeds judge has_taken mark text shown more new (Ok part))
      → MatchBool part.at_run (RunFrom judge has_taken known c (record new { left = n })) (FarFrom judge has_taken mark known c (record new { left = n }))
  far_fed None a b c buffered shown old new part n far front kept fits drops le feeds = fed_some shown old new part n c far feeds
  far_fed (Some text) None b c buffered shown old new part n far front kept fits drops le feeds = absurd far
  far_fed (Some text) (Some a) None c buffered shown old new part n far front kept fits drops le feeds = absurd kept
  far_fed (Some text) (Some a) (Some b) c buffered shown old new part n far front kept fits drops le feeds =
      let dropped : c ≡ Some (drop part.count b) = drops (room buffered part.count (length shown) le fits) in
      fed_on text a shown new part n c (dropped ∙ ap Some (left_after a b shown part.count kept front le)) (feeds text (drop (length shown) a) (rw (shown_front a shown front) at far))

  -- What a reading answers.

  at_first : (text : List ℕ) (feed : Feed S) → has_taken [] feed.taker → feed.kept.bytes.items ≡ [] → feed.lines ≡ 0 → Within judge has_taken mark text text feed
  at_first text feed taken none zero =
      record {
        earlier = [];
        front = [];
        before = [];
        lines = refl;
        in_line = All-nil (λ b. b ≢ 10);
        kept = nothing_kept mark feed.kept.bytes.items none;
        count = sym zero;
        clean = refl;
        no_run = λ u. refl;
        taken = taken;
        read = refl;
        feeds = sym zero;
      }

  pub begins : (known : Option (List ℕ)) (feed : Feed S) → has_taken [] feed.taker → feed.kept.bytes.items ≡ [] → feed.lines ≡ 0 → FarFrom judge has_taken mark known known feed
  begins None feed taken none zero = λ left. (left, at_first left feed taken none zero)
  begins (Some text) feed taken none zero = at_first text feed taken none zero

  pub fails_at : (known left : Option (List ℕ)) (until : Bool) (feed : Feed S) (line : ℕ) → FarFrom judge has_taken mark known left feed → feed.until_run ≡ until → line ≡ feed.lines + 1
      → IfSome known (λ text. ReadsLines judge has_taken until text left (Err (fault_at line Read)))
  fails_at None left until feed line far same at = tt
  fails_at (Some text) None until feed line far same at = absurd far
  fails_at (Some text) (Some left) until feed line far same at =
      let is : line ≡ length far.earlier + 1 = at ∙ ap (λ (n : ℕ). n + 1) (sym far.count) in
      record {
        front = far.before;
        read = far.read;
        feeds = at ∙ ap (λ (n : ℕ). n + 1) (sym far.feeds);
        next = rw (is, far.lines) (front_within until far.earlier (rows (far.front ++ left)) (λ u. far.no_run (same ∙ u)));
        clean = rw (is, far.lines) (clean_front judge until far.earlier (rows (far.front ++ left)) far.clean (λ u. far.no_run (same ∙ u)));
      }

  pub refused_at : (known left : Option (List ℕ)) (until : Bool) (feed : Feed S) (line : ℕ) (code : Code) → StopsFrom judge known feed code → feed.until_run ≡ until → line ≡ feed.lines + 1
      → IfSome known (λ text. ReadsLines judge has_taken until text left (Err (fault_at line code)))
  refused_at None left until feed line code stop same at = tt
  refused_at (Some text) left until feed line code stop same at = stop_told judge text left until feed line code stop same at

  pub ran_at : (known left : Option (List ℕ)) (until : Bool) (feed : Feed S) (ended : Ended S) → RunFrom judge has_taken known left feed → feed.until_run ≡ until
      → ended.taker ≡ feed.taker → ended.lines ≡ feed.lines → ended.at_run ≡ true → IfSome known (λ text. ReadsLines judge has_taken until text left (Ok ended))
  ran_at None left until feed ended run same taker lines at = tt
  ran_at (Some text) None until feed ended run same taker lines at = absurd run
  ran_at (Some text) (Some left) until feed ended run same taker lines at = run_reads judge has_taken until text left feed ended run same taker lines at

  pub ended_at : (known left : Option (List ℕ)) (until : Bool) (feed : Feed S) (result : Result (Ended S) Fault) → EndsFrom judge has_taken mark known left feed → feed.until_run ≡ until
      → ((text : List ℕ) → Within judge has_taken mark text [] feed → ReadsLines judge has_taken feed.until_run text (Some []) result)
      → IfSome known (λ text. ReadsLines judge has_taken until text left result)
  ended_at None left until feed result far same ends = tt
  ended_at (Some text) None until feed result far same ends = absurd far
  ended_at (Some text) (Some left) until feed result far same ends = rw (far.1, ← same) (ends text far.0)

  -- The lines that were taken, whether or not somebody knows the bytes.
  some_lines : (until : Bool) (text : List ℕ) (left : Option (List ℕ)) (ended : Ended S) → ReadsLines judge has_taken until text left (Ok ended) → HasTakenSome judge has_taken ended
  some_lines until text left ended read = (taken_of until (rows text), read.lines)

  pub ran_lines : (known left : Option (List ℕ)) (until : Bool) (feed : Feed S) (ended : Ended S) → RunFrom judge has_taken known left feed → feed.until_run ≡ until
      → ended.taker ≡ feed.taker → ended.lines ≡ feed.lines → ended.at_run ≡ true → HasTakenSome judge has_taken ended
  ran_lines None left until feed ended run same taker lines at = some_lines until run.0 (Some run.1) ended (run_reads judge has_taken until run.0 run.1 feed ended run.2 same taker lines at)
  ran_lines (Some text) None until feed ended run same taker lines at = absurd run
  ran_lines (Some text) (Some left) until feed ended run same taker lines at = some_lines until text (Some left) ended (run_reads judge has_taken until text left feed ended run same taker lines at)

  pub ended_lines : (known left : Option (List ℕ)) (feed : Feed S) (result : Result (Ended S) Fault) → EndsFrom judge has_taken mark known left feed
      → ((text : List ℕ) → Within judge has_taken mark text [] feed → ReadsLines judge has_taken feed.until_run text (Some []) result) → IfOk result (HasTakenSome judge has_taken)
  ended_lines known left feed (Err fault) far ends = tt
  ended_lines None left feed (Ok ended) far ends =
      let some = far [] in
      some_lines feed.until_run some.0 (Some []) ended (ends some.0 some.1)
  ended_lines (Some text) None feed (Ok ended) far ends = absurd far
  ended_lines (Some text) (Some left) feed (Ok ended) far ends = some_lines feed.until_run text (Some []) ended (ends text far.0)

-- one side of a test
pub if_so : (P Q : Type 0) (b : Bool) → b ≡ true → MatchBool b P Q → P
if_so P Q true e h = h
if_so P Q false e h = absurd cc
