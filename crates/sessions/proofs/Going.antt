-- A session as far as its lines were answered.
use Rattle.std.proofs.Common.{◌≡◌, ◌∙◌, ℕ, true, false, List, [], ◌∷◌, ◌++◌, Option, None, Some, ap, inr, refl, sym, subst}
use Rattle.std.proofs.KnownBytes.{Appends-nil, Appends-trans}
use Rattle.std.specs.Prelude.{⊤, Result, Ok, IfSome}
use mathlib.Core.List.{IsPrefix}
use Rattle.history.specs.Origins.{Origin}
use Rattle.dimacs.specs.declared.fault.Code.{Code}
use Rattle.office.specs.declared.naming.Naming.{Ghosts}
use Rattle.printing.specs.Counting.{writer_of}
use Rattle.printing.specs.declared.writer.CountedWriter.{CountedWriter}
use Rattle.session_lines.specs.declared.lines.Line.{Line}
use Rattle.session_lines.specs.declared.lines.Line.TheVariants.{Quit}
use Rattle.session_lines.specs.declared.reading.LastLine.{LastLine}
use Rattle.session_lines.specs.Reads.{ReadsOne, ReadsSessionLine}
use Rattle.session_lines.specs.SessionLines.{is_quit}
use Rattle.sessions.specs.declared.session.sessions.Session.{Session}
use Rattle.session_lines.specs.Copying.{Copying}
use Rattle.sessions.specs.Saying.{IsKeptGroup, SaysToLine, session_state_of}
use Rattle.sessions.specs.Told.{known_to}
use Rattle.sessions.specs.Turns.{SessionStanding, IsSessionAnswer, IsTurn, AreTurns, SessionState, session_beginning, next_group, HasServed, IsSessionAt, Serves}

-- the lines up to here were answered, and this session goes on with what is left
pub record HasGone {N : Type 0} {n : Ghosts N} (copying : Copying) (last_line : LastLine) (origin : Origin) (text : List ℕ) (left old new : Option (List ℕ)) (session : Session N n) : Type 0 where
  pub here : SessionStanding
  pub served : HasServed copying last_line origin text old new here
  pub left_is : left ≡ Some here.left
  pub kept : IsSessionAt origin session.place session.receipts here
  pub state_is : here.state ≡ session_state_of session
  pub group_is : IsKeptGroup here.group session.group

abbrev pub FarServed : {N : Type 0} {n : Ghosts N} → Copying → LastLine → Origin → Option (List ℕ) → Option (List ℕ) → Option (List ℕ) → Option (List ℕ) → Session N n → Type 0
FarServed copying last_line origin None left old new session = ⊤
FarServed copying last_line origin (Some text) left old new session = HasGone copying last_line origin text left old new session

pub far_begun : {N : Type 0} {n : Ghosts N} (copying : Copying) (last_line : LastLine) (origin : Origin) (known written : Option (List ℕ)) (session : Session N n) → session.place ≡ None → session.receipts ≡ None → session.last ≡ None
    → session.group ≡ None → session.supposed ≡ None → FarServed copying last_line origin known known written written session
far_begun copying last_line origin None written session no_place no_receipts no_last no_group nothing = tt
far_begun copying last_line origin (Some text) written session no_place no_receipts no_last no_group nothing = record {
  here = session_beginning text;
  served = record { turns = []; are = refl; written = Appends-nil written };
  left_is = refl;
  kept = record { known = rw no_place refl; durable = rw no_receipts refl };
  state_is = λ i. record { last = sym no_last i; known = ap known_to (sym no_place) i; supposed = sym nothing i };
  group_is = rw no_group tt;
}

one_more : (copying : Copying) (last_line : LastLine) (origin : Origin) (first : SessionStanding) (turns : List SessionStanding) (mid last : SessionStanding) → AreTurns copying last_line origin first turns mid → IsTurn copying last_line origin mid last → AreTurns copying last_line origin first (turns ++ last ∷ []) last
one_more copying last_line origin first [] mid last are turn = (subst (λ (s : SessionStanding). IsTurn copying last_line origin s last) are turn, refl)
one_more copying last_line origin first (next ∷ turns) mid last are turn = (are.0, one_more copying last_line origin next turns mid last are.1 turn)

turned : {N : Type 0} {n : Ghosts N} {W : Type 0} (contents : W → Option (List ℕ)) (copying : Copying) (last_line : LastLine) (origin : Origin) (text : List ℕ) (left rest old : Option (List ℕ)) (before after : CountedWriter W)
    (session next : Session N n) (line : Line) → is_quit line ≡ false → (far : HasGone copying last_line origin text left old (contents (writer_of before)) session) → ReadsOne last_line far.here.left rest line
    → SaysToLine copying origin line session next contents before after → IsPrefix (known_to session.place) (known_to next.place) → HasGone copying last_line origin text rest old (contents (writer_of after)) next
turned contents copying last_line origin text left rest old before after session next line goes_on far reads says begins =
    let so = says.so far.here.group far.group_is in
    let there : SessionStanding = record {
      left = reads.rest;
      told = far.here.told ++ says.told;
      durable = far.here.durable ++ says.durable;
      group = next_group far.here.group line;
      state = session_state_of next;
    } in
    let turn : IsTurn copying last_line origin far.here there = record {
      line = line;
      goes_on = goes_on;
      read = record { bytes = reads.bytes; rest = reads.rest; first = reads.first; left_is = refl; is = reads.is };
      answer = says.told;
      receipts = says.durable;
      answers = subst (λ (s : SessionState). IsSessionAnswer copying origin far.here.group line s (session_state_of next) says.told says.durable) (sym far.state_is) so.0;
      group = refl;
      told = refl;
      durable = refl;
      begins = subst (λ (s : SessionState). IsPrefix s.known (known_to next.place)) (sym far.state_is) begins;
    } in
    record {
      here = there;
      served = record {
        turns = far.served.turns ++ there ∷ [];
        are = one_more copying last_line origin (session_beginning text) far.served.turns far.here there far.served.are turn;
        written = Appends-trans old (contents (writer_of before)) (contents (writer_of after)) far.here.told says.told far.served.written says.written;
      };
      left_is = reads.left_is;
      kept = record { known = refl; durable = says.kept far.here.durable far.kept.durable };
      state_is = refl;
      group_is = so.1;
    }

pub far_turned : {N : Type 0} {n : Ghosts N} {W : Type 0} (contents : W → Option (List ℕ)) (copying : Copying) (last_line : LastLine) (origin : Origin) (known left rest old : Option (List ℕ)) (before after : CountedWriter W)
    (session next : Session N n) (line : Line) → is_quit line ≡ false → FarServed copying last_line origin known left old (contents (writer_of before)) session → IfSome left (λ text. ReadsSessionLine last_line text rest (Ok (Some line)))
    → SaysToLine copying origin line session next contents before after → IsPrefix (known_to session.place) (known_to next.place) → FarServed copying last_line origin known rest old (contents (writer_of after)) next
far_turned contents copying last_line origin None left rest old before after session next line goes_on far reads says begins = tt
far_turned contents copying last_line origin (Some text) left rest old before after session next line goes_on far reads says begins =
    turned contents copying last_line origin text left rest old before after session next line goes_on far (rw far.left_is at reads) says begins

quits : (line : Line) → is_quit line ≡ true → line ≡ Quit
quits Quit e = refl
quits _ e = cc

-- the line `quit` ends it where it stands
pub far_quit : {N : Type 0} {n : Ghosts N} {X : Type 0} (copying : Copying) (last_line : LastLine) (origin : Origin) (known left rest old new : Option (List ℕ)) (session ended : Session N n) (line : Line) (read : Result (Option Line) Code)
    (x : X) → ended.place ≡ session.place → ended.receipts ≡ session.receipts → read ≡ Ok (Some line) → is_quit line ≡ true → FarServed copying last_line origin known left old new session → IfSome left (λ text. ReadsSessionLine last_line text rest read)
    → IfSome known (λ text. Serves copying last_line origin text rest old new (IsSessionAt origin ended.place ended.receipts) (Ok x))
far_quit copying last_line origin None left rest old new session ended line read x same_place same is ends far reads = tt
far_quit copying last_line origin (Some text) left rest old new session ended line read x same_place same is ends far reads =
    let here : IfSome (Some far.here.left) (λ t. ReadsSessionLine last_line t rest read) = subst (λ (l : Option (List ℕ)). IfSome l (λ t. ReadsSessionLine last_line t rest read)) far.left_is reads in
    let quit : read ≡ Ok (Some Quit) = is ∙ ap (λ (l : Line). Ok (Some l)) (quits line ends) in
    (far.here, far.served, record { known = rw same_place far.kept.known; durable = rw same far.kept.durable }, inr (subst (ReadsSessionLine last_line far.here.left rest) quit here))
