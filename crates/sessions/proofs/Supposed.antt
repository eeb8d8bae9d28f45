-- What a session supposes, and what it is told of that.
use Rattle.std.proofs.Common.{◌≡◌, ◌∙◌, inl, inr, ℕ, Bool, true, false, true≢false, List, [], ◌∷◌, ◌++◌, All, map, length, Option, None, Some, refl, sym, ap, subst, arith}
use Rattle.std.proofs.Math.Seq.{take-append_seam, drop-append_seam}
use Rattle.std.proofs.lemmas.Bool.Decides.{nat_tests}
use Rattle.std.proofs.lemmas.List.Elements.{All-append, All-drop, All-head, All-tail, All-take}
use Rattle.std.proofs.lemmas.List.Folds.{list_all-append}
use Rattle.std.specs.Prelude.{Result, Ok, Err, IfOk, IfErr, OnOk}
use Rattle.roadnet.specs.declared.groups.Group.{Group}
use Rattle.roadnet.specs.declared.refusals.OutOfMemory.{OutOfMemory as NoMemory}
use Rattle.roadnet.specs.declared.refusals.Refusal.{Refusal}
use Rattle.roadnet.specs.Batches.{MayRefuseBatch}
use Rattle.roadnet.specs.Net.{Net, IsNode}
use Rattle.roadnet.specs.Step.{is_node}
use Rattle.roadnet.specs.Numbers.{number_of}
use Rattle.rows.specs.declared.queries.Query.{Query}
use Rattle.rows.specs.declared.queries.Reply.{Reply}
use Rattle.rows.specs.Replies.{IsRight, are_nodes}
use Rattle.rows.specs.Views.{AreRight, Viewed}
use Rattle.deltastep.specs.declared.rows.known.NodeDistance.{NodeDistance}
use Rattle.history.specs.Origins.{Origin}
use Rattle.office.specs.declared.naming.Naming.{Ghosts}
use Rattle.rows.specs.declared.nearby.Near.{Near}
use Rattle.rows.specs.Nearby.{are_pairs, node_of, IsNear, IsUntold}
use Rattle.desk.specs.Readings.{IsViewAfter}
use Rattle.dimacs.specs.declared.fault.Code.{Code}
use Rattle.printing.specs.Nodes.{pair_lines}
use Rattle.printing.specs.Printed.{refusal_line}
use Rattle.printing.specs.Writers.{Puts}
use Rattle.printing.specs.declared.failed.Failed.{Failed}
use Rattle.printing.specs.declared.writer.CountedWriter.{CountedWriter}
use Rattle.suppositions.specs.Supposing.{Supposition, Supposes, IsSuppositionUnanswered}
use Rattle.session_lines.specs.declared.drafts.Draft.{Draft}
use Rattle.session_lines.specs.Drafts.{Drafted, IsDraft, IsWhole, draft_fault_of}
use Rattle.session_lines.specs.Tables.{pairs_of}
use Rattle.sessions.specs.declared.queries.finding.Heading.TheVariants.{Supposed as of_supposed}
use Rattle.sessions.specs.declared.session.sessions.Purpose.TheVariants.{ToSuppose}
use Rattle.sessions.specs.declared.session.sessions.Session.{Session}
use Rattle.session_lines.specs.Copying.{Copying, no_copying}
use Rattle.sessions.specs.Headings.{supposed_line, untold_lines}
use Rattle.sessions.specs.Nearby.{near_lines}
use Rattle.sessions.specs.Saying.{EndsSo, Tells, session_state_of}
use Rattle.sessions.specs.Supposing.{SupposesAfter, IsNearIn, IsUnsupposed, IsTableIn, IsReplyIn, supposed_or_refusal, suppose_line}
use Rattle.sessions.specs.Told.{known_to}
use Rattle.sessions.specs.Turns.{IsSupposedEnd, LeavesSession, SessionState, fault_number}
use Rattle.sessions.proofs.Said.{tells_text}

-- ---- what is made of a view
pub supposed_after : (origin : Origin) (groups known : List Group) (view : Viewed) (group : Group) (version : ℕ) (net : Net) (found : Result Supposition Refusal) → groups ≡ known → IsViewAfter origin groups view
    → version ≡ view.version → net ≡ view.network → IfOk found (Supposes version net group) → IfOk found (SupposesAfter origin known group)
supposed_after origin groups known view group version net (Ok supposed) seen is version_is net_is supposes =
    let there : IsViewAfter origin known view = subst (λ (gs : List Group). IsViewAfter origin gs view) seen is in
    let of_view : Supposes version view.network group supposed = subst (λ (n : Net). Supposes version n group supposed) net_is supposes in
    record { network = view.network; network_is = there.network; supposes = subst (λ (v : ℕ). Supposes v view.network group supposed) (version_is ∙ there.version) of_view }
supposed_after origin groups known view group version net (Err refusal) seen is version_is net_is supposes = tt

pub refused_after : (origin : Origin) (groups known : List Group) (view : Viewed) (group : Group) (net : Net) (found : Result Supposition Refusal) → groups ≡ known → IsViewAfter origin groups view → net ≡ view.network
    → IfErr found (MayRefuseBatch net group) → IfErr found (IsUnsupposed origin known group)
refused_after origin groups known view group net (Ok supposed) seen is net_is refuses = tt
refused_after origin groups known view group net (Err refusal) seen is net_is refuses =
    let there : IsViewAfter origin known view = subst (λ (gs : List Group). IsViewAfter origin gs view) seen is in
    inl (record { network = view.network; network_is = there.network; refuses = subst (λ (n : Net). MayRefuseBatch n group refusal) net_is refuses })

-- ---- what is told of a query, of the nodes near one and of a table, under the version that it was made of
pub reply_found : (supposed : Supposition) (query : Query) (version : ℕ) (found : Result Reply NoMemory) → version ≡ supposed.version → IfOk found (IsRight supposed.network query)
    → IsReplyIn supposed query (supposed_or_refusal version query found)
reply_found supposed query version (Ok reply) is right = inl (reply, right, ap (λ (v : ℕ). supposed_or_refusal v query (Ok reply)) is)
reply_found supposed query version (Err error) is right = inr refl

pub found_near : (supposed : Supposition) (near : Near) (version : ℕ) (found : List NodeDistance) → version ≡ supposed.version → is_node supposed.network (node_of near) ≡ true → IsNear supposed.network near found
    → IsNearIn supposed near (supposed_line version ++ near_lines near found)
found_near supposed near version found is there near_is = inl (found, there, near_is, ap (λ (v : ℕ). supposed_line v ++ near_lines near found) is)

pub found_no_near : (supposed : Supposition) (near : Near) (version : ℕ) (refusal : Refusal) → version ≡ supposed.version → IsUntold (is_node supposed.network (node_of near)) refusal
    → IsNearIn supposed near (untold_lines (of_supposed version) refusal)
found_no_near supposed near version refusal is cause = inr (refusal, cause, ap (λ (v : ℕ). untold_lines (of_supposed v) refusal) is)

-- ---- what is told of a table
-- where all of the first are not, all of both are not, and so with the second
pub none_before : (P : ℕ → Type 0) (xs ys : List ℕ) (are : Bool) → (All P xs → are ≡ true) → are ≡ false → ¬ All P (xs ++ ys)
none_before P xs ys are only fails all =
    true≢false (sym (only (subst (All P) (take-append_seam xs ys) (All-take P (length xs) (xs ++ ys) all))) ∙ fails)

pub none_behind : (P : ℕ → Type 0) (xs ys : List ℕ) (are : Bool) → (All P ys → are ≡ true) → are ≡ false → ¬ All P (xs ++ ys)
none_behind P xs ys are only fails all =
    true≢false (sym (only (subst (All P) (drop-append_seam xs ys) (All-drop P (length xs) (xs ++ ys) all))) ∙ fails)

-- pairs of nodes have nodes as their ends
module _ (net : Net) where
  passed : (x : ℕ) → IsNode net x → is_node net x ≡ true
  passed x node = grind (arith, nat_tests, node.0, node.1)

  pairs_from : (source : ℕ) (targets : List ℕ) → IsNode net source → All (IsNode net) targets → are_pairs net (map (λ target. (source, target)) targets) ≡ true
  pairs_from source [] node all = refl
  pairs_from source (t ∷ targets) node all = rw (passed source node, passed t (All-head (IsNode net) t targets all)) (pairs_from source targets node (All-tail (IsNode net) t targets all))

  pub pairs_between : (sources targets : List ℕ) → All (IsNode net) sources → All (IsNode net) targets → are_pairs net (pairs_of sources targets) ≡ true
  pairs_between [] targets nodes all = refl
  pairs_between (s ∷ sources) targets nodes all =
      list_all-append (λ (pair : ℕ × ℕ). are_nodes net pair.0 pair.1) (map (λ (t : ℕ). (s, t)) targets) (pairs_of sources targets)
      ∙ rw (pairs_from s targets (All-head (IsNode net) s sources nodes) all) (pairs_between sources targets (All-tail (IsNode net) s sources nodes) all)

-- for what the replies to all pairs of nodes are not told
pub untold_pairs : (net : Net) (sources targets : List ℕ) (pairs : List (ℕ × ℕ)) (refusal : Refusal) → All (IsNode net) sources → All (IsNode net) targets → pairs ≡ pairs_of sources targets → IsUntold (are_pairs net pairs) refusal
    → IsSuppositionUnanswered (All (IsNode net) (sources ++ targets)) refusal
untold_pairs net sources targets pairs refusal nodes all is (inl none) =
    absurd (true≢false (sym (pairs_between net sources targets nodes all) ∙ (ap (are_pairs net) (sym is) ∙ none.0)))
untold_pairs net sources targets pairs refusal nodes all is (inr memory) = inr (memory.1, All-append (IsNode net) sources targets nodes all)

pub found_table : (supposed : Supposition) (sources targets : List ℕ) (version : ℕ) (pairs : List (ℕ × ℕ)) (replies : List Reply) → version ≡ supposed.version → All (IsNode supposed.network) (sources ++ targets)
    → pairs ≡ pairs_of sources targets → AreRight supposed.network pairs replies → IsTableIn supposed sources targets (supposed_line version ++ pair_lines pairs replies)
found_table supposed sources targets version pairs replies is there pairs_are right = inl (
  replies,
  there,
  subst (λ (ps : List (ℕ × ℕ)). AreRight supposed.network ps replies) pairs_are right,
  ap (λ (v : ℕ). supposed_line v ++ pair_lines pairs replies) is ∙ ap (λ (ps : List (ℕ × ℕ)). supposed_line supposed.version ++ pair_lines ps replies) pairs_are,
)

pub found_no_table : (supposed : Supposition) (sources targets : List ℕ) (version : ℕ) (refusal : Refusal) → version ≡ supposed.version → IsSuppositionUnanswered (All (IsNode supposed.network) (sources ++ targets)) refusal
    → IsTableIn supposed sources targets (untold_lines (of_supposed version) refusal)
found_no_table supposed sources targets version refusal is cause = inr (refusal, cause, ap (λ (v : ℕ). untold_lines (of_supposed v) refusal) is)

-- ---- what is told of the end of a group
module _ (copying : Copying) (origin : Origin) (was is : SessionState) (kept : Draft) where
  end_so : (fault found : Option Code) (group : Group) (supposed : Option Supposition) (told : List ℕ) → fault ≡ found → IsSupposedEnd origin is.known found group supposed told → IsSupposedEnd origin is.known fault group supposed told
  end_so fault found group supposed told e so = rw e so

  fault_end : (code : Code) → ((draft : Drafted) → IsDraft draft kept → draft_fault_of draft ≡ Some code) → LeavesSession None was is []
      → EndsSo copying origin ToSuppose kept was is (refusal_line (fault_number code)) []
  fault_end code fault leaves draft drafted =
      let none = leaves.supposed_is in
      (end_so (draft_fault_of draft) (Some code) draft.commands is.supposed (refusal_line (fault_number code)) (fault draft drafted) (none, refl), record { last = leaves.last; supposed_is = refl; none_durable = refl })

  refused_so : (group : Group) (supposed : Option Supposition) (refusal : Refusal) → supposed ≡ None → IsUnsupposed origin is.known group refusal
      → IsSupposedEnd origin is.known None group supposed (refusal_line (number_of refusal))
  refused_so group supposed refusal none cause = rw none (refusal, cause, refl)

  refused_end : (refusal : Refusal) → ((draft : Drafted) → IsDraft draft kept → (draft_fault_of draft ≡ None) × IsUnsupposed origin is.known draft.commands refusal) → LeavesSession None was is []
      → EndsSo copying origin ToSuppose kept was is (refusal_line (number_of refusal)) []
  refused_end refusal cause leaves draft drafted = (
    end_so (draft_fault_of draft) None draft.commands is.supposed (refusal_line (number_of refusal)) (cause draft drafted).0 (refused_so draft.commands is.supposed refusal leaves.supposed_is (cause draft drafted).1),
    record { last = leaves.last; supposed_is = refl; none_durable = refl },
  )

  supposed_so : (group : Group) (supposed : Option Supposition) (made : Supposition) (version : ℕ) → supposed ≡ Some made → version ≡ made.version → SupposesAfter origin is.known group made
      → IsSupposedEnd origin is.known None group supposed (suppose_line version)
  supposed_so group supposed made version some version_is supposes = rw some (supposes, ap suppose_line version_is)

  supposed_end : (made : Supposition) (version : ℕ) → ((draft : Drafted) → IsDraft draft kept → (draft_fault_of draft ≡ None) × SupposesAfter origin is.known draft.commands made) → version ≡ made.version
      → LeavesSession (Some made) was is [] → EndsSo copying origin ToSuppose kept was is (suppose_line version) []
  supposed_end made version supposes version_is leaves draft drafted = (
    end_so (draft_fault_of draft) None draft.commands is.supposed (suppose_line version) (supposes draft drafted).0 (supposed_so draft.commands is.supposed made version leaves.supposed_is version_is (supposes draft drafted).1),
    record { last = leaves.last; supposed_is = refl; none_durable = refl },
  )

-- the same of a session
module _ {N : Type 0} {n : Ghosts N} {W X : Type 0} (contents : W → Option (List ℕ)) (origin : Origin) (old new : Session N n) (kept : Draft) (result : Result X Failed) (before after : CountedWriter W) (receipts : new.receipts ≡ old.receipts)
    (last : new.last ≡ old.last) where
  pub tells_fault : (code : Code) → new.supposed ≡ None → ((draft : Drafted) → IsDraft draft kept → draft_fault_of draft ≡ Some code) → Puts contents (refusal_line (fault_number code)) result before after
      → OnOk result (Tells (EndsSo no_copying origin ToSuppose kept) origin old new contents before after)
  tells_fault code none fault puts =
      tells_text contents (refusal_line (fault_number code)) (EndsSo no_copying origin ToSuppose kept) origin old new result before after receipts
      (fault_end no_copying origin (session_state_of old) (session_state_of new) kept code fault (record { last = last; supposed_is = none; none_durable = refl })) puts

  pub tells_refused : (refusal : Refusal) → new.supposed ≡ None → ((draft : Drafted) → IsDraft draft kept → (draft_fault_of draft ≡ None) × IsUnsupposed origin (known_to new.place) draft.commands refusal)
      → Puts contents (refusal_line (number_of refusal)) result before after → OnOk result (Tells (EndsSo no_copying origin ToSuppose kept) origin old new contents before after)
  tells_refused refusal none cause puts =
      tells_text contents (refusal_line (number_of refusal)) (EndsSo no_copying origin ToSuppose kept) origin old new result before after receipts
      (refused_end no_copying origin (session_state_of old) (session_state_of new) kept refusal cause (record { last = last; supposed_is = none; none_durable = refl })) puts

  pub tells_supposed : (made : Supposition) (version : ℕ) → new.supposed ≡ Some made → version ≡ made.version
      → ((draft : Drafted) → IsDraft draft kept → (draft_fault_of draft ≡ None) × SupposesAfter origin (known_to new.place) draft.commands made) → Puts contents (suppose_line version) result before after
      → OnOk result (Tells (EndsSo no_copying origin ToSuppose kept) origin old new contents before after)
  tells_supposed made version some version_is supposes puts =
      tells_text contents (suppose_line version) (EndsSo no_copying origin ToSuppose kept) origin old new result before after receipts
      (supposed_end no_copying origin (session_state_of old) (session_state_of new) kept made version supposes version_is (record { last = last; supposed_is = some; none_durable = refl })) puts

-- a group that was supposed, or was not, is that of the lines
pub of_lines : (origin : Origin) (known : List Group) (draft : Drafted) (group : Group) (made : Supposition) → IsWhole draft group → SupposesAfter origin known group made → (draft_fault_of draft ≡ None) × SupposesAfter origin known draft.commands made
of_lines origin known draft group made whole supposes = (whole.0, subst (λ (g : Group). SupposesAfter origin known g made) whole.1 supposes)

pub not_of_lines : (origin : Origin) (known : List Group) (draft : Drafted) (group : Group) (refusal : Refusal) → IsWhole draft group → IsUnsupposed origin known group refusal
    → (draft_fault_of draft ≡ None) × IsUnsupposed origin known draft.commands refusal
not_of_lines origin known draft group refusal whole cause = (whole.0, subst (λ (g : Group). IsUnsupposed origin known g refusal) whole.1 cause)
