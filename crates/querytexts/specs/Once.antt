-- What one query of a text is answered with, and for what it is refused.
use Rattle.std.specs.Prelude.{◌≡◌, ℕ, zero, List, Option, None, Result, Ok, IfOk, IfErr, ⊤}
use Rattle.std.specs.Io.KnownBytes.{Appends}
use Rattle.roadnet.specs.Net.{Net}
use Rattle.roadnet.specs.declared.refusals.Refusal.TheVariants.{Write, OutOfMemory}
use Rattle.dimacs.specs.Content.{gr_text, content}
use Rattle.dimacs.specs.Texts.{Source, FaultOf}
use Rattle.rows.specs.declared.queries.Query.{Query}
use Rattle.rows.specs.declared.queries.Reply.{Reply}
use Rattle.rows.specs.Replies.{IsRight, query_refusal_of}
use Rattle.printing.specs.Counting.{writer_of}
use Rattle.printing.specs.Failing.{LeavesUnwritten}
use Rattle.printing.specs.Printed.{lines_of}
use Rattle.printing.specs.Widths.{told_width}
use Rattle.printing.specs.Writers.{KeepsWriter}
use Rattle.printing.specs.declared.done.Done.{Done}
use Rattle.printing.specs.declared.writer.CountedWriter.{CountedWriter}
use Rattle.printing.specs.declared.failed.Failed.{Failed}
use Rattle.printing.specs.declared.failed.Failed.TheVariants.{Text, Code}

-- the lines of a right reply to this query, and nothing else
pub record AnswersOne (net : Net) (query : Query) (old new : Option (List ℕ)) : Type 0 where
  pub reply : Reply
  pub right : IsRight net query reply
  pub written : Appends old new (lines_of 0 query reply)

-- what is written are the lines of a right reply to one query, in the network of the text, and nothing else
pub record IsAnsweredOnce (text : List ℕ) (query : Query) (old new : Option (List ℕ)) : Type 0 where
  pub net : Net
  pub network : content text ≡ Ok net
  pub answers : AnswersOne net query old new

-- the writer failed, or memory ran out
abbrev pub IsUnanswered : Failed → Type 0
IsUnanswered (Code Write) = ⊤
IsUnanswered (Code OutOfMemory) = ⊤
IsUnanswered failed = ⊥

-- The searches had buckets of this width, if one is given. Where it is refused the writer failed, or memory ran out, and nothing is written but by a
-- writer that failed.
pub record Answers {W : Type 0} (delta : Option ℕ) (result : Result Done Failed) (old new : CountedWriter W) : Type 0 where
  pub width : IfOk result (λ done. told_width done ≡ delta)
  pub refused : IfErr result IsUnanswered
  pub unwritten : IfErr result (LeavesUnwritten (writer_of old) (writer_of new))
  pub writer : KeepsWriter result old new

-- a fault of the call's one text, or the writer failed, or memory ran out: nothing else
abbrev pub IsOfOnce : Failed → Type 0
IsOfOnce (Text which fault) = which ≡ 0
IsOfOnce (Code refusal) = IsUnanswered (Code refusal)

-- the text has no fault, and of its network this holds
pub record AfterNetwork (text : List ℕ) (Holds : Net → Type 0) : Type 0 where
  pub net : Net
  pub network_is : content text ≡ Ok net
  pub holds : Holds net

-- The text has its fault told, or its reader failed in it. Where it has none the writer failed; or memory ran out, and the query is not refused
-- in its network.
abbrev pub IsRefusedOnce : List ℕ → Query → Source → Failed → Type 0
IsRefusedOnce text query source (Text zero fault) = FaultOf gr_text text source fault
IsRefusedOnce text query source (Code Write) = AfterNetwork text (λ net. ⊤)
IsRefusedOnce text query source (Code OutOfMemory) = AfterNetwork text (λ net. query_refusal_of net query ≡ None)
IsRefusedOnce text query source failed = ⊥
