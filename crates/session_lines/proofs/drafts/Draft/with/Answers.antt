use Rattle.session_lines.proofs.drafts.Draft.with.Goals as goal

pub returns-in-Ignored : goal.returns-in-Ignored
returns-in-Ignored c draft is = rw c.in-Ignored.is is

pub returns-in-Command : goal.returns-in-Command
returns-in-Command c draft is = rw c.in-Command.is (c.and.ensures draft is)

pub returns-in-Refused : goal.returns-in-Refused
returns-in-Refused c draft is = rw c.in-Refused.is (c.faulty.ensures draft is)

pub returns-in-Query : goal.returns-in-Query
returns-in-Query c draft is = rw c.in-Query.is (c.faulty-in-Query.ensures draft is)

pub returns-in-Wait : goal.returns-in-Wait
returns-in-Wait c draft is = rw c.in-Wait.is (c.faulty-in-Wait.ensures draft is)

pub returns-in-Quit : goal.returns-in-Quit
returns-in-Quit c draft is = rw c.in-Quit.is (c.faulty-in-Quit.ensures draft is)

pub returns-in-Begin : goal.returns-in-Begin
returns-in-Begin c draft is = rw c.in-Begin.is (c.faulty-in-Begin.ensures draft is)

pub returns-in-End : goal.returns-in-End
returns-in-End c draft is = rw c.in-End.is (c.faulty-in-End.ensures draft is)

pub returns-in-Look : goal.returns-in-Look
returns-in-Look c draft is = rw c.in-Look.is (c.faulty-in-Look.ensures draft is)

pub returns-in-Until : goal.returns-in-Until
returns-in-Until c draft is = rw c.in-Until.is (c.faulty-in-Until.ensures draft is)

pub returns-in-State : goal.returns-in-State
returns-in-State c draft is = rw c.in-State.is (c.faulty-in-State.ensures draft is)

pub returns-in-Copy : goal.returns-in-Copy
returns-in-Copy c draft is = rw c.in-Copy.is (c.faulty-in-Copy.ensures draft is)

pub returns-in-Near : goal.returns-in-Near
returns-in-Near c draft is = rw c.in-Near.is (c.faulty-in-Near.ensures draft is)

pub returns-in-Table : goal.returns-in-Table
returns-in-Table c draft is = rw c.in-Table.is (c.faulty-in-Table.ensures draft is)

pub returns-in-Unkept : goal.returns-in-Unkept
returns-in-Unkept c draft is = rw c.in-Unkept.is (c.faulty-in-Unkept.ensures draft is)

pub returns-in-Suppose : goal.returns-in-Suppose
returns-in-Suppose c draft is = rw c.in-Suppose.is (c.faulty-in-Suppose.ensures draft is)

pub returns-in-Forget : goal.returns-in-Forget
returns-in-Forget c draft is = rw c.in-Forget.is (c.faulty-in-Forget.ensures draft is)

pub returns-in-Route : goal.returns-in-Route
returns-in-Route c draft is = rw c.in-Route.is (c.faulty-in-Route.ensures draft is)
