use Rattle.std.proofs.Common.{rules}
use Rattle.session_lines.proofs.Staged.{more_letters, too_long, nine_letters}
use Rattle.session_lines.proofs.lines.going_on.Goals as goal

pub returns-in-Some : goal.returns-in-Some
returns-in-Some c front is = more_letters front c.args.byte c.args.letters c.in-Some.letters c.requires c.in-Some.ensures is

pub returns-in-None : goal.returns-in-None
returns-in-None c front is = too_long front c.args.byte c.args.letters c.requires (nine_letters c.args.letters c.in-None.ensures (search rules)) is
