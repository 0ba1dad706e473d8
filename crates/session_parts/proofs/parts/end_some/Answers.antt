use Rattle.session_parts.proofs.Lent.{takes_none}
use Rattle.session_parts.proofs.parts.end_some.Goals as goal

pub returns-else-not-skipped-clause-room : goal.returns-else-not-skipped-clause-room
returns-else-not-skipped-clause-room c = takes_none 0 0 c.args.names.now.room
