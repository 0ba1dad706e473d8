use Rattle.replay_tool.proofs.Ending.{under_refused}
use Rattle.replay_tool.proofs.run.replay_over.Goals as goal

pub returns-in-Err-clause-ends : goal.returns-in-Err-clause-ends
returns-in-Err-clause-ends g c = λ st errs is said. under_refused _ _ errs c.in-Err.error st c.in-Err.ensures.cut is said
