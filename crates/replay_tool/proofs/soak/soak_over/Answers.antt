use Rattle.std.proofs.Common.{refl}
use Rattle.replay_tool.proofs.Soaking.{soak_cut, soak_done, soak_unput}
use Rattle.replay_tool.proofs.soak.soak_over.Goals as goal

pub returns-in-Err-clause-ends : goal.returns-in-Err-clause-ends
returns-in-Err-clause-ends g c = λ st errs is said. soak_cut _ _ _ errs st c.in-Err.error c.in-Err.ensures.cut (record { same = refl; stood = refl }) is said

pub returns-in-Ok-put_end-clause-ends : goal.returns-in-Ok-put_end-clause-ends
returns-in-Ok-put_end-clause-ends g c = λ st errs to silent.
    soak_done _ _ _ errs st _ c.in-Ok.ensures.whole c.tally.result.calls c.tally.result.skipped c.tally.result.reports c.tally.ensures c.in-Ok-put_end.ensures to silent

pub returns-in-Err-put_end-clause-ends : goal.returns-in-Err-put_end-clause-ends
returns-in-Err-put_end-clause-ends g c = λ st errs is said.
    soak_unput _ _ _ errs st _ c.in-Ok.ensures.whole c.tally.result.calls c.tally.result.skipped c.tally.result.reports c.in-Err-put_end.error c.tally.ensures c.in-Err-put_end.ensures is said
