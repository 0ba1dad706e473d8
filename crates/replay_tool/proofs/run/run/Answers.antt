use Rattle.std.proofs.Common.{refl, inl}
use Rattle.chain_build.specs.Setup.{setup_content}
use Rattle.replay_tool.proofs.Ending.{run_read, without_setup}
use Rattle.replay_tool.proofs.run.run.Goals as goal

pub returns-in-Ok-clause-ends : goal.returns-in-Ok-clause-ends
returns-in-Ok-clause-ends g c = λ st errs has says.
    run_read _ _ _ _ _ _ errs st _ (setup_content c.in-Ok.setup) c.in-Ok.ensures.setup.0 c.in-Ok.ensures.setup.1 c.in-Ok.ensures.untold (c.replay_over.ensures.ends st errs has says)

pub returns-in-Err-clause-ends : goal.returns-in-Err-clause-ends
returns-in-Err-clause-ends g c = λ st errs is said.
    inl (without_setup _ _ errs c.in-Err.error st c.in-Err.ensures.lacks
    (record { unread = refl; stood = refl; untouched = record { driver = c.in-Err.ensures.untold; sink = refl; stood = refl } }) is said)
