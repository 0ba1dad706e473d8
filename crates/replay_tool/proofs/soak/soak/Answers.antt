use Rattle.std.proofs.Common.{refl, inl}
use Rattle.chain_build.specs.Setup.{setup_content}
use Rattle.replay_tool.proofs.Ending.{soak_read, without_setup}
use Rattle.replay_tool.proofs.soak.soak.Goals as goal

pub returns-in-Ok-clause-ends : goal.returns-in-Ok-clause-ends
returns-in-Ok-clause-ends g c = λ st source errs unread has says.
    soak_read _ source _ _ _ _ _ errs st _ (setup_content c.in-Ok.setup) unread c.in-Ok.ensures.setup.0 c.in-Ok.ensures.setup.1 c.in-Ok.ensures.untold (c.soak_over.ensures.ends st errs has says)

pub returns-in-Err-clause-ends : goal.returns-in-Err-clause-ends
returns-in-Err-clause-ends g c = λ st source errs unread is said.
    inl (without_setup _ _ errs c.in-Err.error st c.in-Err.ensures.lacks
    (record { unread = unread.same; stood = unread.stood; untouched = record { driver = c.in-Err.ensures.untold; sink = refl; stood = refl } }) is said)
