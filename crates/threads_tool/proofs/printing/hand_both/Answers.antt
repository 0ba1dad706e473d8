use Rattle.std.proofs.Common.{◌∙◌, ◌++◌, ap}
use Rattle.replay_base.specs.Faults.{raised}
use Rattle.replay_core.proofs.Playing.{whole_grown}
use Rattle.threads_tool.proofs.printing.hand_both.Goals as goal

pub returns-in-Err-flush-clause-writes : goal.returns-in-Err-flush-clause-writes
returns-in-Err-flush-clause-writes g c = (
  whole_grown (g.K.Sink.held c.args.out.now) (g.K.Sink.held c.flush.new.self) (c.args.first.now ++ c.args.last.now) (c.in-Err-flush.ensures.held ∙ c.in-Ok.ensures.all),
  c.in-Err-flush.ensures.cause.failed ∙ ap raised c.in-Ok.ensures.cause.stood,
)
