use Rattle.std.proofs.Common.{◌≡◌, ◌∙◌, ap}
use Rattle.replay_core.specs.Statuses.{status_code}
use Rattle.replay_core.specs.declared.status.Status.TheVariants as status
use Rattle.replay_tool.proofs.process.exit_status.Goals as goal

pub returns-in-Ok-clause-flushed : goal.returns-in-Ok-clause-flushed
returns-in-Ok-clause-flushed g c = λ other. c.replay_main.ensures.flushed (λ (is : c.replay_main.result.status ≡ status.WriteFault). other (c.code.ensures ∙ ap status_code is))
