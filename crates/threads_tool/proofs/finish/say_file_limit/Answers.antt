use Rattle.std.proofs.Common.{◌≡◌, refl}
use Rattle.replay_base.specs.Changes.{Change, changed}
use Rattle.replay_base.specs.declared.limit.Which.{Which}
use Rattle.replay_base.specs.declared.limit.Which.TheVariants as which
use Rattle.replay_tool.specs.Said.{Said, limit_line}
use Rattle.threads_tool.specs.Stops.{file_limit_line}
use Rattle.threads_tool.proofs.finish.say_file_limit.Goals as goal

-- the line of another limit is that of a run
as_in_a_run : (w : Which) (errs : Change) → (w ≡ which.Names → ⊥) → Said (limit_line w) errs → Said (file_limit_line w) errs
as_in_a_run which.Manifests errs other said = said
as_in_a_run which.Lines errs other said = said
as_in_a_run which.LineBytes errs other said = said
as_in_a_run which.Names errs other said = absurd (other refl)
as_in_a_run which.Chain errs other said = said
as_in_a_run which.Events errs other said = said
as_in_a_run which.Devices errs other said = said

pub returns-in_default : goal.returns-in_default
returns-in_default g c = as_in_a_run c.args.which (changed (g.L.Sink.held c.args.errs.now) (g.L.Sink.held c.say_limit.new.errs) (g.L.Sink.faults c.args.errs.now) (g.L.Sink.faults c.say_limit.new.errs)) c.in_default.not-Names c.say_limit.ensures
