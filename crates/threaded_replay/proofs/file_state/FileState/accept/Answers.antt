use Rattle.std.proofs.Common.{ap}
use Rattle.std.specs.Prelude.{Err, option_map}
use Rattle.stream_model.specs.declared.refusal.Refusal.TheVariants as refusal
use Rattle.stream_model.specs.Order.{events}
use Rattle.threaded_replay.proofs.file_state.FileState.accept.Goals as goal

pub returns-in-Err-Fault-clause-accepts : goal.returns-in-Err-Fault-clause-accepts
returns-in-Err-Fault-clause-accepts c = λ lines stands.
    ap (option_map (λ f. refusal.Fault f)) (c.in-Err-Fault.ensures.fault c.in-Err-Fault.fault (ap (λ e. Err e) c.in-Err-Fault.field-0-is) (events lines) stands.trace)
