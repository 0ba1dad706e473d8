use Rattle.std.proofs.Common.{◌≡◌, ◌+◌, take}
use Rattle.command_tables.specs.Handles.{count_in}
use Rattle.model_driver.specs.Driver.{call_shown, handles_due}
use Rattle.model_driver.proofs.seat_driver.handles_taken.Given as goal

abbrev pub invariant-loop-p : goal.invariant-loop-p
invariant-loop-p l = l.count ≡ handles_due (call_shown l.call) + count_in (take l.p l.call.body.args.lists)
