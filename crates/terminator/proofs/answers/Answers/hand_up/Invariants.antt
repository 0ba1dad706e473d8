use Rattle.std.proofs.Common.{◌≡◌, map}
use Rattle.layer_model.specs.Terminator.{plain_handle, values_from}
use Rattle.terminator.specs.Calls.{born_where}
use Rattle.terminator.specs.Shown.{answers_in}
use Rattle.terminator.proofs.Answering.{handed_from}
use Rattle.terminator.proofs.answers.Answers.hand_up.Given as goal

abbrev pub invariant-loop-place : goal.invariant-loop-place
invariant-loop-place l = handed_from l.fn.self.cmd (answers_in l.fn.self) l.place l.results ≡ map plain_handle (values_from l.fn.self.cmd (answers_in l.fn.self) 0 (born_where l.fn.results))
