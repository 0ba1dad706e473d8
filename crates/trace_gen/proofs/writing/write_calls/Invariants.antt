use Rattle.std.proofs.Common.{◌≤◌, length, vec_capacity}
use Rattle.replay_base.specs.Changes.{changed}
use Rattle.trace_gen.specs.declared.text.TheConstants.{LINE_ROOM}
use Rattle.trace_gen.specs.Left.{calls_left}
use Rattle.trace_gen.specs.Text.{calls_text}
use Rattle.trace_gen.specs.Writing.{Begun}
use Rattle.trace_gen.proofs.writing.write_calls.Given as goal

abbrev pub invariant-loop-call : goal.invariant-loop-call
invariant-loop-call g l = record {
  room : LINE_ROOM ≤ vec_capacity l.line;
  begun : Begun (calls_text (calls_left l.initial.generator)) (calls_text (calls_left l.generator))
      (changed (g.K.Sink.held l.initial.sink) (g.K.Sink.held l.sink) (g.K.Sink.faults l.initial.sink) (g.K.Sink.faults l.sink));
}

abbrev pub decreases-loop-call : goal.decreases-loop-call
decreases-loop-call g l = length (calls_left l.generator)
