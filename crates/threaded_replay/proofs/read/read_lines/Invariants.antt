use Rattle.std.proofs.Common.{◌≡◌, ◌≤◌, ◌+◌, ◌-◌, None}
use Rattle.replay_base.specs.Reader.{state_of}
use Rattle.replay_model.specs.declared.TheConstants.{MOST_LINES}
use Rattle.threaded_replay.proofs.Progress.{SoFar}
use Rattle.threaded_replay.proofs.read.read_lines.Given as goal

abbrev pub invariant-loop-error : goal.invariant-loop-error
invariant-loop-error g l = record {
  fine : l.reader.error ≡ None;
  same : g.S.Source.loan l.reader.source ≡ g.S.Source.loan l.fn.reader.source;
  most : l.number ≤ MOST_LINES + 1;
  far : SoFar (g.S.Source.left l.fn.reader.source) (g.S.Source.faults l.fn.reader.source) (state_of g.S.Source.left g.S.Source.faults l.reader) l.intake l.number;
}

abbrev pub decreases-loop-error : goal.decreases-loop-error
decreases-loop-error g l = MOST_LINES + 1 - l.number
