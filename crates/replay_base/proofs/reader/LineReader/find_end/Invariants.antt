use Rattle.std.proofs.Common.{◌≡◌, ◌+◌, ◌-◌, ◌≤◌, length, take}
use Rattle.replay_base.specs.Lines.{HasNoFeed}
use Rattle.replay_base.specs.declared.limit.TheConstants.{MOST_LINE_BYTES}
use Rattle.replay_base.specs.Reader.{kept_of, rest, state_of}
use Rattle.replay_base.proofs.reader.LineReader.find_end.Given as goal

abbrev pub invariant-loop-length : goal.invariant-loop-length
invariant-loop-length g l = record {
  within : l.seen ≤ length (kept_of l.self);
  no_feed : HasNoFeed (take l.seen (kept_of l.self));
  rest : rest (state_of g.S.Source.left g.S.Source.faults l.self) ≡ rest (state_of g.S.Source.left g.S.Source.faults l.initial.self);
  stood : g.S.Source.faults l.self.source ≡ g.S.Source.faults l.initial.self.source;
  same : g.S.Source.loan l.self.source ≡ g.S.Source.loan l.initial.self.source;
  finished : l.self.finished ≡ l.initial.self.finished;
  place : l.self.place ≡ l.initial.self.place;
  error : l.self.error ≡ l.initial.self.error;
}

abbrev pub decreases-loop-length : goal.decreases-loop-length
decreases-loop-length g l = MOST_LINE_BYTES + 1 - length (kept_of l.self)
