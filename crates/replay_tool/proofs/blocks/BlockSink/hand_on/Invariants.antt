use Rattle.std.proofs.Common.{◌≡◌, ◌-◌, length, drop}
use Rattle.replay_base.specs.Bytes.{grown}
use Rattle.replay_tool.proofs.blocks.BlockSink.hand_on.Given as goal

abbrev pub invariant-loop-self : goal.invariant-loop-self
invariant-loop-self g l = record {
  held : grown (g.K.Sink.held l.self.inner) (drop l.self.from l.self.block.items) ≡ grown (g.K.Sink.held l.initial.self.inner) (drop l.initial.self.from l.initial.self.block.items);
  faults : g.K.Sink.faults l.self.inner ≡ g.K.Sink.faults l.initial.self.inner;
  room : l.self.room ≡ l.initial.self.room;
}

abbrev pub decreases-loop-self : goal.decreases-loop-self
decreases-loop-self g l = length l.self.block.items - l.self.from
