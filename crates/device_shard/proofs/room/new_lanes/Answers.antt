use Rattle.std.proofs.Common.{ap, length, arith}
use Rattle.std.proofs.lemmas.List.{length_push}
use Rattle.device_shard.specs.Rooms.{IsUnused, needs_of}
use Rattle.device_shard.specs.declared.lane.Lane.{Lane}
use Rattle.std.proofs.Common.{List}
use Rattle.device_shard.proofs.Measured.{all_pushed}
use Rattle.device_shard.proofs.room.new_lanes.Goals as goal

pub loop-thread-preserved : goal.loop-thread-preserved
loop-thread-preserved c = record {
  count = omega (arith, ap (λ (ls : List Lane). length ls) c.in_ok-push.ensures.items, length_push c.loop-thread.lanes.items c.in_ok-lane.lane, c.loop-thread.invariant.count);
  unused = all_pushed (IsUnused (needs_of c.args.measure) c.args.parts) c.loop-thread.lanes.items c.push.new.self.items c.in_ok-lane.lane c.in_ok-push.ensures.items c.loop-thread.invariant.unused c.in_ok-lane.ensures;
}
