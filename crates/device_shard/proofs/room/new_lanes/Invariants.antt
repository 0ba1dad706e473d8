use Rattle.std.proofs.Common.{◌≡◌, length}
use Rattle.std.specs.List.{AllByRecursion}
use Rattle.device_shard.specs.Rooms.{IsUnused, needs_of}
use Rattle.device_shard.proofs.room.new_lanes.Given as goal

abbrev pub invariant-loop-thread : goal.invariant-loop-thread
invariant-loop-thread l = record {
  count : length l.lanes.items ≡ l._thread;
  unused : AllByRecursion (IsUnused (needs_of l.measure) l.parts) l.lanes.items;
}
