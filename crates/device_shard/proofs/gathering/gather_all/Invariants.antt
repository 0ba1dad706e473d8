use Rattle.std.proofs.Common.{◌≡◌, drop, reverse, take}
use Rattle.device_shard.specs.Gathering.{IsGathered}
use Rattle.device_shard.specs.Making.{AreLogs}
use Rattle.device_shard.proofs.gathering.gather_all.Given as goal

abbrev pub invariant-loop-plan : goal.invariant-loop-plan
invariant-loop-plan g l = record {
  gathered : IsGathered l.clock (take l.plan-index g.N.ShardNames.shards) l.made;
  logs : AreLogs (drop l.plan-index g.N.ShardNames.shards) (reverse l.logs.items);
  tick : l.tick ≡ l.fn.tick;
}
