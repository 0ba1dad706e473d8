use Rattle.std.proofs.Common.{◌≡◌, Global, Vec, map}
use Rattle.std.specs.List.{AllByRecursion}
use Rattle.atomic_table.specs.Seated.{TableId}
use Rattle.stream_log.specs.declared.entry.Entry.{Entry}
use Rattle.stream_log.specs.Log.{OwnerView, RisesFrom}
use Rattle.trace_format.specs.declared.event.Name.{Name}
use Rattle.device_shard.specs.Closing.{closed_list}
use Rattle.device_shard.proofs.closing.close_each.Given as goal

-- the logs so far
abbrev pub invariant-loop-device : goal.invariant-loop-device
invariant-loop-device l = record {
  devices : map (λ (x : Name × Vec Entry Global). x.0) l.closed.items ≡ map (λ (x : Name × (TableId × OwnerView)). x.0) l.yielded;
  lists : map (closed_list {A = Global}) l.closed.items ≡ map (λ (x : Name × (TableId × OwnerView)). x.1.1.list) l.yielded;
  rises : AllByRecursion (RisesFrom 0) (map (closed_list {A = Global}) l.closed.items);
}
