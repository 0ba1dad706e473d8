use Rattle.std.proofs.Common.{◌≡◌, map}
use Rattle.std.specs.List.{AllByRecursion}
use Rattle.stream_log.specs.Log.{OwnerView, SeenView}
use Rattle.trace_format.specs.declared.event.Name.{Name}
use Rattle.device_shard.specs.Closing.{IsSeenIn, at_device, lists_of}
use Rattle.device_shard.proofs.closing.take_all.Given as goal

-- the tokens so far
abbrev pub invariant-loop-device : goal.invariant-loop-device
invariant-loop-device l = record {
  logs : map (λ (o : OwnerView). o.log) l.owners ≡ map (λ (o : OwnerView). o.log) l.initial.owners;
  lists : lists_of l.owners ≡ lists_of l.initial.owners;
  past : AllByRecursion (λ (t : Name × SeenView). IsSeenIn (at_device l.devices (lists_of l.initial.owners) t.0) t.1) l.yielded;
}
