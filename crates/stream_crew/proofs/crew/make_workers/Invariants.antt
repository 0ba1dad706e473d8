use Rattle.std.proofs.Common.{◌≡◌, ◌≤◌, ◌*◌, drop, length, map, reverse}
use Rattle.std.specs.List.{sum_by}
use Rattle.device_shard.specs.Plans.{plan_content}
use Rattle.stream_crew.specs.Making.{HaveLots, lots_of}
use Rattle.stream_crew.proofs.crew.make_workers.Given as goal

abbrev pub invariant-loop-number : goal.invariant-loop-number
invariant-loop-number g l = record {
  count : length l.workers.items ≡ l.number;
  places : reverse l.places.items ≡ drop l.number l.fn.places.items;
  seats : reverse l.seats.items ≡ drop l.number l.fn.seats.items;
  slots : reverse l.slots.items ≡ drop l.number (reverse l.initial.slots.items);
  lots : HaveLots (map plan_content l.plans) l.clock l.fn.tick.seen (lots_of l.threads l.fn.places.items (reverse l.initial.slots.items) l.fn.seats.items) l.workers.items;
  clock : l.tick.clock ≡ l.clock;
  seen : l.tick.seen ≡ l.fn.tick.seen;
  left : sum_by (λ p. 2 * length p.items) (drop l.number l.fn.places.items) ≤ l.tick.left;
}
