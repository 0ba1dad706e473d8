use Rattle.std.proofs.Common.{◌≤◌, map, subst, sym, take}
use Rattle.trace_format.specs.Content.{content}
use Rattle.shard_room.specs.Needs.{IsWithinAt}
use Rattle.device_shard.specs.Rooms.{needs_of}
use Rattle.device_shard.specs.Shards.{results_at}
use Rattle.device_shard.proofs.Measured.{all_here, all_more, all_taken, events_grown, grown_on, grown_self}
use Rattle.device_shard.proofs.measure.with_events.Goals as goal

pub with_event-requires : goal.with_event-requires
with_event-requires c =
    subst (λ n. results_at (content c.event-item.result) ≤ n) (sym c.loop-event.invariant.grows.results)
    (all_here (λ e. results_at e ≤ c.args.measure.results) content c.args.events.now c.loop-event.event-index c.event-item.result c.loop-event-test.true c.event-item.is c.requires)

pub loop-event-init : goal.loop-event-init
loop-event-init c = record { grows = grown_self (needs_of c.args.measure); within = tt }

pub loop-event-preserved : goal.loop-event-preserved
loop-event-preserved c =
    let old = needs_of c.loop-event.most in
    let new = needs_of c.in_ok-most.most in
    record {
      grows = grown_on (needs_of c.args.measure) old new c.loop-event.invariant.grows c.in_ok-most.ensures.grows;
      within = all_more (IsWithinAt new) content c.args.events.now c.loop-event.event-index c.event-item.result c.loop-event-test.true c.event-item.is
          (events_grown old new (map content (take c.loop-event.event-index c.args.events.now)) c.in_ok-most.ensures.grows c.loop-event.invariant.within) c.in_ok-most.ensures.within;
    }

pub returns-clause-within : goal.returns-clause-within
returns-clause-within c = all_taken (IsWithinAt (needs_of c.loop-event.most)) content c.args.events.now c.loop-event.event-index c.loop-event-test.false c.loop-event.invariant.within

pub returns-clause-grows : goal.returns-clause-grows
returns-clause-grows c = c.loop-event.invariant.grows
