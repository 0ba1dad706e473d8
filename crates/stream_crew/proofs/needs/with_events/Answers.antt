use Rattle.std.proofs.Common.{map, take}
use Rattle.trace_format.specs.Content.{content}
use Rattle.device_shard.proofs.Measured.{all_more, all_taken}
use Rattle.stream_crew.specs.Needs.{IsBelowAt}
use Rattle.stream_crew.proofs.Counting.{events_below, more_on, more_self}
use Rattle.stream_crew.proofs.needs.with_events.Goals as goal

pub loop-event-init : goal.loop-event-init
loop-event-init c = record { grows = more_self c.args.most; below = tt }

pub loop-event-preserved : goal.loop-event-preserved
loop-event-preserved c =
    let old = c.loop-event.more in
    let new = c.in_ok-more.more in
    record {
      grows = more_on c.args.most old new c.loop-event.invariant.grows c.in_ok-more.ensures.grows;
      below = all_more (IsBelowAt new) content c.args.events.now c.loop-event.event-index c.event-item.result c.loop-event-test.true c.event-item.is
          (events_below old new (map content (take c.loop-event.event-index c.args.events.now)) c.in_ok-more.ensures.grows c.loop-event.invariant.below) c.in_ok-more.ensures.below;
    }

pub returns-clause-below : goal.returns-clause-below
returns-clause-below c = all_taken (IsBelowAt c.loop-event.more) content c.args.events.now c.loop-event.event-index c.loop-event-test.false c.loop-event.invariant.below

pub returns-clause-grows : goal.returns-clause-grows
returns-clause-grows c = c.loop-event.invariant.grows
