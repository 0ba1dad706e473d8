use Rattle.stream_replay.specs.Seating.{room_counted}
use Rattle.stream_replay.proofs.Seating.{needs_more, needs_taken}
use Rattle.stream_replay.proofs.counting.count_needs.Goals as goal

pub loop-event-preserved : goal.loop-event-preserved
loop-event-preserved c =
    needs_more c.args.events.now c.loop-event.event-index c.event-item.result (room_counted c.loop-event.counts) (room_counted c.in_ok-counts.counts) c.loop-event-test.true c.event-item.is c.loop-event.invariant c.in_ok-counts.ensures

pub returns : goal.returns
returns c = needs_taken c.args.events.now c.loop-event.event-index (room_counted c.loop-event.counts) c.loop-event-test.false c.loop-event.invariant
