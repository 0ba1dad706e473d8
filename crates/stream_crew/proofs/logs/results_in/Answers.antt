use Rattle.std.proofs.Common.{◌∙◌}
use Rattle.trace_format.specs.Content.{content}
use Rattle.device_shard.specs.Shards.{results_at}
use Rattle.device_shard.proofs.Measured.{sum_more, sum_taken}
use Rattle.stream_crew.proofs.logs.results_in.Goals as goal

pub loop-event-preserved : goal.loop-event-preserved
loop-event-preserved c =
    c.in_ok-count.ensures
    ∙ sum_more results_at content c.args.events.now c.loop-event.event-index c.event-item.result c.loop-event.count c.results_at-more.result c.loop-event-test.true c.event-item.is c.loop-event.invariant c.results_at-more.ensures

pub returns : goal.returns
returns c = sum_taken results_at content c.args.events.now c.loop-event.event-index c.loop-event.count c.loop-event-test.false c.loop-event.invariant
