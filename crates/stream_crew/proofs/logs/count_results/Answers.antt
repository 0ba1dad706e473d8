use Rattle.std.proofs.Common.{◌∙◌, ap, map}
use Rattle.std.specs.List.{sum_by}
use Rattle.trace_format.specs.Content.{content}
use Rattle.device_shard.specs.Shards.{results_at}
use Rattle.device_shard.proofs.Measured.{due_more, due_taken}
use Rattle.stream_crew.proofs.logs.count_results.Goals as goal

pub loop-stream-preserved : goal.loop-stream-preserved
loop-stream-preserved c =
    c.in_ok-count.ensures
    ∙ due_more c.args.streams.now c.loop-stream.stream-index c.stream-item.result c.loop-stream.count c.in_ok-more.more c.loop-stream-test.true c.stream-item.is c.loop-stream.invariant
    (c.in_ok-more.ensures ∙ ap (λ es. sum_by results_at (map content es)) c.deref.ensures.value)

pub returns : goal.returns
returns c = due_taken c.args.streams.now c.loop-stream.stream-index c.loop-stream.count c.loop-stream-test.false c.loop-stream.invariant
