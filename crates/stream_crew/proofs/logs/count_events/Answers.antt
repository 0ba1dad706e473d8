use Rattle.std.proofs.Common.{◌≡◌, ◌∙◌, length, arith}
use Rattle.stream_crew.proofs.Counting.{events_more, events_taken}
use Rattle.stream_crew.proofs.logs.count_events.Goals as goal

pub loop-stream-preserved : goal.loop-stream-preserved
loop-stream-preserved c =
    let long : c.len.result ≡ length c.stream-item.result.1.items = omega (arith, c.len.ensures, c.stream-item.result.1.ok.0) in
    c.in_ok-count.ensures ∙ events_more c.args.streams.now c.loop-stream.stream-index c.stream-item.result c.loop-stream.count c.len.result c.loop-stream-test.true c.stream-item.is c.loop-stream.invariant long

pub returns : goal.returns
returns c = events_taken c.args.streams.now c.loop-stream.stream-index c.loop-stream.count c.loop-stream-test.false c.loop-stream.invariant
