use Rattle.std.proofs.Common.{◌≡◌, arith, map, subst, take}
use Rattle.std.specs.List.{flat_map}
use Rattle.std.proofs.lemmas.Grind.{common_steps}
use Rattle.trace_format.specs.Content.{content}
use Rattle.stream_plans.specs.Contents.{stream_part}
use Rattle.stream_plans.specs.Tables.{Learns}
use Rattle.stream_plans.proofs.TableLemmas.{learned_none, learned_stream}
use Rattle.stream_plans.proofs.filling.add_streams.Goals as goal

pub loop-stream-init : goal.loop-stream-init
loop-stream-init c = learned_none c.args.table.now.rows.items

pub loop-stream-preserved : goal.loop-stream-preserved
loop-stream-preserved c =
    learned_stream c.args.table.now.rows.items c.loop-stream.table.rows.items c.add_events.new.table.rows.items c.args.streams.now c.loop-stream.stream-index c.stream-item.result c.loop-stream-test.true c.stream-item.is c.loop-stream.invariant
    (subst (λ es. Learns c.loop-stream.table.rows.items c.add_events.new.table.rows.items (map content es)) c.deref.ensures.value c.in_ok-add_events.ensures)

pub returns : goal.returns
returns c =
    let whole : take c.loop-stream.stream-index c.args.streams.now ≡ c.args.streams.now = grind (arith, common_steps) in
    subst (λ ss. Learns c.args.table.now.rows.items c.loop-stream.table.rows.items (flat_map (λ s. s.events) (map stream_part ss))) whole c.loop-stream.invariant
