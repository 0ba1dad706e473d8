use Rattle.std.proofs.Common.{◌≡◌, ◌∙◌, [], arith, ap, map, take}
use Rattle.std.specs.List.{flat_map}
use Rattle.std.proofs.lemmas.Grind.{common_steps}
use Rattle.trace_format.specs.Content.{content}
use Rattle.stream_plans.specs.Contents.{stream_part}
use Rattle.stream_plans.specs.Cuts.{devices_with}
use Rattle.stream_plans.specs.Tables.{device_in}
use Rattle.stream_plans.proofs.CutLemmas.{named_stream}
use Rattle.stream_plans.proofs.naming.devices_of.Goals as goal

pub loop-stream-preserved : goal.loop-stream-preserved
loop-stream-preserved c =
    let f = device_in c.args.table.now.rows.items in
    record {
      names = named_stream f c.loop-stream.devices.names.items c.add_named.new.devices.names.items c.args.streams.now c.loop-stream.stream-index c.stream-item.result c.loop-stream-test.true c.stream-item.is c.loop-stream.invariant.names
          (c.in_ok-add_named.ensures.names ∙ ap (λ es. devices_with f c.loop-stream.devices.names.items (map content es)) c.deref.ensures.value);
      numbered = c.in_ok-add_named.ensures.numbered;
    }

pub returns-clause-names : goal.returns-clause-names
returns-clause-names c =
    let whole : take c.loop-stream.stream-index c.args.streams.now ≡ c.args.streams.now = grind (arith, common_steps) in
    c.loop-stream.invariant.names ∙ ap (λ ss. devices_with (device_in c.args.table.now.rows.items) [] (flat_map (λ s. s.events) (map stream_part ss))) whole
