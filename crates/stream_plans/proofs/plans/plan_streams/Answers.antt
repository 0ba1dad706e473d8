use Rattle.std.proofs.Common.{◌≡◌, ◌∙◌, Global, arith, ap, false, map, take}
use Rattle.std.proofs.lemmas.Grind.{common_steps}
use Rattle.trace_format.specs.Content.{content}
use Rattle.stream_model.specs.FileParts.{StreamPart}
use Rattle.stream_model.specs.Plans.{calls_on}
use Rattle.stream_plans.specs.Contents.{plan_content, stream_part}
use Rattle.stream_plans.specs.Cuts.{places_planned}
use Rattle.stream_plans.specs.Dealt.{events_in}
use Rattle.stream_plans.specs.Tables.{device_in}
use Rattle.stream_plans.proofs.AddedLemmas.{stream_next}
use Rattle.stream_plans.proofs.CutLemmas.{map_both, pushed}
use Rattle.stream_plans.proofs.plans.plan_streams.Goals as goal

pub loop-stream-preserved : goal.loop-stream-preserved
loop-stream-preserved c =
    let f = device_in c.args.table.now.rows.items in
    let devices = c.args.devices.now.names.items in
    let x = c.stream-item.result in
    record {
      plans = stream_next f devices (map plan_content c.loop-stream.plans.items) (map plan_content c.add_parts.new.plans.items) (events_in c.in_ok-dealt.dealt.parts.items) c.args.streams.now c.loop-stream.stream-index x c.loop-stream-test.true c.stream-item.is
          c.loop-stream.invariant.plans (c.in_ok-dealt.ensures.parts ∙ ap (λ es. map (λ d. calls_on f d false (map content es)) devices) c.deref-in-loop-stream.ensures.value) c.in_ok-add_parts.ensures;
      places = pushed (λ p. p.items) (λ s. places_planned f devices (stream_part {A = Global} s).events) c.loop-stream.places.items c.push.new.self.items c.in_ok-dealt.dealt.places c.args.streams.now c.loop-stream.stream-index x c.loop-stream-test.true c.stream-item.is
          c.loop-stream.invariant.places c.in_ok-push.ensures.items (c.in_ok-dealt.ensures.places ∙ ap (λ es. places_planned f devices (map content es)) c.deref-in-loop-stream.ensures.value);
    }

pub returns-clause-places : goal.returns-clause-places
returns-clause-places c =
    let f = device_in c.args.table.now.rows.items in
    let devices = c.args.devices.now.names.items in
    let whole : take c.loop-stream.stream-index c.args.streams.now ≡ c.args.streams.now = grind (arith, common_steps) in
    c.loop-stream.invariant.places
    ∙ (ap (map (λ s. places_planned f devices (stream_part {A = Global} s).events)) whole ∙ map_both (stream_part {A = Global}) (λ (s : StreamPart). places_planned f devices s.events) c.args.streams.now)
