use Rattle.std.proofs.Common.{◌≡◌, ◌∙◌, [], arith, ap, drop, map, sym}
use Rattle.std.proofs.lemmas.Grind.{common_steps}
use Rattle.trace_format.specs.Content.{content}
use Rattle.stream_model.specs.Order.{with_device}
use Rattle.stream_plans.specs.Cuts.{devices_with}
use Rattle.stream_plans.specs.Tables.{device_in}
use Rattle.stream_plans.proofs.CutLemmas.{named_next}
use Rattle.stream_plans.proofs.naming.add_named.Goals as goal

pub loop-event-preserved : goal.loop-event-preserved
loop-event-preserved c = record {
  names = named_next (device_in c.args.table.now.rows.items) c.loop-event.devices.names.items c.add.new.self.names.items c.args.devices.now.names.items c.args.events.now c.loop-event.event-index c.event-item.result c.loop-event-test.true c.event-item.is
      c.loop-event.invariant.names (c.in_ok-add.ensures.names ∙ ap (λ d. with_device d c.loop-event.devices.names.items) c.event_device.ensures);
  numbered = c.in_ok-add.ensures.numbered;
}

pub returns-clause-names : goal.returns-clause-names
returns-clause-names c =
    let none : drop c.loop-event.event-index c.args.events.now ≡ [] = grind (arith, common_steps) in
    ap (λ es. devices_with (device_in c.args.table.now.rows.items) c.loop-event.devices.names.items (map content es)) (sym none) ∙ c.loop-event.invariant.names
