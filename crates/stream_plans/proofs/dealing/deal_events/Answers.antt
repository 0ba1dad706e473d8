use Rattle.std.proofs.Common.{◌≡◌, arith, map, subst, take}
use Rattle.std.proofs.lemmas.Grind.{common_steps}
use Rattle.trace_format.specs.Content.{content}
use Rattle.stream_plans.specs.Dealt.{IsDealt, events_in}
use Rattle.stream_plans.specs.Tables.{device_in}
use Rattle.stream_plans.proofs.DealtLemmas.{dealt_all, dealt_next}
use Rattle.stream_plans.proofs.dealing.deal_events.Goals as goal

pub loop-event-preserved : goal.loop-event-preserved
loop-event-preserved c =
    dealt_next (device_in c.args.table.now.rows.items) c.args.devices.now.names.items c.requires.apart (events_in c.loop-event.parts.items) (events_in c.deal_event.new.parts.items) c.loop-event.places.items c.add_place.new.places.items c.loop-event.at
    c.number_of-at.result c.args.events.now c.loop-event.event-index c.event-item.result c.loop-event-test.true c.event-item.is c.number_of-at.ensures c.in_ok-add_place.ensures c.in_ok-deal_event.ensures c.loop-event.invariant

pub returns-clause-parts : goal.returns-clause-parts
returns-clause-parts c =
    let f = device_in c.args.table.now.rows.items in
    let whole : take c.loop-event.event-index c.args.events.now ≡ c.args.events.now = grind (arith, common_steps) in
    dealt_all f c.args.devices.now.names.items (events_in c.loop-event.parts.items) c.loop-event.places.items c.loop-event.at (map content c.args.events.now)
    (subst (λ es. IsDealt f c.args.devices.now.names.items (events_in c.loop-event.parts.items) c.loop-event.places.items c.loop-event.at (map content es)) whole c.loop-event.invariant)
