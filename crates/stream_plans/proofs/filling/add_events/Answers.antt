use Rattle.std.proofs.Common.{◌≡◌, arith, map, subst, take}
use Rattle.std.proofs.lemmas.Grind.{common_steps}
use Rattle.trace_format.specs.Content.{content}
use Rattle.stream_plans.specs.Tables.{Learns}
use Rattle.stream_plans.proofs.TableLemmas.{learned_next, learned_none}
use Rattle.stream_plans.proofs.filling.add_events.Goals as goal

pub loop-event-init : goal.loop-event-init
loop-event-init c = learned_none c.args.table.now.rows.items

pub loop-event-preserved : goal.loop-event-preserved
loop-event-preserved c =
    learned_next c.args.table.now.rows.items c.loop-event.table.rows.items c.add_event.new.table.rows.items c.args.events.now c.loop-event.event-index c.event-item.result c.loop-event-test.true c.event-item.is c.loop-event.invariant
    c.in_ok-add_event.ensures

pub returns : goal.returns
returns c =
    let whole : take c.loop-event.event-index c.args.events.now ≡ c.args.events.now = grind (arith, common_steps) in
    subst (λ es. Learns c.args.table.now.rows.items c.loop-event.table.rows.items (map content es)) whole c.loop-event.invariant
