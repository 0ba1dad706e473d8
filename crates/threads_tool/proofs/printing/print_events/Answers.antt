use Rattle.threads_tool.proofs.Events.{event_here, next_event}
use Rattle.threads_tool.proofs.printing.print_events.Goals as goal

pub print_line-requires : goal.print_line-requires
print_line-requires c = event_here c.args.events.now c.loop-event.event-index c.event-item.result c.loop-event-test.true c.event-item.is c.requires

pub loop-event-preserved : goal.loop-event-preserved
loop-event-preserved c =
    next_event c.args.events.now c.loop-event.event-index c.event-item.result c.loop-event-test.true c.event-item.is c.args.text.now.items c.loop-event.text.items _
    c.loop-event.invariant c.in_ok-print_line.ensures.ok
