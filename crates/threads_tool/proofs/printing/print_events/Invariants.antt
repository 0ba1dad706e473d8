use Rattle.std.proofs.Common.{◌≡◌, ◌++◌, map, take}
use Rattle.trace_format.specs.Content.{content}
use Rattle.threads_tool.specs.Printed.{event_lines}
use Rattle.threads_tool.proofs.printing.print_events.Given as goal

-- the lines of the events so far stand
abbrev pub invariant-loop-event : goal.invariant-loop-event
invariant-loop-event l = l.text.items ≡ l.fn.text.items ++ event_lines (map content (take l.event-index l.events))
