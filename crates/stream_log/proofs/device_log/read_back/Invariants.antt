use Rattle.std.proofs.Common.{◌≡◌, ◌++◌, List}
use Rattle.std.specs.Prelude.{map, reverse}
use Rattle.std.specs.Mem.Slots.{slots_items}
use Rattle.stream_log.specs.Log.{line_of}
use Rattle.stream_log.specs.LogRule.{Line, IsCoded}
use Rattle.stream_log.proofs.device_log.read_back.Given as goal

abbrev pub invariant-loop-end : goal.invariant-loop-end
invariant-loop-end l = (list : List Line) → IsCoded list l.used (slots_items l.closed.words) → (front : List Line) × IsCoded front l.end (slots_items l.closed.words) × (reverse list ≡ map line_of l.entries.items ++ reverse front)

abbrev pub decreases-loop-end : goal.decreases-loop-end
decreases-loop-end l = l.end
