use Rattle.std.proofs.Common.{map, take}
use Rattle.stream_log.specs.Log.{line_of}
use Rattle.trace_format.specs.Content.{content}
use Rattle.threaded_replay.specs.Files.{file_parts}
use Rattle.stream_merge.proofs.Counts.{EventsPassed}
use Rattle.stream_merge.proofs.events.gather_events.Given as goal

abbrev pub invariant-loop-entry : goal.invariant-loop-entry
invariant-loop-entry l = EventsPassed (file_parts l.file).streams (map (λ e. line_of e.now) (take l.entry-index l.entries)) l.counts.items (map content l.events.items)
