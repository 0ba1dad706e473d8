use Rattle.std.proofs.Common.{◌≡◌, [], replicate}
use Rattle.stream_crew.specs.Dealing.{items_of}
use Rattle.stream_crew.proofs.dealing.no_slots.Given as goal

abbrev pub invariant-loop-stream : goal.invariant-loop-stream
invariant-loop-stream l = items_of l.slots.items ≡ replicate l._stream []
