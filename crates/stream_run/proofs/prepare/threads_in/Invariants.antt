use Rattle.std.proofs.Common.{◌≡◌, map, take}
use Rattle.threaded_replay.specs.Files.{stream_part}
use Rattle.stream_run.proofs.prepare.threads_in.Given as goal

abbrev pub invariant-loop-stream : goal.invariant-loop-stream
invariant-loop-stream l = l.threads.items ≡ map (λ s. s.thread) (map stream_part (take l.stream-index l.streams))
