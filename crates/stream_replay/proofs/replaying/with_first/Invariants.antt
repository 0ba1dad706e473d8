use Rattle.std.proofs.Common.{◌≡◌, ◌∷◌}
use Rattle.stream_replay.proofs.replaying.with_first.Given as goal

-- the first, and those so far
abbrev pub invariant-loop-seat : goal.invariant-loop-seat
invariant-loop-seat g l = l.all.items ≡ l.fn.first ∷ l.yielded
