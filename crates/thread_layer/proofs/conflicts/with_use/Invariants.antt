use Rattle.std.proofs.Common.{◌≡◌, ◌+◌, length, drop}
use Rattle.object_model.specs.Uses.{conflicts_in, least}
use Rattle.thread_layer.specs.Kept.{counted, lesser, opens_of, use_seen}
use Rattle.thread_layer.proofs.conflicts.with_use.Given as goal

abbrev pub invariant-loop-i : goal.invariant-loop-i
invariant-loop-i l = record {
  least : lesser l.least (least (conflicts_in (opens_of (drop l.i l.calls) (drop l.start l.held)) l.thread (use_seen l.used))) ≡ lesser l.fn.so_far (least (conflicts_in (opens_of l.calls l.held) l.thread (use_seen l.used)));
  left : l.start + counted (drop l.i l.calls) ≡ length l.held;
}
