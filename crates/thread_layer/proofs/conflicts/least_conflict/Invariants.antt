use Rattle.std.proofs.Common.{◌≡◌, map, drop}
use Rattle.std.specs.List.{flat_map}
use Rattle.object_model.specs.Uses.{conflicts_in, least}
use Rattle.thread_layer.specs.Kept.{lesser, opens_of, use_seen}
use Rattle.thread_layer.proofs.conflicts.least_conflict.Given as goal

abbrev pub invariant-loop-i : goal.invariant-loop-i
invariant-loop-i l = lesser l.least (least (flat_map (conflicts_in (opens_of l.calls l.held) l.thread) (map use_seen (drop l.i l.uses)))) ≡ least (flat_map (conflicts_in (opens_of l.calls l.held) l.thread) (map use_seen l.uses))
