use Rattle.std.proofs.Common.{take}
use Rattle.session_parts.specs.Scratch.{AreWithin}
use Rattle.device_shard.specs.Rooms.{names_of}
use Rattle.device_shard.proofs.measure.widest.Given as goal

abbrev pub invariant-loop-arg : goal.invariant-loop-arg
invariant-loop-arg l = AreWithin l.wide (names_of (take l.arg-index l.args))
