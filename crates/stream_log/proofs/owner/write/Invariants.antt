use Rattle.std.proofs.Common.{length, ◌-◌, ◌≡◌, ◌≤◌, take}
use Rattle.stream_log.specs.LogRule.{written}
use Rattle.stream_log.proofs.owner.write.Given as goal

abbrev pub invariant-loop-i : goal.invariant-loop-i
invariant-loop-i l = (l.i ≤ length l.words) × (l.seat.table_id ≡ l.initial.seat.table_id) × (l.seat.id ≡ l.initial.seat.id) × (l.seat.me ≡ (written l.initial.seat.me.0 (take l.i l.words), l.initial.seat.me.1))

abbrev pub decreases-loop-i : goal.decreases-loop-i
decreases-loop-i l = length l.words - l.i
