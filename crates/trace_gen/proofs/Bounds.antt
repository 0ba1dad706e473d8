-- How the limits stand to each other. A generated trace stays within those on traces only because these hold, so the constants' values count here and in no other
-- proof.
use Rattle.std.proofs.Common.{◌≤◌, ◌<◌, ◌+◌, ◌*◌, ◌^◌, lit≤, lit<}
use Rattle.replay_base.specs.declared.limit.TheConstants.{MOST_LINE_BYTES}
use Rattle.replay_model.specs.declared.TheConstants.{MOST_LINES}
use Rattle.trace_format.specs.declared.limits.TheConstants.{MAX_NAMES}
use Rattle.trace_format.specs.Grammar.{IsThread}
use Rattle.trace_gen.specs.declared.text.TheConstants.{LINE_ROOM}
use Rattle.trace_gen.specs.declared.turns.TheConstants.{MOST_CALLS}

-- all calls are of thread 1
pub first_thread : IsThread 1
first_thread = (lit≤ tt, lit≤ tt)

-- each turn makes one buffer at most, and the first of them has the name 4
pub names_suffice : MOST_CALLS + 4 ≤ MAX_NAMES
names_suffice = lit≤ tt

-- a turn makes two calls at most, one of them at the end; a call is two lines, and beside the turns' there are five calls and two lines
pub lines_suffice : 4 * MOST_CALLS + 12 ≤ MOST_LINES
lines_suffice = lit≤ tt

pub bytes_suffice : LINE_ROOM ≤ MOST_LINE_BYTES
bytes_suffice = lit≤ tt

-- a name's number has seven digits at most, by which the length of a line is known
pub seven_digits : MAX_NAMES < 10 ^ 7
seven_digits = lit< tt
