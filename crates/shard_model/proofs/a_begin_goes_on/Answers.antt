use Rattle.shard_model.proofs.Replayed.{begins_so, may_begin, tells_so}
use Rattle.shard_model.proofs.a_begin_goes_on.Goals as goal

pub returns-clause-may : goal.returns-clause-may
returns-clause-may c = may_begin c.parts_follow_a_trace.ensures.may_enter

pub returns-clause-replays : goal.returns-clause-replays
returns-clause-replays c = begins_so c.parts_follow_a_trace.ensures.enters

pub returns-clause-tells : goal.returns-clause-tells
returns-clause-tells c = tells_so c.parts_follow_a_trace.ensures.enters
