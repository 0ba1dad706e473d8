use Rattle.shard_model.proofs.Replayed.{may_return, returns_so}
use Rattle.shard_model.proofs.a_return_goes_on.Goals as goal

pub returns-clause-may : goal.returns-clause-may
returns-clause-may c = may_return c.parts_follow_a_trace.ensures.may_leave

pub returns-clause-replays : goal.returns-clause-replays
returns-clause-replays c = returns_so c.parts_follow_a_trace.ensures.leaves
