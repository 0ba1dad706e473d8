use Rattle.shard_room.proofs.Returned.{leaves_so, stays_so}
use Rattle.shard_room.proofs.a_return_has_room.Goals as goal

pub returns-clause-leaves : goal.returns-clause-leaves
returns-clause-leaves c = leaves_so

pub returns-clause-stays : goal.returns-clause-stays
returns-clause-stays c = stays_so c.a_walk_stays_light.ensures.up c.a_walk_bears_few.ensures.up
