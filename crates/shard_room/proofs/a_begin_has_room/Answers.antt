use Rattle.shard_room.proofs.Begun.{as_many, enters_so, stays_so}
use Rattle.shard_room.proofs.Keeping.{thread_stays}
use Rattle.shard_room.proofs.a_begin_has_room.Goals as goal

pub returns-clause-enters : goal.returns-clause-enters
returns-clause-enters c = enters_so c.a_walk_finds_few.ensures c.a_walk_stays_light.ensures.down c.light_parts_are_roomy.ensures.roomy

pub returns-clause-stays : goal.returns-clause-stays
returns-clause-stays c = stays_so c.a_walk_stays_light.ensures.down c.a_walk_bears_few.ensures.down

pub returns-clause-thread : goal.returns-clause-thread
returns-clause-thread c = thread_stays

pub returns-clause-parts : goal.returns-clause-parts
returns-clause-parts c = as_many
