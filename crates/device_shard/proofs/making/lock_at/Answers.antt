use Rattle.std.proofs.Common.{arith}
use Rattle.device_shard.proofs.Gathered.{is_next, is_past}
use Rattle.device_shard.proofs.making.lock_at.Goals as goal

pub shard_of-requires : goal.shard_of-requires
shard_of-requires g c =
    let next = is_next g.N.ShardNames.clock g.N.ShardNames.shards g.row.K c.args.shards.now.items c.pop.new.self.items c.in-Some.fresh c.in-Some.ensures.items c.requires in (omega arith, (next.name, next.at, next.shard))

pub returns-in-None-clause-rest : goal.returns-in-None-clause-rest
returns-in-None-clause-rest g c =
    (is_past g.N.ShardNames.clock g.N.ShardNames.shards g.row.K c.args.shards.now.items c.pop.new.self.items (omega (arith, c.in-None.ensures.cases.0, c.args.shards.now.ok.0)) (omega (arith, c.in-None.ensures.cases.1, c.pop.new.self.ok.0)) c.requires).rest

pub returns-in-None-clause-there : goal.returns-in-None-clause-there
returns-in-None-clause-there g c =
    (is_past g.N.ShardNames.clock g.N.ShardNames.shards g.row.K c.args.shards.now.items c.pop.new.self.items (omega (arith, c.in-None.ensures.cases.0, c.args.shards.now.ok.0)) (omega (arith, c.in-None.ensures.cases.1, c.pop.new.self.ok.0)) c.requires).there

pub returns-in-Some-clause-rest : goal.returns-in-Some-clause-rest
returns-in-Some-clause-rest g c = (is_next g.N.ShardNames.clock g.N.ShardNames.shards g.row.K c.args.shards.now.items c.pop.new.self.items c.in-Some.fresh c.in-Some.ensures.items c.requires).rest

pub returns-in-Some-clause-there : goal.returns-in-Some-clause-there
returns-in-Some-clause-there g c = (is_next g.N.ShardNames.clock g.N.ShardNames.shards g.row.K c.args.shards.now.items c.pop.new.self.items c.in-Some.fresh c.in-Some.ensures.items c.requires).there
