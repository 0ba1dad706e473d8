-- What lies behind a lock at first, and what a set is made of. Source: this project.
use Rattle.std.specs.Prelude.{◌≡◌, List, vec_capacity}
use Rattle.std.specs.List.{AllZip}
use Rattle.atomic_table.specs.Seated.{TableId}
use Rattle.device_shard.specs.declared.fresh.Fresh.{Fresh}
use Rattle.device_shard.specs.declared.gathering.SetParts.{SetParts}
use Rattle.device_shard.specs.Making.{tokens_given}
use Rattle.device_shard.specs.Sets.{devices_of, logs_of}
use Rattle.device_shard.specs.Shards.{IsShard, ShardKept, ShardName}

-- what is kept behind the lock of the shard with a name
abbrev pub fresh_kept : ShardName → Fresh → ShardKept
fresh_kept n f = record { owner = f.owner; tick = f.tick; parts = f.parts; lanes = f.lanes.items; calls = f.calls; results = vec_capacity f.results; plan = n.plan }

-- it is that of the shard with a name
abbrev pub IsFresh : TableId → ShardName → Fresh → Type 0
IsFresh counts n f = IsShard n counts (fresh_kept n f)

-- so it is for each name, in order
abbrev pub AreFresh : TableId → List ShardName → List Fresh → Type 0
AreFresh counts names fresh = AllZip (IsFresh counts) names fresh

-- of the plans with these names: the devices, the logs, the tokens, and what lies behind the locks
pub record IsGathered (counts : TableId) (names : List ShardName) (b : SetParts) : Type 0 where
  pub devices : b.devices.items ≡ devices_of names
  pub logs : b.logs.items ≡ logs_of names
  pub tokens : b.tokens.items ≡ tokens_given names
  pub shards : AreFresh counts names b.shards.items
