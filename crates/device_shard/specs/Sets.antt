-- The shards of a set, by the devices of their plans. Source: this project.
use Rattle.std.specs.Prelude.{ℕ, Bool, nat_lt, Option, option_and_then, List, length, map, position, slice_get}
use Rattle.std.specs.List.{range_with_len}
use Rattle.atomic_table.specs.Seated.{TableId}
use Rattle.trace_format.specs.declared.event.Name.{Name}
use Rattle.trace_format.specs.Accepting.{same_name}
use Rattle.device_shard.specs.Shards.{ShardName}

-- the devices of these plans
abbrev pub devices_of : List ShardName → List Name
devices_of names = map (λ n. n.plan.device) names

-- the number of a device's plan, from 0: none where it has no plan
abbrev pub number_of : List ShardName → Name → Option ℕ
number_of names device = position (λ d. same_name d device) (devices_of names)

-- the logs of these plans
abbrev pub logs_of : List ShardName → List TableId
logs_of names = map (λ n. n.log) names

-- the log of a device's plan
abbrev pub log_of : List ShardName → Name → Option TableId
log_of names device = option_and_then (slice_get (logs_of names)) (number_of names device)

-- which of sixteen fields hold a lock: the first so many
abbrev pub held_of : List ShardName → List Bool
held_of names = map (λ k. nat_lt k (length names)) (range_with_len 0 16)
