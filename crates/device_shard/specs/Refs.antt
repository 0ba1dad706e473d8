-- The numbers of the locks of a set. Source: this project.
use Rattle.std.specs.Prelude.{ℕ}
use Rattle.device_shard.specs.declared.shard_ref.ShardRef.{ShardRef}
use Rattle.device_shard.specs.declared.shard_ref.ShardRef.TheVariants.{P0, P1, P2, P3, P4, P5, P6, P7, P8, P9, P10, P11, P12, P13, P14, P15}

-- the number of a lock's plan
abbrev pub number_at : {N : Type 0} → ShardRef N → ℕ
number_at (P0 lock) = 0
number_at (P1 lock) = 1
number_at (P2 lock) = 2
number_at (P3 lock) = 3
number_at (P4 lock) = 4
number_at (P5 lock) = 5
number_at (P6 lock) = 6
number_at (P7 lock) = 7
number_at (P8 lock) = 8
number_at (P9 lock) = 9
number_at (P10 lock) = 10
number_at (P11 lock) = 11
number_at (P12 lock) = 12
number_at (P13 lock) = 13
number_at (P14 lock) = 14
number_at (P15 lock) = 15
