use Rattle.std.proofs.Common.{◌≡◌, ◌+◌, drop, map}
use Rattle.command_tables.specs.Table.{seen_param}
use Rattle.walk_bounds.specs.Bounds.{implied_most, weigh}
use Rattle.device_shard.specs.Rooms.{names_of}
use Rattle.device_shard.proofs.measure.uses_in.Given as goal

abbrev pub invariant-loop-place : goal.invariant-loop-place
invariant-loop-place l =
    l.uses + weigh (λ p. 1 + implied_most l.born p.implied) (drop l.place (map seen_param l.params)) (drop l.place (names_of l.args)) ≡ weigh (λ p. 1 + implied_most l.born p.implied) (map seen_param l.params) (names_of l.args)
