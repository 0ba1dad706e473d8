use Rattle.std.proofs.Common.{◌≡◌, drop}
use Rattle.env_filters.specs.Globs.{lowered, has_part}
use Rattle.env_filters.proofs.glob.holds.Given as goal

-- only places not yet tried are left
abbrev pub invariant-loop-at : goal.invariant-loop-at
invariant-loop-at l = has_part (lowered l.part) (lowered l.name) ≡ has_part (lowered l.part) (lowered (drop l.at l.name))
