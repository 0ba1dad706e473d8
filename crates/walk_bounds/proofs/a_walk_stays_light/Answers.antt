use Rattle.walk_bounds.proofs.Bearing.{light_up, stays_light}
use Rattle.walk_bounds.proofs.a_walk_stays_light.Goals as goal

pub returns : goal.returns
returns c = record { down = stays_light; up = light_up }
