use Rattle.walk_bounds.proofs.Bearing.{bears_none, bears_results}
use Rattle.walk_bounds.proofs.a_walk_bears_few.Goals as goal

pub returns : goal.returns
returns c = record { down = bears_none; up = bears_results }
