use Rattle.walk_bounds.proofs.Fitting.{reserved, roomy}
use Rattle.walk_bounds.proofs.light_parts_are_roomy.Goals as goal

pub returns : goal.returns
returns c = record { roomy = roomy; reserved = reserved }
