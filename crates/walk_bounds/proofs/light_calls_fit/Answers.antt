use Rattle.walk_bounds.proofs.Light.{light_fits}
use Rattle.walk_bounds.proofs.light_calls_fit.Goals as goal

pub returns : goal.returns
returns c = light_fits
