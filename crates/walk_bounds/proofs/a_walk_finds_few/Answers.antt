use Rattle.walk_bounds.proofs.Finding.{finds_few}
use Rattle.walk_bounds.proofs.a_walk_finds_few.Goals as goal

pub returns : goal.returns
returns c = finds_few
