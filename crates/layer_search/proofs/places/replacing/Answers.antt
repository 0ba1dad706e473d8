use Rattle.layer_search.specs.Places.{replacing}
use Rattle.layer_search.proofs.Options.{read_or_else}
use Rattle.layer_search.proofs.places.replacing.Goals as goal

pub returns-in-Driver : goal.returns-in-Driver
unfolding replacing
returns-in-Driver c = rw c.in-Driver.is (read_or_else _ _ _ _ _ _ c.or.ensures c.set_value.ensures c.set_value-in-Driver.ensures)
