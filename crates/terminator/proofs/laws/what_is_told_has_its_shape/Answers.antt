use Rattle.terminator.proofs.Staying.{told_shape}
use Rattle.terminator.proofs.laws.what_is_told_has_its_shape.Goals as goal

pub returns : goal.returns
returns c = told_shape
