use Rattle.unique_layer.specs.Shown.{key_of}
use Rattle.unique_layer.proofs.Keeping.{found_issued}
use Rattle.unique_layer.proofs.state.UniqueState.kept_for.Goals as goal

pub returns-in-Some-clause-issued : goal.returns-in-Some-clause-issued
returns-in-Some-clause-issued c = rw (c.in-Some.is, c.get.ensures, ← c.self.view_is) (found_issued c.self.inside.ids.entries c.self.inside.kept.ids (key_of c.in-Some.key) c.self.invariant)
