use Rattle.terminator.specs.Shown.{key_of}
use Rattle.terminator.proofs.Known.{known_where}
use Rattle.terminator.proofs.issued.IssuedIds.kept_for.Goals as goal

pub returns-in-Some-clause-known : goal.returns-in-Some-clause-known
returns-in-Some-clause-known c = rw c.in-Some.is (rw (← c.self.view_is) (known_where c.self.inside.table.entries c.self.inside.kept.ids (key_of c.in-Some.key) c.get.result c.self.invariant c.get.ensures))
