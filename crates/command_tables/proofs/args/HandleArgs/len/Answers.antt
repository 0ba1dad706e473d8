use Rattle.std.proofs.Common.{ap}
use Rattle.command_tables.specs.Handles.{Handles}
use Rattle.command_tables.proofs.Cut.{marks_seen}
use Rattle.command_tables.proofs.args.HandleArgs.len.Goals as goal

pub returns-clause-marks : goal.returns-clause-marks
returns-clause-marks g c = marks_seen _ _ _ _ _ _ c.self.invariant (ap (λ (h : Handles). h.lists) c.self.view_is) (ap (λ (h : Handles). h.marks) c.self.view_is)
