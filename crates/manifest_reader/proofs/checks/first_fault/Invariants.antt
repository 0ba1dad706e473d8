use Rattle.std.proofs.Common.{◌≡◌, drop}
use Rattle.serde_json.specs.View.{view}
use Rattle.manifest_reader.specs.Faults.{first_fault}
use Rattle.manifest_reader.proofs.checks.first_fault.Given as goal

abbrev pub invariant-loop-row : goal.invariant-loop-row
invariant-loop-row l = first_fault l.manifest (view l.object) l.rows ≡ first_fault l.manifest (view l.object) (drop l.row-index l.rows)
