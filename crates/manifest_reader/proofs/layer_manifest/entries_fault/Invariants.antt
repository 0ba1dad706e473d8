use Rattle.std.proofs.Common.{◌≡◌, map, drop}
use Rattle.serde_json.specs.View.{view}
use Rattle.manifest_reader.specs.Reading.{entries_fault}
use Rattle.manifest_reader.proofs.layer_manifest.entries_fault.Given as goal

abbrev pub invariant-loop-entry : goal.invariant-loop-entry
invariant-loop-entry l = entries_fault l.kind (map view l.entries) ≡ entries_fault l.kind (map view (drop l.entry-index l.entries))
