use Rattle.std.proofs.Common.{◌≡◌, ◌≤◌, map, filter, take, count_by}
use Rattle.serde_json.specs.View.{view}
use Rattle.manifest_reader.specs.Contents.{layer_content}
use Rattle.manifest_reader.specs.Faults.{is_device}
use Rattle.manifest_reader.specs.Reading.{layer_at, is_instance}
use Rattle.manifest_reader.proofs.layer_manifest.layers_at.Given as goal

abbrev pub invariant-loop-entry : goal.invariant-loop-entry
invariant-loop-entry l = record {
  copied : map layer_content l.layers.items ≡ map (layer_at l.kind) (filter is_instance (map view (take l.entry-index l.entries)));
  counted : l.device_type ≡ count_by is_device (map view (take l.entry-index l.entries));
  few : l.device_type ≤ l.entry-index;
}
