use Rattle.std.proofs.Common.{◌≡◌, map, take, string_bytes}
use Rattle.serde_json.specs.View.{view}
use Rattle.manifest_reader.specs.Reading.{text_of}
use Rattle.manifest_reader.proofs.layer_manifest.copy_texts.Given as goal

abbrev pub invariant-loop-value : goal.invariant-loop-value
invariant-loop-value l = map string_bytes l.texts.items ≡ map text_of (map view (take l.value-index l.values))
