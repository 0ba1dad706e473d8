use Rattle.std.proofs.Common.{List, ◌++◌, map}
use Rattle.manifest_reader.specs.Contents.{layer_content}
use Rattle.layer_search.specs.Collecting.{Gathers}
use Rattle.layer_search.specs.Contents.{LayerFound, NoteContent}
use Rattle.layer_search.specs.Found.{layer_at}
use Rattle.layer_search.proofs.gathered.Gathered.add_entries.Given as goal

-- each layer so far
abbrev pub invariant-loop-entry : goal.invariant-loop-entry
invariant-loop-entry l = (met : List LayerFound) → (notes : List NoteContent) → Gathers l.initial.self met notes → Gathers l.self (met ++ map (layer_at l.path) (map layer_content l.yielded)) notes
