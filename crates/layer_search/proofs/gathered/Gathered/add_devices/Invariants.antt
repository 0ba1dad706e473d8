use Rattle.std.proofs.Common.{List, ◌++◌, replicate}
use Rattle.layer_search.specs.Collecting.{Gathers}
use Rattle.layer_search.specs.Contents.{LayerFound, NoteContent}
use Rattle.layer_search.specs.declared.found.NoteKind.TheVariants.{DeviceType}
use Rattle.layer_search.proofs.gathered.Gathered.add_devices.Given as goal

-- one note for each entry so far
abbrev pub invariant-loop-device : goal.invariant-loop-device
invariant-loop-device l = (met : List LayerFound) → (notes : List NoteContent) → Gathers l.initial.self met notes → Gathers l.self met (notes ++ replicate l._device (record { kind = DeviceType; path = l.path }))
