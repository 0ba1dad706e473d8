use Rattle.std.proofs.Common.{◌≡◌, map, drop}
use Rattle.layer_search.specs.Contents.{found_layer}
use Rattle.chain_build.specs.Parts.{are_guarded, parts_in}
use Rattle.chain_build.proofs.parts.are_guarded.Given as goal

abbrev pub invariant-loop-place : goal.invariant-loop-place
invariant-loop-place l = are_guarded l.parts (parts_in (map found_layer l.nearer)) ≡ are_guarded (drop l.place l.parts) (parts_in (map found_layer l.nearer))
