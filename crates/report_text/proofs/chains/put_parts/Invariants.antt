use Rattle.std.proofs.Common.{◌≡◌, ◌++◌, map, take}
use Rattle.layer_search.specs.Contents.{found_layer}
use Rattle.report_text.specs.Chains.{numbered, part_line}
use Rattle.report_text.proofs.chains.put_parts.Given as goal

abbrev pub invariant-loop-index : goal.invariant-loop-index
invariant-loop-index l = l.out.items ≡ l.fn.out.items ++ numbered (part_line (map found_layer l.layers)) (take l.index l.parts)
