use Rattle.std.proofs.Common.{◌≡◌, ◌++◌, take}
use Rattle.layer_search.specs.Contents.{found_layer}
use Rattle.report_text.specs.Chains.{numbered, layer_line}
use Rattle.report_text.proofs.chains.put_layers.Given as goal

abbrev pub invariant-loop-index : goal.invariant-loop-index
invariant-loop-index l = l.out.items ≡ l.fn.out.items ++ numbered (λ n layer. layer_line n (found_layer layer)) (take l.index l.layers)
