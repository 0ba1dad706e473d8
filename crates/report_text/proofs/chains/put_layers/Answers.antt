use Rattle.layer_search.specs.Contents.{found_layer}
use Rattle.report_text.specs.Chains.{layer_line}
use Rattle.report_text.proofs.Numbers.{one_more, all_lines}
use Rattle.report_text.proofs.chains.put_layers.Goals as goal

pub loop-index-preserved : goal.loop-index-preserved
loop-index-preserved c =
    one_more (λ n layer. layer_line n (found_layer layer)) c.args.layers.now c.loop-index.index _ c.index-layers-index.result c.args.out.now.items c.loop-index.out.items _
    c.loop-index-test.true c.index-layers-index.is c.loop-index.invariant c.in_ok-put_layer.ensures

pub returns : goal.returns
returns c = all_lines layer_line found_layer c.args.layers.now c.loop-index.index c.args.out.now.items _ c.loop-index-test.false c.loop-index.invariant
