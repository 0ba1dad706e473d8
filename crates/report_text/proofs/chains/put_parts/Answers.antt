use Rattle.std.proofs.Common.{map, refl}
use Rattle.layer_search.specs.Contents.{found_layer}
use Rattle.object_model.specs.declared.PartKind.TheVariants.{Threads}
use Rattle.report_text.specs.Chains.{part_line}
use Rattle.report_text.proofs.Numbers.{one_more}
use Rattle.report_text.proofs.chains.put_parts.Goals as goal

pub loop-index-preserved : goal.loop-index-preserved
loop-index-preserved c =
    one_more (part_line (map found_layer c.args.layers.now)) c.args.parts.now c.loop-index.index (Threads, 0) _ c.args.out.now.items c.loop-index.out.items _
    c.loop-index-test.true refl c.loop-index.invariant c.in_ok-put_part.ensures
