use Rattle.std.proofs.Common.{◌∙◌, ◌++◌, ap, map, arith}
use Rattle.chain_build.proofs.Guarding.{placed_more}
use Rattle.chain_build.proofs.parts.placed_parts.Goals as goal

pub loop-layer-preserved : goal.loop-layer-preserved
loop-layer-preserved c = record {
  at = omega arith;
  parts = c.loop-layer.invariant.parts ∙ placed_more c.args.layers.now c.loop-layer.layer-index c.layer-item.result c.loop-layer.place c.loop-layer.placed.items _ c.loop-layer-test.true c.layer-item.is
      (c.in_ok-add_parts.ensures ∙ ap (λ parts. c.loop-layer.placed.items ++ map (λ part. (part, c.loop-layer.place)) parts) c.layer_parts.ensures);
}
