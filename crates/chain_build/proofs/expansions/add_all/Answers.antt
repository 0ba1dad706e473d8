use Rattle.std.proofs.Common.{◌≡◌, ◌∙◌, ap, refl, map, take, arith}
use Rattle.std.proofs.lemmas.Grind.{common_steps}
use Rattle.layer_search.specs.Contents.{found_layer}
use Rattle.layer_search.specs.Order.{firsts}
use Rattle.chain_build.specs.Expanding.{listed, name_of}
use Rattle.chain_build.proofs.Names.{met_more}
use Rattle.chain_build.proofs.expansions.add_all.Goals as goal

pub loop-layer-preserved : goal.loop-layer-preserved
loop-layer-preserved c = λ met h.
    c.in_ok-known.ensures _ (c.loop-layer.invariant met h)
    ∙ ap (firsts name_of) (met_more (listed c.args.kind) found_layer met c.args.layers.now c.loop-layer.layer-index c.layer-item.result _ c.loop-layer-test.true c.layer-item.is refl)

pub returns : goal.returns
returns c = λ met h.
    let whole : take c.loop-layer.layer-index c.args.layers.now ≡ c.args.layers.now = grind (arith, common_steps) in
    rw whole at (c.loop-layer.invariant met h)
