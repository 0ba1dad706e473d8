use Rattle.std.proofs.Common.{◌≡◌, ◌∙◌, ◌++◌, ap, sym, take, append-nil, arith, map}
use Rattle.std.proofs.lemmas.Grind.{common_steps}
use Rattle.std.proofs.lemmas.List.Concat.{flat_map-append}
use Rattle.std.specs.List.{flat_map}
use Rattle.layer_search.specs.Contents.{found_layer}
use Rattle.chain_build.specs.Chain.{kept_layers, enabled_layers}
use Rattle.chain_build.specs.Setup.{setup_content}
use Rattle.chain_build.proofs.Gathering.{steps_more}
use Rattle.chain_build.proofs.builder.Builder.add_all_enabled.Goals as goal

pub loop-layer-preserved : goal.loop-layer-preserved
loop-layer-preserved c = λ met h.
    let s = setup_content c.args.self.now.setup.now in
    c.in_ok-chain.ensures _ (c.loop-layer.invariant met h)
    ∙ (ap (λ xs. kept_layers s ((met ++ flat_map (enabled_layers s) (map found_layer (take c.loop-layer.layer-index c.deref-layer-items.result.now))) ++ xs)) (sym (append-nil (enabled_layers s (found_layer c.layer-item.result))))
    ∙ ap (kept_layers s) (steps_more (flat_map (enabled_layers s)) (flat_map-append (enabled_layers s)) found_layer met c.deref-layer-items.result.now c.loop-layer.layer-index c.layer-item.result _ c.loop-layer-test.true c.layer-item.is))

pub returns : goal.returns
returns c = λ met h.
    let whole : take c.loop-layer.layer-index c.deref-layer-items.result.now ≡ c.deref-layer-items.result.now = grind (arith, common_steps) in
    rw (whole ∙ c.deref-layer-items.ensures.value) at (c.loop-layer.invariant met h)
