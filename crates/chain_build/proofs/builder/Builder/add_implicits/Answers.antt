use Rattle.std.proofs.Common.{◌≡◌, ◌∙◌, ◌++◌, ap, sym, take, append-nil, arith, map, filter, List}
use Rattle.std.proofs.lemmas.Grind.{common_steps}
use Rattle.std.specs.List.{flat_map}
use Rattle.layer_search.specs.Contents.{LayerFound, found_layer}
use Rattle.chain_build.specs.Chain.{kept_layers, implicit_as, takes_turn}
use Rattle.chain_build.specs.Expanding.{ListedLayer}
use Rattle.chain_build.specs.Holding.{listed_layer}
use Rattle.chain_build.specs.Setup.{setup_content}
use Rattle.chain_build.proofs.Gathering.{steps_more, implicit_join, one_taken, one_left}
use Rattle.chain_build.proofs.builder.Builder.add_implicits.Goals as goal
use Rattle.chain_build.proofs.builder.Builder.add_implicits.Goals.{then-takes_turn+in_ok-chain, else-takes_turn}

pub loop-layer-preserved : goal.loop-layer-preserved
loop-layer-preserved c = λ met h.
    let s = setup_content c.args.self.now.setup.now in
    let F : List LayerFound → List ListedLayer = λ xs. flat_map (implicit_as s) (filter (takes_turn s c.args.last) xs) in
    let before = met ++ F (map found_layer (take c.loop-layer.layer-index c.deref-layer-items.result.now)) in
    let item = found_layer c.layer-item.result in
    let more = ap (kept_layers s) (steps_more F (implicit_join s c.args.last) found_layer met c.deref-layer-items.result.now c.loop-layer.layer-index c.layer-item.result _ c.loop-layer-test.true c.layer-item.is) in
    elim c.if-takes_turn.branch [
      | then-takes_turn+in_ok-chain w ↦ ap (λ ch. map listed_layer ch.layers.items) w.chain-is ∙ (w.in_ok-chain.ensures _ (c.loop-layer.invariant met h)
          ∙ (ap (λ xs. kept_layers s (before ++ xs)) (one_taken (implicit_as s) (takes_turn s c.args.last) item c.takes_turn.result c.takes_turn.ensures w.if-takes_turn.true) ∙ more))
      | else-takes_turn w ↦ ap (λ ch. map listed_layer ch.layers.items) w.chain-is ∙ (c.loop-layer.invariant met h ∙ (ap (kept_layers s) (sym (append-nil before))
          ∙ (ap (λ xs. kept_layers s (before ++ xs)) (one_left (implicit_as s) (takes_turn s c.args.last) item c.takes_turn.result c.takes_turn.ensures w.if-takes_turn.false) ∙ more)))
    ]

pub returns : goal.returns
returns c = λ met h.
    let whole : take c.loop-layer.layer-index c.deref-layer-items.result.now ≡ c.deref-layer-items.result.now = grind (arith, common_steps) in
    rw (whole ∙ c.deref-layer-items.ensures.value) at (c.loop-layer.invariant met h)
