use Rattle.std.proofs.Common.{◌≡◌, ◌∙◌, ◌++◌, ap, sym, take, append-nil, arith, string_bytes, map}
use Rattle.std.proofs.lemmas.Grind.{common_steps}
use Rattle.std.specs.List.{flat_map}
use Rattle.chain_build.specs.Chain.{kept_layers, named_layers}
use Rattle.chain_build.specs.Setup.{setup_content}
use Rattle.chain_build.proofs.Gathering.{steps_more, named_join}
use Rattle.chain_build.proofs.builder.Builder.add_all.Goals as goal

pub loop-name-preserved : goal.loop-name-preserved
loop-name-preserved c = λ met h.
    let s = setup_content c.args.self.now.setup.now in
    c.in_ok-chain.ensures _ (c.loop-name.invariant met h)
    ∙ (ap (λ xs. kept_layers s ((met ++ flat_map (named_layers s) (map string_bytes (take c.loop-name.name-index c.args.names.now))) ++ xs)) (ap (named_layers s) c.as_str.ensures.value ∙ sym (append-nil (named_layers s (string_bytes c.name-item.result))))
    ∙ ap (kept_layers s) (steps_more (flat_map (named_layers s)) (named_join s) string_bytes met c.args.names.now c.loop-name.name-index c.name-item.result _ c.loop-name-test.true c.name-item.is))

pub returns : goal.returns
returns c = λ met h.
    let whole : take c.loop-name.name-index c.args.names.now ≡ c.args.names.now = grind (arith, common_steps) in
    rw whole at (c.loop-name.invariant met h)
