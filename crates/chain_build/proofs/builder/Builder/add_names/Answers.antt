use Rattle.std.proofs.Common.{◌≡◌, ◌∙◌, ap, refl, take, arith, Bor, List, ℕ}
use Rattle.std.proofs.lemmas.Grind.{common_steps}
use Rattle.chain_build.specs.Chain.{kept_layers, layers_of}
use Rattle.chain_build.specs.Setup.{setup_content}
use Rattle.chain_build.proofs.Gathering.{steps_more, layers_join}
use Rattle.chain_build.proofs.builder.Builder.add_names.Goals as goal

pub loop-name-preserved : goal.loop-name-preserved
loop-name-preserved c = λ met h.
    let s = setup_content c.args.self.now.setup.now in
    c.in_ok-chain.ensures _ (c.loop-name.invariant met h) ∙ ap (kept_layers s) (steps_more (layers_of s) (layers_join s) (λ (t : Bor (List ℕ)). t.now) met c.args.names.now c.loop-name.name-index _ _ c.loop-name-test.true refl)

pub returns : goal.returns
returns c = λ met h.
    let whole : take c.loop-name.name-index c.args.names.now ≡ c.args.names.now = grind (arith, common_steps) in
    rw whole at (c.loop-name.invariant met h)
