use Rattle.std.proofs.Common.{◌∙◌, [], ap}
use Rattle.chain_build.specs.Chain.{kept_layers}
use Rattle.chain_build.specs.Setup.{setup_content}
use Rattle.chain_build.proofs.Gathering.{all_pieces}
use Rattle.chain_build.proofs.chains.gather.Goals as goal

pub returns : goal.returns
returns c =
    let s = setup_content c.args.builder.now.setup.now in
    c.in_ok-all.ensures _ (c.in_ok-enabled.ensures _ (c.in_ok-named.ensures _ (c.in_ok-implicit.ensures _ (c.in_ok-first.ensures [] c.new-none.ensures))))
    ∙ ap (kept_layers s) (all_pieces s _ _ c.requires.asked)
