use Rattle.std.proofs.Common.{◌∙◌, ap}
use Rattle.chain_build.specs.Chain.{is_off}
use Rattle.chain_build.specs.Expanding.{name_of}
use Rattle.chain_build.specs.Setup.{setup_content}
use Rattle.layer_search.specs.Order.{firsts}
use Rattle.chain_build.proofs.Gathering.{filter_one}
use Rattle.chain_build.proofs.builder.Builder.add.Goals as goal

pub returns : goal.returns
returns c = λ met h. c.in_ok-new.ensures _ h ∙ ap (firsts name_of) (filter_one (is_off (setup_content c.args.self.now.setup.now)) met _ c.is_off.result c.is_off.ensures c.if-is_off.false)
