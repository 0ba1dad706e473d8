use Rattle.std.proofs.Common.{◌∙◌}
use Rattle.chain_build.proofs.Guarding.{unique_below}
use Rattle.chain_build.proofs.parts.is_unique_below.Goals as goal

pub returns : goal.returns
returns c = c.one_wraps.ensures ∙ unique_below c.args.layers.now
