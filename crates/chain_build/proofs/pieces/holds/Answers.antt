use Rattle.std.proofs.Common.{◌∙◌, sym}
use Rattle.std.specs.Str.{bytes_eq}
use Rattle.chain_build.proofs.Gathering.{any_of_texts}
use Rattle.chain_build.proofs.pieces.holds.Goals as goal

pub returns : goal.returns
returns c = c.is_one.ensures ∙ sym (any_of_texts (λ t. bytes_eq t c.args.text.now) c.args.texts.now)
