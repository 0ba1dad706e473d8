-- By computation.
use Rattle.std.proofs.Common.{refl}
use Rattle.std.specs.Fmt.{digits}
use Rattle.report_text.specs.Chains.{answer_text}
use Rattle.report_text.proofs.rows.no_chain.Goals as goal

pub returns : goal.returns
unfolding digits answer_text
returns c = refl
