-- By computation.
use Rattle.std.proofs.Common.{refl}
use Rattle.std.specs.Fmt.{digits}
use Rattle.report_text.specs.Chains.{chain_lines, answer_text}
use Rattle.report_text.specs.Libraries.{library_text}
use Rattle.report_text.proofs.rows.a_small_chain.Goals as goal

pub returns : goal.returns
unfolding digits library_text chain_lines answer_text
returns c = refl
