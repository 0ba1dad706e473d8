-- By computation.
use Rattle.std.proofs.Common.{refl}
use Rattle.report_text.specs.Libraries.{library_text}
use Rattle.report_text.proofs.rows.manifests_of_a_library.Goals as goal

pub returns : goal.returns
unfolding library_text
returns c = refl
