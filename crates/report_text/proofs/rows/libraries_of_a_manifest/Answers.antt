-- By computation.
use Rattle.std.proofs.Common.{refl}
use Rattle.report_text.specs.Libraries.{library_text}
use Rattle.report_text.proofs.rows.libraries_of_a_manifest.Goals as goal

pub returns : goal.returns
unfolding library_text
returns c = refl
