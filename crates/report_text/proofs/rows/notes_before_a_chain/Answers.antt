-- By computation.
use Rattle.std.proofs.Common.{refl}
use Rattle.report_text.specs.Notes.{note_text, setup_notes}
use Rattle.report_text.proofs.rows.notes_before_a_chain.Goals as goal

pub returns : goal.returns
unfolding note_text setup_notes
returns c = refl
