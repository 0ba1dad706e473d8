-- By computation.
use Rattle.std.proofs.Common.{refl}
use Rattle.manifest_reader.specs.Keys.{spelled}
use Rattle.report_text.specs.Notes.{note_text}
use Rattle.report_text.proofs.rows.a_note_names_its_key.Goals as goal

pub returns : goal.returns
unfolding note_text spelled
returns c = refl
