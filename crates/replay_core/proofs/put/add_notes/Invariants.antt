use Rattle.std.proofs.Common.{◌≡◌, ◌++◌, map, take}
use Rattle.layer_search.specs.Contents.{note_content}
use Rattle.report_text.specs.Notes.{notes_text}
use Rattle.replay_core.proofs.put.add_notes.Given as goal

abbrev pub invariant-loop-note : goal.invariant-loop-note
invariant-loop-note l = l.text.items ≡ l.fn.text.items ++ notes_text (map note_content (take l.note-index l.notes))
