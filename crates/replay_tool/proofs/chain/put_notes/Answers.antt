use Rattle.std.proofs.lemmas.Result.{err_from_is_err_and}
use Rattle.layer_search.specs.Contents.{note_content}
use Rattle.report_text.specs.Notes.{note_text}
use Rattle.replay_tool.proofs.Writing.{cut_line, next_line}
use Rattle.replay_tool.proofs.chain.put_notes.Goals as goal

pub returns-in_err-put_note : goal.returns-in_err-put_note
returns-in_err-put_note g c =
    let p = err_from_is_err_and c.from_residual.result c.from_residual.ensures.1 in
    rw (p.1, p.2) (cut_line note_text note_content c.args.notes.now c.loop-note.note-index c.note-item.result c.loop-note-test.true c.note-item.is
    _ _ _ _ _ _ _ c.loop-note.invariant c.in_err-put_note.ensures)

pub loop-note-preserved : goal.loop-note-preserved
loop-note-preserved g c =
    next_line note_text note_content c.args.notes.now c.loop-note.note-index c.note-item.result c.loop-note-test.true c.note-item.is
    _ _ _ _ _ _ c.loop-note.invariant c.in_ok-put_note.ensures.0
