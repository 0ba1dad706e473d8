use Rattle.std.specs.Prelude.{map, take}
use Rattle.layer_search.specs.Contents.{note_content}
use Rattle.replay_base.specs.Changes.{changed}
use Rattle.report_text.specs.Notes.{note_text}
use Rattle.replay_tool.specs.Showing.{WroteAll}
use Rattle.replay_tool.proofs.chain.put_notes.Given as goal

-- the lines of the notes so far stand
abbrev pub invariant-loop-note : goal.invariant-loop-note
invariant-loop-note g l = WroteAll (map note_text (map note_content (take l.note-index l.fn.notes)))
    (changed (g.K.Sink.held l.initial.out) (g.K.Sink.held l.out) (g.K.Sink.faults l.initial.out) (g.K.Sink.faults l.out))
