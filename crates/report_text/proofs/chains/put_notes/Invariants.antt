use Rattle.std.proofs.Common.{◌≡◌, ◌++◌, map, take}
use Rattle.std.specs.List.{flat_map}
use Rattle.chain_build.specs.Answers.{note_of}
use Rattle.report_text.specs.Chains.{chain_note_text}
use Rattle.report_text.proofs.chains.put_notes.Given as goal

abbrev pub invariant-loop-note : goal.invariant-loop-note
invariant-loop-note l = l.out.items ≡ l.fn.out.items ++ flat_map chain_note_text (map note_of (take l.note-index l.notes))
