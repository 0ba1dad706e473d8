use Rattle.std.proofs.Common.{◌≡◌, ◌++◌, map, take, string_bytes}
use Rattle.std.specs.List.{flat_map}
use Rattle.chain_build.specs.Answers.{note_of}
use Rattle.chain_build.specs.Chain.{missing_notes}
use Rattle.chain_build.specs.Setup.{setup_content}
use Rattle.chain_build.proofs.chains.add_all_missing.Given as goal

abbrev pub invariant-loop-name : goal.invariant-loop-name
invariant-loop-name l = map note_of l.notes.items ≡ map note_of l.initial.notes.items ++ flat_map (missing_notes (setup_content l.builder.setup.now)) (map string_bytes (take l.name-index l.names))
