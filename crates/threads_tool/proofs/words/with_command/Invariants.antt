use Rattle.std.proofs.Common.{◌≡◌, ◌∷◌, take}
use Rattle.std.specs.Prelude.{codes}
use Rattle.program_words.specs.Content.{words_of}
use Rattle.threads_tool.proofs.words.with_command.Given as goal

-- the command, and the words so far
abbrev pub invariant-loop-word : goal.invariant-loop-word
invariant-loop-word l = words_of l.all.items ≡ codes "run" ∷ words_of (take l.word-index l.words)
