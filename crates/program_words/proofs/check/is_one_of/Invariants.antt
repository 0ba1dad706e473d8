use Rattle.std.specs.Prelude.{◌≡◌, drop}
use Rattle.program_words.specs.Words.{is_one_of}
use Rattle.program_words.specs.Content.{known_of}
use Rattle.program_words.proofs.check.is_one_of.Given as goal

abbrev pub invariant-loop-other : goal.invariant-loop-other
invariant-loop-other l = is_one_of l.fn.name (known_of (drop l.other-index l.fn.known)) ≡ is_one_of l.fn.name (known_of l.fn.known)
