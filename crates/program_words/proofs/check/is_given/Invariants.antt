use Rattle.std.specs.Prelude.{◌≡◌, drop}
use Rattle.program_words.specs.Words.{is_given}
use Rattle.program_words.specs.Content.{given_pairs}
use Rattle.program_words.proofs.check.is_given.Given as goal

abbrev pub invariant-loop-option : goal.invariant-loop-option
invariant-loop-option l = is_given l.fn.name (given_pairs (drop l.option-index l.fn.given)) ≡ is_given l.fn.name (given_pairs l.fn.given)
