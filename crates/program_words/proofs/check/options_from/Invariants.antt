use Rattle.std.specs.Prelude.{◌≡◌, [], None, drop}
use Rattle.program_words.specs.Words.{options_from}
use Rattle.program_words.specs.Content.{given_pairs, known_of, word_if_any, words_of}
use Rattle.program_words.proofs.check.options_from.Given as goal

abbrev pub invariant-loop-word : goal.invariant-loop-word
invariant-loop-word l = options_from (known_of l.fn.known) (given_pairs l.given.items) (word_if_any l.waiting) (words_of (drop l.word-index l.fn.words))
    ≡ options_from (known_of l.fn.known) [] None (words_of l.fn.words)
