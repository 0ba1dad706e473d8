-- The lists behind the references of the code's types. Source: this project.
use Rattle.std.specs.Prelude.{List, map, Option, option_map, String, string_bytes}
use Rattle.std.specs.Borrow.{Bor}
use Rattle.std.specs.declared.alloc.Global.{Global}
use Rattle.program_words.specs.Words.{GivenOptions, Word}

-- the words of a command line
abbrev pub words_of : List (String Global) → List Word
words_of = map string_bytes

-- names that are known
abbrev pub known_of : List (Bor Word) → List Word
known_of = map (λ s. s.now)

-- options with their values
abbrev pub given_pairs : List (Bor Word × Bor Word) → GivenOptions
given_pairs = map (λ p. (p.0.now, p.1.now))

-- a word that may be missing
abbrev pub word_if_any : Option (Bor Word) → Option Word
word_if_any = option_map (λ s. s.now)
