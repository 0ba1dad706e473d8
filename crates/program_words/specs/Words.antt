-- Which lists of words are understood, and what they give. The code also goes through clap, which shows nowhere in these definitions but
-- that a word is split at its first `=` as clap splits it. Source: this project.
use Rattle.std.specs.Prelude.{ℕ, Bool, false, not, ◌==◌, ◌&&◌, List, [], ◌∷◌, ◌++◌, length, Option, Some, None}
use Rattle.std.specs.Prelude.{if◌then◌else◌, find, codes, option_map, option_and_then, unwrap_or}
use Rattle.std.specs.List.{list_any}
use Rattle.std.specs.Str.{bytes_eq}
use Rattle.clap.specs.Lexer.{long_of}

-- a word, or a piece of one
abbrev pub Word : Type 0
Word = List ℕ

-- the options that were read so far, as names with their values
abbrev pub GivenOptions : Type 0
GivenOptions = List (Word × Word)

-- the name is one of these
abbrev pub is_one_of : Word → List Word → Bool
is_one_of name known = list_any (λ k. bytes_eq k name) known

-- the option was read before
abbrev pub is_given : Word → GivenOptions → Bool
is_given name given = list_any (λ p. bytes_eq p.0 name) given

-- the command has the option, and it stands for the first time
abbrev pub may_stand : List Word → GivenOptions → Word → Bool
may_stand known given name = is_one_of name known && not (is_given name given)

-- a word of its own is a value where it isn't empty and doesn't begin with `-` (45)
abbrev pub is_value : Word → Bool
is_value [] = false
is_value (b ∷ bs) = not (b == 45)

-- an empty value after `=`
abbrev pub is_empty_value : Option Word → Bool
is_empty_value None = false
is_empty_value (Some text) = length text == 0

-- the option that a word names, where it may stand, with its value if the word has one: `--name` or `--name=value`
abbrev pub option_named : List Word → GivenOptions → Word → Option (Word × Option Word)
option_named known given word = option_and_then (λ p. if may_stand known given p.0 && not (is_empty_value p.1) then Some p else None) (long_of word)

-- the option that a word gives, where a name may wait for its value
abbrev pub next_option : List Word → GivenOptions → Option Word → Word → Option (Word × Option Word)
next_option known given None word = option_named known given word
next_option known given (Some name) word = if is_value word then Some (name, Some word) else None

-- an option with its value is given
abbrev pub with_option : GivenOptions → Word × Option Word → GivenOptions
with_option given (name, None) = given
with_option given (name, Some value) = given ++ (name, value) ∷ []

-- an option without its value waits for it
abbrev pub awaited : Word × Option Word → Option Word
awaited (name, None) = Some name
awaited (name, Some value) = None

-- the options of a list of words, after those that are given, where a name may wait for its value
unfoldable pub options_from : List Word → GivenOptions → Option Word → List Word → Option GivenOptions
options_from known given waiting (word ∷ rest) =
    option_and_then (λ p. options_from known (with_option given p) (awaited p) rest) (next_option known given waiting word)
options_from known given None [] = Some given
options_from known given (Some name) [] = None

-- the commands and their options
abbrev pub commands : List (Word × List Word)
commands = (codes "run", codes "root" ∷ codes "driver" ∷ codes "exe" ∷ [])
    ∷ (codes "chain", codes "root" ∷ codes "exe" ∷ codes "layers" ∷ [])
    ∷ (codes "gen", codes "number" ∷ codes "calls" ∷ [])
    ∷ (codes "soak", codes "root" ∷ codes "driver" ∷ codes "exe" ∷ codes "number" ∷ codes "calls" ∷ [])
    ∷ []

-- the options of a command
abbrev pub options_of : Word → Option (List Word)
options_of command = option_map (λ p. p.1) (find (λ p. bytes_eq p.0 command) commands)

-- the first word is the command and the others are its options, or the words aren't understood
abbrev pub understood : List Word → Option (Word × GivenOptions)
understood [] = None
understood (command ∷ rest) = option_and_then (λ known.
    option_map (λ given. (command, given)) (options_from known [] None rest)) (options_of command)

-- the value of an option
abbrev pub value_given : Word → GivenOptions → Option Word
value_given name given = option_map (λ p. p.1) (find (λ p. bytes_eq p.0 name) given)

-- the value of an option, empty where it isn't given
abbrev pub value_or_empty : Word → GivenOptions → Word
value_or_empty name given = unwrap_or (value_given name given) []
