-- What words ask for, with what is left out filled in: an empty root, the driver that gives fresh handles, an empty path, no layers. A number is
-- never filled in. Source: this project.
use Rattle.std.specs.Prelude.{⊤, ◌≤◌, ◌^◌, ◌-◌, ◌==◌, ◌&&◌, ℕ, Bool, false, not, List, [], ◌∷◌, Option, Some, None}
use Rattle.std.specs.Prelude.{if◌then◌else◌, codes, length, nat_le, option_map, option_and_then}
use Rattle.std.specs.Char.{is_ascii_digit}
use Rattle.std.specs.List.{list_all}
use Rattle.std.specs.Str.{bytes_eq}
use Rattle.std.specs.Str.Parse.{digits_value}
use Rattle.model_driver.specs.declared.driver.Policy.{Policy}
use Rattle.model_driver.specs.declared.driver.Policy.TheVariants.{Fresh, Reuse, Share}
use Rattle.trace_gen.specs.declared.turns.TheConstants.{MOST_CALLS as MOST}
use Rattle.program_words.specs.Words.{GivenOptions, Word, understood, value_given, value_or_empty}

-- the settings of a replay: the folder that stands for the root of the file system, the driver's policy, and the executable's path
pub record RunAsked : Type 0 where
  pub root : Word
  pub policy : Policy
  pub exe : Word

-- the settings of a chain that is shown: the same root and path, and the layers that the application names, between commas
pub record ChainAsked : Type 0 where
  pub root : Word
  pub exe : Word
  pub layers : Word

-- the settings of a trace that is generated: the number that it is made from, and how many turns it has
pub record GenAsked : Type 0 where
  pub number : ℕ
  pub calls : ℕ

-- the settings of a replay of a generated trace
pub record SoakAsked : Type 0 where
  pub run : RunAsked
  pub made : GenAsked

-- what is asked for
pub data Asked : Type 0 where
  AsksRun : RunAsked → Asked
  AsksChain : ChainAsked → Asked
  AsksGen : GenAsked → Asked
  AsksSoak : SoakAsked → Asked

-- a trace that is asked for has no more turns than may be generated
abbrev pub HasFewTurns : Asked → Type 0
HasFewTurns (AsksRun a) = ⊤
HasFewTurns (AsksChain a) = ⊤
HasFewTurns (AsksGen a) = a.calls ≤ MOST
HasFewTurns (AsksSoak a) = a.made.calls ≤ MOST

-- the policy of a name
abbrev pub policy_named : Word → Option Policy
policy_named text = if bytes_eq text (codes "fresh") then Some Fresh
    else (if bytes_eq text (codes "reuse") then Some Reuse
    else (if bytes_eq text (codes "share") then Some Share
    else None))

-- the policy of the option's value, if it is given
abbrev pub policy_of : Option Word → Option Policy
policy_of None = Some Fresh
policy_of (Some text) = policy_named text

-- the settings of a replay, or none where the driver's name is no policy
abbrev pub run_of : GivenOptions → Option RunAsked
run_of given = option_map (λ policy. record {
  root = value_or_empty (codes "root") given;
  policy = policy;
  exe = value_or_empty (codes "exe") given;
}) (policy_of (value_given (codes "driver") given))

-- the settings of a chain that is shown
abbrev pub chain_asked_of : GivenOptions → ChainAsked
chain_asked_of given = record {
  root = value_or_empty (codes "root") given;
  exe = value_or_empty (codes "exe") given;
  layers = value_or_empty (codes "layers") given;
}

-- a first `0` (48) that other digits follow
abbrev pub has_leading_zero : Word → Bool
has_leading_zero [] = false
has_leading_zero (d ∷ []) = false
has_leading_zero (d ∷ more) = d == 48

-- each byte is a digit
abbrev pub is_digits : Word → Bool
is_digits word = list_all is_ascii_digit word

-- one digit or more, and nothing else, without a leading zero
abbrev pub is_numeral : Word → Bool
is_numeral word = not (length word == 0) && is_digits word && not (has_leading_zero word)

-- the number that a word spells, if it is at most `most`
abbrev pub number_up_to : ℕ → Word → Option ℕ
number_up_to most word = if is_numeral word && nat_le (digits_value 10 word) most then Some (digits_value 10 word) else None

-- the number that an option gives, if the option is given and its value is such a number
abbrev pub number_given : ℕ → Word → GivenOptions → Option ℕ
number_given most name given = option_and_then (number_up_to most) (value_given name given)

-- the greatest number that a trace is made from
abbrev pub most_number : ℕ
most_number = 2 ^ 64 - 1

-- the settings of a trace that is generated, or none where a number is missing or is none
abbrev pub gen_of : GivenOptions → Option GenAsked
gen_of given = option_and_then (λ number.
    option_map (λ calls. record { number = number; calls = calls }) (number_given MOST (codes "calls") given))
    (number_given most_number (codes "number") given)

-- the settings of a replay of a generated trace, or none where those of the replay or of the trace are none
abbrev pub soak_of : GivenOptions → Option SoakAsked
soak_of given = option_and_then (λ run.
    option_map (λ made. record { run = run; made = made }) (gen_of given))
    (run_of given)

-- what a command asks for with these options
abbrev pub asked_of : Word → GivenOptions → Option Asked
asked_of command given = if bytes_eq command (codes "run") then option_map AsksRun (run_of given)
    else (if bytes_eq command (codes "chain") then Some (AsksChain (chain_asked_of given))
    else (if bytes_eq command (codes "gen") then option_map AsksGen (gen_of given)
    else (if bytes_eq command (codes "soak") then option_map AsksSoak (soak_of given)
    else None)))

-- what a list of words asks for, or none where they aren't understood
abbrev pub words_ask : List Word → Option Asked
words_ask words = option_and_then (λ p. asked_of p.0 p.1) (understood words)
