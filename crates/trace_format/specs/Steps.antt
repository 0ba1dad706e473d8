-- Parts of the reading of a line that the parser's own functions speak of. Source: this project.
use Rattle.std.specs.Prelude.{ℕ, ◌≡◌, ⊤, Option, Some, None, Result, Ok, Err, List, [], ◌∷◌, length, drop, codes, unwrap_or, option_map}
use Rattle.std.specs.Option.{ok_or}
use Rattle.command_tables.specs.declared.types.CommandId.{CommandId}
use Rattle.command_tables.specs.declared.types.Effect.{Effect}
use Rattle.command_tables.specs.Table.{ParamSpec, row_of}
use Rattle.trace_format.specs.declared.event.Name.{Name}
use Rattle.trace_format.specs.declared.parse.error.ParseError.{ParseError}
use Rattle.trace_format.specs.declared.parse.error.ParseError.TheVariants as error
use Rattle.trace_format.specs.declared.fault.TraceFault.{TraceFault}
use Rattle.trace_format.specs.declared.fault.TraceFault.TheVariants as fault
use Rattle.trace_format.specs.Content.{Arg, TraceEvent, Begin}
use Rattle.trace_format.specs.Grammar.{takes}
use Rattle.trace_format.specs.Words.{after, all_of, and_then, from, name_of, only_if, pieces, until}
use Rattle.trace_format.specs.Reading.{◌>>=◌, code_at, payload_at}

-- the answer is the reading, unless there was no memory
abbrev pub Answers : {A B : Type 0} → (A → B) → Result A ParseError → Result B TraceFault → Type 0
Answers seen (Ok x) reading = reading ≡ Ok (seen x)
Answers seen (Err (error.Fault f)) reading = reading ≡ Err f
Answers seen (Err error.NoMemory) reading = ⊤

-- the pieces that follow a piece: none where no comma follows it
abbrev pub pieces_after : Option (List ℕ) → List (List ℕ)
pieces_after None = []
pieces_after (Some bytes) = pieces bytes

-- the words of these parameters where they stand, each after one byte
abbrev pub words_in : List ParamSpec → List ℕ → List (List ℕ)
words_in [] bytes = []
words_in (p ∷ ps) bytes = until 32 (drop 1 bytes) ∷ words_in ps (from 32 (drop 1 bytes))

-- the word of results, where ` = ` stands before it
abbrev pub results_word : List ℕ → Option (List ℕ)
results_word bytes = option_map (until 32) (after (codes " = ") bytes)

-- what follows the results
abbrev pub after_results : List ℕ → List ℕ
after_results bytes = unwrap_or (option_map (from 32) (after (codes " = ") bytes)) bytes

-- the names of a word of results, or none where there is no word
abbrev pub names_of_word : Option (List ℕ) → Option (List Name)
names_of_word None = Some []
names_of_word (Some word) = all_of name_of (pieces word)

-- the results that a command with this effect has
abbrev pub results_of : Effect → Option (List ℕ) → Option (List Name)
results_of effect word = and_then (names_of_word word) (λ names. only_if (takes effect (length names)) names)

-- what a begin is read as, once its words are arguments
abbrev pub end_with : ℕ → CommandId → List Arg → List ℕ → Result TraceEvent TraceFault
end_with thread cmd args bytes = do
  results ← ok_or (results_of (row_of cmd).effect (results_word bytes)) fault.Results
  code ← ok_or (code_at (row_of cmd) (after_results bytes)) fault.Code
  payload ← ok_or (payload_at code.1) fault.Code
  Ok (Begin (record { thread = thread; cmd = cmd; args = args; results = results; code = code.0; payload = payload }))
