-- How a line is read from its front: the event that it spells, or its first fault. Source: this project.
use Rattle.std.specs.Prelude.{ℕ, Bool, true, false, not, Option, Some, None, Result, Ok, Err, List, [], ◌∷◌, length, codes, is_some, if◌then◌else◌}
use Rattle.std.specs.List.{list_all}
use Rattle.std.specs.Option.{ok_or, option_map}
use Rattle.command_tables.specs.declared.types.CommandId.{CommandId}
use Rattle.command_tables.specs.declared.types.Code.{Code}
use Rattle.command_tables.specs.declared.types.Effect.{Effect}
use Rattle.command_tables.specs.Table.{ParamSpec, RowSpec, row_of}
use Rattle.trace_format.specs.declared.event.Name.{Name}
use Rattle.trace_format.specs.declared.fault.TraceFault.{TraceFault}
use Rattle.trace_format.specs.declared.fault.TraceFault.TheVariants as fault
use Rattle.trace_format.specs.Content.{Arg, TraceEvent, Begin, Return}
use Rattle.trace_format.specs.Grammar.{is_printable, takes}
use Rattle.trace_format.specs.Words.{after, all_of, and_then, args_of, code_of, command_of, from, is_nonempty, name_of, only_if, pieces, thread_of, until}

-- a reading that has no fault goes on to a further one
infixl 10 ◌>>=◌
abbrev pub ◌>>=◌ : {A B : Type 0} → Result A TraceFault → (A → Result B TraceFault) → Result B TraceFault
(Ok x) >>= f = f x
(Err e) >>= f = Err e

-- ---- the parts of a line, each with what follows it

-- a word that is not empty
abbrev pub cut_word : List ℕ → Option (List ℕ × List ℕ)
cut_word rest = only_if (is_nonempty (until 32 rest)) (until 32 rest, from 32 rest)

-- such a word, after one space
abbrev pub word_at : List ℕ → Option (List ℕ × List ℕ)
word_at bytes = and_then (after (codes " ") bytes) cut_word

-- such a word for each parameter
abbrev pub words_at : List ParamSpec → List ℕ → Option (List (List ℕ) × List ℕ)
words_at [] bytes = Some ([], bytes)
words_at (p ∷ ps) bytes = and_then (word_at bytes) (λ first. option_map (λ others. (first.0 ∷ others.0, others.1)) (words_at ps first.1))

-- the first argument, where there is one, is not null
abbrev pub has_first : List Arg → Bool
has_first [] = true
has_first (a ∷ args) = list_all is_some a.names

-- the arguments that these words spell
abbrev pub args_in : List ParamSpec → List (List ℕ) → Option (List Arg)
args_in ps words = and_then (args_of ps words) (λ args. only_if (has_first args) args)

-- names of results that a command with this effect takes
abbrev pub names_at : Effect → List ℕ → Option (List Name × List ℕ)
names_at e rest = and_then (all_of name_of (pieces (until 32 rest))) (λ names. only_if (takes e (length names)) (names, from 32 rest))

-- ` = ` and such names, or nothing where the command may have no results
abbrev pub results_or : Effect → List ℕ → Option (List ℕ) → Option (List Name × List ℕ)
results_or e bytes None = only_if (takes e 0) ([], bytes)
results_or e bytes (Some rest) = names_at e rest

-- the results, where a command with this effect has any
abbrev pub results_at : Effect → List ℕ → Option (List Name × List ℕ)
results_at e bytes = results_or e bytes (after (codes " = ") bytes)

-- a code is there exactly where one is asked for
abbrev pub agrees : Bool → Bool → Bool
agrees true b = b
agrees false b = not b

-- a code of the row's form
abbrev pub code_in : RowSpec → List ℕ → Option (Option Code × List ℕ)
code_in row rest = and_then (code_of (until 32 rest)) (λ code. only_if (agrees row.returns (is_some code)) (code, from 32 rest))

-- such a code, after one space
abbrev pub code_at : RowSpec → List ℕ → Option (Option Code × List ℕ)
code_at row bytes = and_then (after (codes " ") bytes) (code_in row)

-- the payload: nothing, or ` : ` and at least one byte
abbrev pub payload_at : List ℕ → Option (List ℕ)
payload_at [] = Some []
payload_at (b ∷ bytes) = and_then (after (codes " : ") (b ∷ bytes)) (λ payload. only_if (is_nonempty payload) payload)

-- ---- lines

-- results, code and payload
unfoldable pub ending_at : ℕ → CommandId → List Arg → List ℕ → Result TraceEvent TraceFault
ending_at thread cmd args bytes = do
  results ← ok_or (results_at (row_of cmd).effect bytes) fault.Results
  code ← ok_or (code_at (row_of cmd) results.1) fault.Code
  payload ← ok_or (payload_at code.1) fault.Code
  Ok (Begin (record { thread = thread; cmd = cmd; args = args; results = results.0; code = code.0; payload = payload }))

-- what follows a begin's command: arguments and the rest
unfoldable pub tail_at : ℕ → CommandId → List ℕ → Result TraceEvent TraceFault
tail_at thread cmd bytes = do
  words ← ok_or (words_at (row_of cmd).params bytes) fault.Parameter
  args ← ok_or (args_in (row_of cmd).params words.0) fault.Argument
  ending_at thread cmd args words.1

-- what follows `b `: a thread, one space, a command and the rest
unfoldable pub begin_at : List ℕ → Result TraceEvent TraceFault
begin_at bytes = do
  thread ← ok_or (thread_of (until 32 bytes)) fault.Thread
  rest ← ok_or (after (codes " ") (from 32 bytes)) fault.Thread
  cmd ← ok_or (command_of (until 32 rest)) fault.Command
  tail_at thread cmd (from 32 rest)

-- what follows `r `: a thread, and nothing more
unfoldable pub return_at : List ℕ → Result TraceEvent TraceFault
return_at bytes = do
  thread ← ok_or (thread_of bytes) fault.Thread
  Ok (Return thread)

-- a line that begins with `b `, or else with `r `
abbrev pub by_letter : Option (List ℕ) → Option (List ℕ) → Result TraceEvent TraceFault
by_letter (Some rest) _ = begin_at rest
by_letter None (Some rest) = return_at rest
by_letter None None = Err fault.Letter

-- the event that a line spells, or the first of its faults 2 to 9
unfoldable pub read_line : List ℕ → Result TraceEvent TraceFault
read_line line = if list_all is_printable line then by_letter (after (codes "b ") line) (after (codes "r ") line) else Err fault.NotAscii
