-- A begin, part by part, as the parser reads it.
use Rattle.std.proofs.Common.{◌≡◌, ℕ, Bool, true, false, Option, Some, None, Result, Ok, Err, List, [], map, length, refl, ap, ◌∙◌, codes, option_map, unwrap_or}
use Rattle.std.specs.Option.{ok_or}
use Rattle.command_tables.specs.declared.types.CommandId.{CommandId}
use Rattle.command_tables.specs.declared.types.Effect.{Effect}
use Rattle.command_tables.specs.declared.types.Row.{Row}
use Rattle.command_tables.specs.Table.{RowSpec, row_of, seen, seen_param}
use Rattle.trace_format.specs.declared.event.Name.{Name}
use Rattle.trace_format.specs.declared.parse.error.ParseError.{ParseError}
use Rattle.trace_format.specs.declared.parse.error.ParseError.TheVariants as error
use Rattle.trace_format.specs.declared.fault.TraceFault.{TraceFault}
use Rattle.trace_format.specs.declared.fault.TraceFault.TheVariants as fault
use Rattle.trace_format.specs.Content.{Arg, TraceEvent, content, Begin}
use Rattle.trace_format.specs.Grammar.{takes}
use Rattle.trace_format.specs.Words.{after, all_of, and_then, from, name_of, only_if, pieces, until}
use Rattle.trace_format.specs.Reading.{◌>>=◌, args_in, words_at, results_at, results_or, code_at, payload_at, ending_at, tail_at}
use Rattle.trace_format.specs.Steps.{Answers, words_in, results_word, after_results, results_of, end_with}
use Rattle.trace_format.proofs.RestLemmas.{WordsAre, words_are, rest_of}

-- a test of names is one of names with what follows them
only_with : (t : Bool) (names : List Name) (rest : List ℕ) → only_if {A = List Name × List ℕ} t (names, rest) ≡ and_then (only_if t names) (λ ns. Some (ns, rest))
only_with true names rest = refl
only_with false names rest = refl

-- names that are read, with what follows them
named_results : (effect : Effect) (rest : List ℕ) (o : Option (List Name))
    → and_then o (λ names. only_if {A = List Name × List ℕ} (takes effect (length names)) (names, rest)) ≡ and_then (and_then o (λ names. only_if (takes effect (length names)) names)) (λ names. Some (names, rest))
named_results effect rest (Some names) = only_with (takes effect (length names)) names rest
named_results effect rest None = refl

-- results are a word of names, and what follows it
results_split : (effect : Effect) (bytes : List ℕ) → results_at effect bytes ≡ and_then (results_of effect (results_word bytes)) (λ names. Some (names, after_results bytes))
results_split effect bytes = go (after (codes " = ") bytes)
  where
    go : (o : Option (List ℕ)) → results_or effect bytes o ≡ and_then (results_of effect (option_map (until 32) o)) (λ names. Some (names, unwrap_or (option_map (from 32) o) bytes))
    go None = only_with (takes effect 0) [] bytes
    go (Some rest) = named_results effect (from 32 rest) (all_of name_of (pieces (until 32 rest)))

-- what follows the results of a begin
abbrev after_names : ℕ → CommandId → List Arg → List Name × List ℕ → Result TraceEvent TraceFault
after_names thread cmd args results = ok_or (code_at (row_of cmd) results.1) fault.Code >>= (λ code. ok_or (payload_at code.1) fault.Code >>= (λ payload. Ok (Begin (record { thread = thread; cmd = cmd; args = args; results = results.0; code = code.0; payload = payload }))))

-- the end of a begin, part by part
pub ending_is : (thread : ℕ) (cmd : CommandId) (args : List Arg) (bytes : List ℕ) → ending_at thread cmd args bytes ≡ end_with thread cmd args bytes
unfolding ending_at
ending_is thread cmd args bytes = ap (λ o. ok_or o fault.Results >>= after_names thread cmd args) (results_split (row_of cmd).effect bytes) ∙ go (results_of (row_of cmd).effect (results_word bytes))
  where
    go : (o : Option (List Name)) → ok_or (and_then o (λ names. Some (names, after_results bytes))) fault.Results >>= after_names thread cmd args ≡ ok_or o fault.Results >>= (λ names. after_names thread cmd args (names, after_results bytes))
    go None = refl
    go (Some names) = refl

-- a begin by what follows its words and by its arguments
abbrev pub begin_by : ℕ → CommandId → Option (List ℕ) → Option (List Arg) → Result TraceEvent TraceFault
begin_by thread cmd None args = Err fault.Parameter
begin_by thread cmd (Some rest) args = ok_or args fault.Argument >>= (λ a. ending_at thread cmd a rest)

-- a begin is read by what follows its words and by its arguments
begin_split : (thread : ℕ) (cmd : CommandId) (bytes : List ℕ) → tail_at thread cmd bytes ≡ begin_by thread cmd (rest_of (words_at (row_of cmd).params bytes)) (args_in (row_of cmd).params (words_in (row_of cmd).params bytes))
unfolding tail_at
begin_split thread cmd bytes = go (words_at (row_of cmd).params bytes) (words_are (row_of cmd).params bytes)
  where
    go : (o : Option (List (List ℕ) × List ℕ)) → WordsAre (row_of cmd).params bytes o
        → ok_or o fault.Parameter >>= (λ words. ok_or (args_in (row_of cmd).params words.0) fault.Argument >>= (λ args. ending_at thread cmd args words.1))
        ≡ begin_by thread cmd (rest_of o) (args_in (row_of cmd).params (words_in (row_of cmd).params bytes))
    go None are = refl
    go (Some x) are = ap (λ ws. ok_or (args_in (row_of cmd).params ws) fault.Argument >>= (λ args. ending_at thread cmd args x.1)) are

-- the same over the program's row, where what follows the words is known
pub begin_rest : (thread : ℕ) (cmd : CommandId) (bytes : List ℕ) (row : Row) (rest : Option (List ℕ)) → seen row ≡ row_of cmd → rest ≡ rest_of (words_at (map seen_param row.params.now) bytes)
    → tail_at thread cmd bytes ≡ begin_by thread cmd rest (args_in (map seen_param row.params.now) (words_in (map seen_param row.params.now) bytes))
begin_rest thread cmd bytes row rest e there =
    let params : map seen_param row.params.now ≡ (row_of cmd).params = ap (λ (r : RowSpec). r.params) e in
    begin_split thread cmd bytes ∙ rw (there, params) refl

-- a fault of the arguments is one of the begin
pub begin_fault : {A : Type 0} (thread : ℕ) (cmd : CommandId) (rest : List ℕ) (seen_args : A → List Arg) (e : ParseError) (args : Option (List Arg))
    → Answers seen_args (Err e) (ok_or args fault.Argument) → Answers content (Err e) (begin_by thread cmd (Some rest) args)
begin_fault thread cmd rest seen_args (error.Fault f) None h = cc
begin_fault thread cmd rest seen_args (error.Fault f) (Some args) h = cc
begin_fault thread cmd rest seen_args error.NoMemory args h = tt

-- else the begin goes on to its end
pub begin_ends : (thread : ℕ) (cmd : CommandId) (rest : List ℕ) (args : List Arg) (o : Option (List Arg)) → o ≡ Some args → begin_by thread cmd (Some rest) o ≡ end_with thread cmd args rest
begin_ends thread cmd rest args o there = ap (λ a. begin_by thread cmd (Some rest) a) there ∙ ending_is thread cmd args rest
