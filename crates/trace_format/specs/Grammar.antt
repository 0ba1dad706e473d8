-- The events of the grammar, and the one line that each is spelled as. Source: this project.
use Rattle.std.specs.Prelude.{◌≡◌, ℕ, ◌≤◌, ◌==◌, nat_le, ⊤, Bool, true, false, ◌&&◌, IsTrue, Option, Some, None, is_some, IsSome, List, [], ◌∷◌, ◌++◌, map, length, codes, decimal, if◌then◌else◌}
use Rattle.std.specs.List.{AllByRecursion, flat_map, join_with_byte}
use Rattle.command_tables.specs.declared.types.Code.{Code}
use Rattle.command_tables.specs.declared.types.Effect.{Effect}
use Rattle.command_tables.specs.declared.types.Effect.TheVariants as eff
use Rattle.command_tables.specs.CodeNames.{code_name}
use Rattle.command_tables.specs.Table.{ParamSpec, row_of}
use Rattle.trace_format.specs.declared.event.Name.{Name}
use Rattle.trace_format.specs.declared.limits.TheConstants.{MAX_NAMES, MAX_PLACES, MAX_THREADS}
use Rattle.trace_format.specs.Content.{Arg, BeginEvent, TraceEvent, Begin, Return}

-- a name: `%`, its thread, `.`, its number
abbrev pub name_text : Name → List ℕ
name_text n = codes "%" ++ (decimal n.thread ++ (codes "." ++ decimal n.number))

-- one place of an argument: a name, or `null`
abbrev pub one_text : Option Name → List ℕ
one_text None = codes "null"
one_text (Some n) = name_text n

-- an argument: its one place, or a list of places in brackets, with commas between them
abbrev pub arg_text : Arg → List ℕ
arg_text a = if a.many then codes "[" ++ (join_with_byte 44 (map one_text a.names) ++ codes "]") else join_with_byte 44 (map one_text a.names)

-- the results: ` = ` and their names with commas between them; nothing where there are none
abbrev pub results_text : List Name → List ℕ
results_text [] = []
results_text (n ∷ ns) = codes " = " ++ join_with_byte 44 (map name_text (n ∷ ns))

-- a code, or `void` where the command answers nothing
abbrev pub code_text : Option Code → List ℕ
code_text None = codes "void"
code_text (Some c) = code_name c

-- a payload: ` : ` and its bytes; nothing where it is empty
abbrev pub payload_text : List ℕ → List ℕ
payload_text [] = []
payload_text (b ∷ bs) = codes " : " ++ (b ∷ bs)

-- the arguments, each after one space
abbrev pub args_text : List Arg → List ℕ
args_text args = flat_map (λ a. codes " " ++ arg_text a) args

-- what stands behind a begin's command
abbrev pub tail_text : BeginEvent → List ℕ
tail_text b = args_text b.args ++ (results_text b.results ++ (codes " " ++ (code_text b.code ++ payload_text b.payload)))

-- the line of an event, without its line feed
abbrev pub spelling : TraceEvent → List ℕ
spelling (Return thread) = codes "r " ++ decimal thread
spelling (Begin b) = codes "b " ++ (decimal b.thread ++ (codes " " ++ ((row_of b.cmd).name ++ tail_text b)))

-- a number from 1 to a limit
abbrev pub IsUpTo : ℕ → ℕ → Type 0
IsUpTo limit n = (1 ≤ n) × (n ≤ limit)

-- threads are 1 to 1,024
abbrev pub IsThread : ℕ → Type 0
IsThread n = IsUpTo MAX_THREADS n

-- a name has a thread, and a number from 1 to 4,194,304
abbrev pub IsName : Name → Type 0
IsName n = IsThread n.thread × IsUpTo MAX_NAMES n.number

-- one place is null or a name
abbrev pub IsOne : Option Name → Type 0
IsOne None = ⊤
IsOne (Some n) = IsName n

-- an argument in the form of a list, of at most 1,024 places, or in the form of one place
abbrev pub HasForm : Bool → Arg → Type 0
HasForm true a = (a.many ≡ true) × (nat_le (length a.names) MAX_PLACES ≡ true) × AllByRecursion IsOne a.names
HasForm false a = (a.many ≡ false) × ((length a.names == 1) ≡ true) × AllByRecursion IsOne a.names

-- there is one argument for each parameter, a list where it takes one
abbrev pub FitParams : List ParamSpec → List Arg → Type 0
FitParams [] [] = ⊤
FitParams (p ∷ ps) (a ∷ args) = HasForm p.many a × FitParams ps args
FitParams _ _ = ⊥

-- the first argument, where there is one, is not null
abbrev pub HasFirst : List Arg → Type 0
HasFirst [] = ⊤
HasFirst (a ∷ args) = AllByRecursion (λ n. IsSome n) a.names

-- how many results a command with this effect has: one, up to 1,024 or none
abbrev pub takes : Effect → ℕ → Bool
takes (eff.Create t owner false) n = n == 1
takes (eff.Create t owner true) n = nat_le n MAX_PLACES
takes (eff.Retrieve t owner false) n = n == 1
takes (eff.Retrieve t owner true) n = nat_le n MAX_PLACES
takes _ n = n == 0

-- the bytes 0x20 to 0x7E
abbrev pub is_printable : ℕ → Bool
is_printable b = nat_le 32 b && nat_le b 126

-- a begin of the grammar: a thread, arguments and results as the command's row asks for, a code exactly where the command
-- answers one, and a payload of printable bytes
pub record IsBegin (b : BeginEvent) : Type 0 where
  pub thread : IsThread b.thread
  pub args : FitParams (row_of b.cmd).params b.args
  pub first : HasFirst b.args
  pub results : IsTrue (takes (row_of b.cmd).effect (length b.results))
  pub names : AllByRecursion IsName b.results
  pub code : is_some b.code ≡ (row_of b.cmd).returns
  pub payload : AllByRecursion (λ c. IsTrue (is_printable c)) b.payload

-- an event of the grammar
abbrev pub IsEvent : TraceEvent → Type 0
IsEvent (Begin b) = IsBegin b
IsEvent (Return thread) = IsThread thread

-- a line, without its line feed, spells an event
pub record Spells (line : List ℕ) (e : TraceEvent) : Type 0 where
  pub event : IsEvent e
  pub text : line ≡ spelling e
