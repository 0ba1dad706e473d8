-- How the words of a line are read: numbers, names, arguments, codes and commands. Source: this project.
use Rattle.std.specs.Prelude.{ℕ, ◌+◌, ◌-◌, ◌*◌, ◌==◌, nat_le, Bool, true, false, not, ◌&&◌, Option, Some, None, List, [], ◌∷◌, length, take, drop, find, codes, if◌then◌else◌}
use Rattle.std.specs.List.{slice_split}
use Rattle.std.specs.Option.{option_map}
use Rattle.std.specs.Str.{all_ascii_digits, bytes_eq}
use Rattle.command_tables.specs.declared.types.CommandId.{CommandId}
use Rattle.command_tables.specs.declared.types.Code.{Code}
use Rattle.command_tables.specs.declared.codes.TheConstants.{CODES}
use Rattle.command_tables.specs.declared.lookup.TheConstants.{COMMANDS}
use Rattle.command_tables.specs.CodeNames.{code_name}
use Rattle.command_tables.specs.Table.{ParamSpec, row_of}
use Rattle.trace_format.specs.declared.event.Name.{Name}
use Rattle.trace_format.specs.declared.limits.TheConstants.{MAX_NAMES, MAX_PLACES, MAX_THREADS}
use Rattle.trace_format.specs.Content.{Arg}

-- what is read, where something is, goes on to a further reading
abbrev pub and_then : {A B : Type 0} → Option A → (A → Option B) → Option B
and_then None f = None
and_then (Some x) f = f x

-- a value that passes a test
abbrev pub only_if : {A : Type 0} → Bool → A → Option A
only_if true x = Some x
only_if false x = None

-- the bytes before the first c
abbrev pub until : ℕ → List ℕ → List ℕ
until c [] = []
until c (b ∷ bytes) = if b == c then [] else b ∷ until c bytes

-- the bytes from the first c on
abbrev pub from : ℕ → List ℕ → List ℕ
from c [] = []
from c (b ∷ bytes) = if b == c then b ∷ bytes else from c bytes

-- what follows a text that the bytes begin with
abbrev pub after : List ℕ → List ℕ → Option (List ℕ)
after text bytes = only_if (bytes_eq (take (length text) bytes) text) (drop (length text) bytes)

-- there is a byte
abbrev pub is_nonempty : List ℕ → Bool
is_nonempty [] = false
is_nonempty (b ∷ bytes) = true

-- a value and others, where all are there
abbrev pub both : {A : Type 0} → Option A → Option (List A) → Option (List A)
both (Some x) (Some xs) = Some (x ∷ xs)
both _ _ = None

-- each of these texts, read alike
abbrev pub all_of : {A : Type 0} → (List ℕ → Option A) → List (List ℕ) → Option (List A)
all_of f [] = Some []
all_of f (w ∷ ws) = both (f w) (all_of f ws)

-- the pieces between commas
abbrev pub pieces : List ℕ → List (List ℕ)
pieces bytes = slice_split (λ b. b == 44) bytes

-- the number of further digits, after the number so far
abbrev pub value_after : ℕ → List ℕ → ℕ
value_after n [] = n
value_after n (d ∷ digits) = value_after (10 * n + (d - 48)) digits

-- the first byte is there, and is not `0`
abbrev pub has_no_leading_zero : List ℕ → Bool
has_no_leading_zero [] = false
has_no_leading_zero (b ∷ bytes) = not (b == 48)

-- a decimal number from 1 to a limit, without leading zeros
unfoldable pub number_up_to : ℕ → List ℕ → Option ℕ
number_up_to limit word = only_if (all_ascii_digits word && has_no_leading_zero word && nat_le (value_after 0 word) limit) (value_after 0 word)

-- a thread
abbrev pub thread_of : List ℕ → Option ℕ
thread_of word = number_up_to MAX_THREADS word

-- a thread and a number, where both are there
abbrev pub name_with : Option ℕ → Option ℕ → Option Name
name_with (Some thread) (Some number) = Some (record { thread = thread; number = number })
name_with _ _ = None

-- a thread, `.` and a number
abbrev pub numbers_of : List ℕ → Option Name
numbers_of rest = name_with (thread_of (until 46 rest)) (and_then (after (codes ".") (from 46 rest)) (number_up_to MAX_NAMES))

-- a name: `%`, a thread, `.` and a number
unfoldable pub name_of : List ℕ → Option Name
name_of word = and_then (after (codes "%") word) numbers_of

-- one place of an argument
unfoldable pub one_of : List ℕ → Option (Option Name)
one_of word = if bytes_eq word (codes "null") then Some None else option_map Some (name_of word)

-- the places between the brackets
abbrev pub places_of : List ℕ → Option (List (Option Name))
places_of [] = Some []
places_of (b ∷ bytes) = all_of one_of (pieces (b ∷ bytes))

-- a list of at most 1,024 places, where nothing but `]` stands behind them
abbrev pub closed : List ℕ → List (Option Name) → Option Arg
closed rest names = only_if (bytes_eq rest (codes "]") && nat_le (length names) MAX_PLACES) (record { many = true; names = names })

-- the places up to `]`
abbrev pub list_in : List ℕ → Option Arg
list_in rest = and_then (places_of (until 93 rest)) (closed (from 93 rest))

-- a list: at most 1,024 places in brackets
unfoldable pub list_of : List ℕ → Option Arg
list_of word = and_then (after (codes "[") word) list_in

-- an argument of one place
abbrev pub single : Option Name → Arg
single n = record { many = false; names = n ∷ [] }

-- an argument in the form of a list, or of one place
unfoldable pub arg_of : Bool → List ℕ → Option Arg
arg_of true word = list_of word
arg_of false word = option_map single (one_of word)

-- an argument for each parameter
abbrev pub args_of : List ParamSpec → List (List ℕ) → Option (List Arg)
args_of [] [] = Some []
args_of (p ∷ ps) (w ∷ words) = both (arg_of p.many w) (args_of ps words)
args_of _ _ = None

-- a code, or `void`
unfoldable pub code_of : List ℕ → Option (Option Code)
code_of word = if bytes_eq word (codes "void") then Some None else option_map Some (find (λ c. bytes_eq (code_name c) word) CODES)

-- a command
unfoldable pub command_of : List ℕ → Option CommandId
command_of word = find (λ c. bytes_eq (row_of c).name word) COMMANDS
