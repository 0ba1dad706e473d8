-- Which events may follow others, and the call that an event belongs to. The events before stand newest first. Source: this project.
use Rattle.std.specs.Prelude.{ℕ, ◌+◌, ◌==◌, nat_lt, Bool, true, false, not, ◌&&◌, ◌||◌, if◌then◌else◌, Option, Some, None, is_some, List, [], ◌∷◌, ◌++◌, map, filter, length}
use Rattle.std.specs.List.{filter_map, list_all, list_any}
use Rattle.std.specs.Option.{is_none, option_map_or}
use Rattle.std.specs.Str.{bytes_eq}
use Rattle.command_tables.specs.declared.types.Code.TheVariants as code
use Rattle.command_tables.specs.declared.types.CommandId.TheVariants as cmd
use Rattle.command_tables.specs.declared.types.ObjectType.{ObjectType}
use Rattle.command_tables.specs.Effects.{type_made}
use Rattle.command_tables.specs.Table.{ParamSpec, row_of}
use Rattle.command_tables.specs.Tests.{same_code, same_command, same_type}
use Rattle.trace_format.specs.declared.event.Name.{Name}
use Rattle.trace_format.specs.declared.limits.TheConstants.{HEADER, MAX_NAMES}
use Rattle.trace_format.specs.declared.fault.TraceFault.{TraceFault}
use Rattle.trace_format.specs.declared.fault.TraceFault.TheVariants as fault
use Rattle.trace_format.specs.Content.{Arg, TraceEvent, Begin, Return}

-- the first fault of which the test holds
abbrev pub first_fault : List (Bool × TraceFault) → Option TraceFault
first_fault [] = None
first_fault (x ∷ rest) = if x.0 then Some x.1 else first_fault rest

-- ---- the first line

-- the header of a trace
abbrev pub header : List ℕ
header = HEADER

-- the first line is missing, or is not the header
abbrev pub header_fault : List (List ℕ) → Option TraceFault
header_fault [] = Some fault.Header
header_fault (line ∷ lines) = if bytes_eq line header then None else Some fault.Header

-- ---- open calls

-- the threads whose call has begun and has not returned
abbrev pub open_threads : List TraceEvent → List ℕ
open_threads [] = []
open_threads (Begin b ∷ before) = b.thread ∷ open_threads before
open_threads (Return thread ∷ before) = filter (λ t. not (t == thread)) (open_threads before)

-- a thread has an open call
abbrev pub is_open : ℕ → List TraceEvent → Bool
is_open thread before = list_any (λ t. t == thread) (open_threads before)

-- how many calls have begun
abbrev pub calls_begun : List TraceEvent → ℕ
calls_begun [] = 0
calls_begun (Begin b ∷ before) = calls_begun before + 1
calls_begun (Return thread ∷ before) = calls_begun before

-- the number of a thread's last call; calls are numbered from 1 by their begins
abbrev pub last_call : ℕ → List TraceEvent → ℕ
last_call thread [] = 0
last_call thread (Begin b ∷ before) = if b.thread == thread then calls_begun before + 1 else last_call thread before
last_call thread (Return t ∷ before) = last_call thread before

-- the number of the call that an event belongs to
abbrev pub call_number : List TraceEvent → TraceEvent → ℕ
call_number before (Begin b) = calls_begun before + 1
call_number before (Return thread) = last_call thread before

-- ---- names

-- two names are one
abbrev pub same_name : Name → Name → Bool
same_name a b = a.thread == b.thread && a.number == b.number

-- the type that a name was given, where an earlier line has it as a result
abbrev pub type_given : Name → List TraceEvent → Option ObjectType
type_given n [] = None
type_given n (Begin b ∷ before) = if list_any (λ r. same_name r n) b.results then type_made (row_of b.cmd).effect else type_given n before
type_given n (Return thread ∷ before) = type_given n before

-- the names among these arguments, each with the type that its parameter asks for
abbrev pub names_used : List ParamSpec → List Arg → List (ObjectType × Name)
names_used (p ∷ ps) (a ∷ args) = map (λ n. (p.ty, n)) (filter_map (λ n. n) a.names) ++ names_used ps args
names_used _ _ = []

-- the name is a result of an earlier line
abbrev pub is_known : List TraceEvent → ObjectType × Name → Bool
is_known before x = is_some (type_given x.1 before)

-- the name was given the type that is asked for
abbrev pub is_of_type : List TraceEvent → ObjectType × Name → Bool
is_of_type before x = option_map_or (λ t. same_type t x.0) (type_given x.1 before) false

-- how many names a thread was given
abbrev pub names_given : ℕ → List TraceEvent → ℕ
names_given thread [] = 0
names_given thread (Begin b ∷ before) = if b.thread == thread then names_given thread before + length b.results else names_given thread before
names_given thread (Return t ∷ before) = names_given thread before

-- how many names were given in all
abbrev pub names_in : List TraceEvent → ℕ
names_in [] = 0
names_in (Begin b ∷ before) = names_in before + length b.results
names_in (Return thread ∷ before) = names_in before

-- an event would bring the number of names above 4,194,304
abbrev pub exceeds_names : List TraceEvent → TraceEvent → Bool
exceeds_names before e = nat_lt MAX_NAMES (names_in (e ∷ before))

-- these names are a thread's, numbered from a number on
abbrev pub count_on : ℕ → ℕ → List Name → Bool
count_on thread number [] = true
count_on thread number (n ∷ ns) = same_name n (record { thread = thread; number = number }) && count_on thread (number + 1) ns

-- ---- instances

-- the event begins the creation of an instance
abbrev pub begins_instance : TraceEvent → Bool
begins_instance (Begin b) = same_command b.cmd cmd.CreateInstance
begins_instance (Return thread) = false

-- the event begins a creation of an instance that succeeds, by the code in the trace
abbrev pub makes_instance : TraceEvent → Bool
makes_instance (Begin b) = same_command b.cmd cmd.CreateInstance && option_map_or (λ c. same_code c code.Success) b.code false
makes_instance (Return thread) = false

-- the event is not the return of this one
abbrev pub is_no_return_of : TraceEvent → TraceEvent → Bool
is_no_return_of (Begin b) (Return thread) = not (b.thread == thread)
is_no_return_of _ _ = true

-- the event stands directly after the begin of the creation of an instance, and is not its return
abbrev pub breaks_in : List TraceEvent → TraceEvent → Bool
breaks_in [] e = false
breaks_in (last ∷ before) e = begins_instance last && is_no_return_of last e

-- the event is a second creation that succeeds, or breaks into one
abbrev pub breaks_instance : List TraceEvent → TraceEvent → Bool
breaks_instance before e = makes_instance e && list_any makes_instance before || breaks_in before e

-- ---- faults

-- the first of faults 10 to 15 of an event after those before it
abbrev pub fault_after : List TraceEvent → TraceEvent → Option TraceFault
fault_after before (Begin b) =
    first_fault (
    (is_open b.thread before, fault.Busy) ∷ (not (list_all (is_known before) (names_used (row_of b.cmd).params b.args)), fault.Unknown)
    ∷ (not (list_all (is_of_type before) (names_used (row_of b.cmd).params b.args)), fault.WrongType)
    ∷ (not (count_on b.thread (names_given b.thread before + 1) b.results), fault.Sequence) ∷ (breaks_instance before (Begin b), fault.Instance) ∷ []
    )
fault_after before (Return thread) = first_fault ((not (is_open thread before), fault.Idle) ∷ (breaks_instance before (Return thread), fault.Instance) ∷ [])

-- each event may follow those before it
abbrev pub are_accepted : List TraceEvent → Bool
are_accepted [] = true
are_accepted (e ∷ before) = are_accepted before && is_none (fault_after before e)

-- fault 16: a call is open at the end
abbrev pub fault_at_end : List TraceEvent → Option TraceFault
fault_at_end events = first_fault ((not (length (open_threads events) == 0), fault.OpenAtEnd) ∷ [])
