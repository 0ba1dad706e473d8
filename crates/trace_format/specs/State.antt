-- What the state of a trace keeps of the events so far, and for which events it stands. Source: this project.
use Rattle.std.specs.Prelude.{◌≡◌, ℕ, ◌+◌, ◌-◌, ◌^◌, ◌≤◌, ◌==◌, min, Bool, true, false, not, ◌&&◌, ◌||◌, Option, Some, None, is_some, List, [], ◌∷◌, ◌++◌, length, slice_get, if◌then◌else◌}
use Rattle.std.specs.List.{list_all, list_any}
use Rattle.std.specs.Option.{option_map_or, option_or}
use Rattle.command_tables.specs.declared.types.CommandId.TheVariants as cmd
use Rattle.command_tables.specs.declared.types.ObjectType.{ObjectType}
use Rattle.command_tables.specs.Effects.{type_made}
use Rattle.command_tables.specs.Table.{ParamSpec, row_of}
use Rattle.command_tables.specs.Tests.{same_command, same_type}
use Rattle.trace_format.specs.declared.event.Name.{Name}
use Rattle.trace_format.specs.declared.limits.TheConstants.{MAX_NAMES}
use Rattle.trace_format.specs.declared.thread.ThreadState.{ThreadState}
use Rattle.trace_format.specs.declared.fault.TraceFault.{TraceFault}
use Rattle.trace_format.specs.declared.fault.TraceFault.TheVariants as fault
use Rattle.trace_format.specs.Content.{Arg, TraceEvent, BeginEvent, Begin, Return}
use Rattle.trace_format.specs.Gains.{gained}
use Rattle.trace_format.specs.Accepting.{call_number, calls_begun, count_on, exceeds_names, fault_after, first_fault, is_open, last_call, makes_instance, names_given, names_in, names_used, type_given}

-- what is kept: how many calls have begun (a 64-bit count, which stays at its end), how many names were given, whether an
-- instance was made, the thread whose creation of an instance was the last event, and what is kept of each thread
pub record TraceSeen : Type 0 where
  pub calls : ℕ
  pub names : ℕ
  pub has_instance : Bool
  pub creating : Option ℕ
  pub threads : List ThreadState

-- ---- what is kept of a thread, found by its number

-- it has an open call
abbrev pub open_in : List ThreadState → ℕ → Bool
open_in threads t = option_map_or (λ s. s.is_open) (slice_get threads t) false

-- the number of its last call
abbrev pub call_in : List ThreadState → ℕ → ℕ
call_in threads t = option_map_or (λ s. s.call) (slice_get threads t) 0

-- the types of its results, in order
abbrev pub types_in : List ThreadState → ℕ → List ObjectType
types_in threads t = option_map_or (λ s. s.types.items) (slice_get threads t) []

-- ---- the events for which it stands

-- the thread of the last event, where that begins the creation of an instance
abbrev pub creating_in : List TraceEvent → Option ℕ
creating_in [] = None
creating_in (Begin b ∷ before) = if same_command b.cmd cmd.CreateInstance then Some b.thread else None
creating_in (Return thread ∷ before) = None

-- the number of a call as a 64-bit count, which stays at its end
abbrev pub counted : ℕ → ℕ
counted n = min n (2 ^ 64 - 1)

-- what is kept is what these events, newest first, come to: the n-th name of a thread has the n-th of its types
pub record SumsUp (s : TraceSeen) (before : List TraceEvent) : Type 0 where
  pub calls : s.calls ≡ counted (calls_begun before)
  pub names : s.names ≡ names_in before
  pub most : names_in before ≤ MAX_NAMES
  pub instances : s.has_instance ≡ list_any makes_instance before
  pub creating : s.creating ≡ creating_in before
  pub opened : (t : ℕ) → open_in s.threads t ≡ is_open t before
  pub called : (t : ℕ) → call_in s.threads t ≡ counted (last_call t before)
  pub given : (t : ℕ) → length (types_in s.threads t) ≡ names_given t before
  pub types : (t n : ℕ) → slice_get (types_in s.threads t) n ≡ type_given (record { thread = t; number = n + 1 }) before

-- ---- an event's first fault, by what is kept

-- the type of a name
abbrev pub type_in : List ThreadState → Name → Option ObjectType
type_in threads n = slice_get (types_in threads n.thread) (n.number - 1)

-- the name is a result of an earlier line
abbrev pub knows : List ThreadState → ObjectType × Name → Bool
knows threads x = is_some (type_in threads x.1)

-- the name was given the type that is asked for
abbrev pub knows_as : List ThreadState → ObjectType × Name → Bool
knows_as threads x = option_map_or (λ t. same_type t x.0) (type_in threads x.1) false

-- the event stands between the begin and the return of the creation of an instance by a thread
abbrev pub breaks_into : Option ℕ → TraceEvent → Bool
breaks_into None e = false
breaks_into (Some t) (Begin b) = true
breaks_into (Some t) (Return thread) = not (t == thread)

-- the event is a second creation that succeeds, or breaks into one
abbrev pub breaks : TraceSeen → TraceEvent → Bool
breaks s e = makes_instance e && s.has_instance || breaks_into s.creating e

-- the first of faults 10 to 15
abbrev pub fault_in : TraceSeen → TraceEvent → Option TraceFault
fault_in s (Begin b) =
    first_fault (
    (open_in s.threads b.thread, fault.Busy) ∷ (not (list_all (knows s.threads) (names_used (row_of b.cmd).params b.args)), fault.Unknown)
    ∷ (not (list_all (knows_as s.threads) (names_used (row_of b.cmd).params b.args)), fault.WrongType)
    ∷ (not (count_on b.thread (length (types_in s.threads b.thread) + 1) b.results), fault.Sequence) ∷ (breaks s (Begin b), fault.Instance) ∷ []
    )
fault_in s (Return thread) = first_fault ((not (open_in s.threads thread), fault.Idle) ∷ (breaks s (Return thread), fault.Instance) ∷ [])

-- ---- one event more

-- what is kept after a begin
pub record AfterBegin (s t : TraceSeen) (b : BeginEvent) : Type 0 where
  pub calls : t.calls ≡ counted (s.calls + 1)
  pub names : t.names ≡ s.names + length b.results
  pub most : t.names ≤ MAX_NAMES
  pub instances : t.has_instance ≡ (makes_instance (Begin b) || s.has_instance)
  pub creating : t.creating ≡ (if same_command b.cmd cmd.CreateInstance then Some b.thread else None)
  pub opened : (u : ℕ) → open_in t.threads u ≡ ((b.thread == u) || open_in s.threads u)
  pub called : (u : ℕ) → call_in t.threads u ≡ (if b.thread == u then t.calls else call_in s.threads u)
  pub types : (u : ℕ) → types_in t.threads u ≡ (if b.thread == u then types_in s.threads u ++ gained (type_made (row_of b.cmd).effect) (length b.results) else types_in s.threads u)

-- what is kept after a return
pub record AfterReturn (s t : TraceSeen) (thread : ℕ) : Type 0 where
  pub calls : t.calls ≡ s.calls
  pub names : t.names ≡ s.names
  pub instances : t.has_instance ≡ s.has_instance
  pub creating : t.creating ≡ None
  pub opened : (u : ℕ) → open_in t.threads u ≡ (not (thread == u) && open_in s.threads u)
  pub called : (u : ℕ) → call_in t.threads u ≡ call_in s.threads u
  pub types : (u : ℕ) → types_in t.threads u ≡ types_in s.threads u

-- what is kept of each thread is alike
pub record SameThreads (s t : List ThreadState) : Type 0 where
  pub opened : (u : ℕ) → open_in t u ≡ open_in s u
  pub called : (u : ℕ) → call_in t u ≡ call_in s u
  pub types : (u : ℕ) → types_in t u ≡ types_in s u

-- an event is accepted after those before it: it has no fault, the names stay within their limit, n is its call's number, and what is kept then stands for it too
pub record Accepted (t : TraceSeen) (before : List TraceEvent) (e : TraceEvent) (n : ℕ) : Type 0 where
  pub fault : fault_after before e ≡ None
  pub names : exceeds_names before e ≡ false
  pub number : n ≡ counted (call_number before e)
  pub stands : SumsUp t (e ∷ before)

-- ---- parts of the first fault

-- the name is a result of an earlier line, or one of its type where that counts
abbrev pub is_found : List ThreadState → Bool → ObjectType × Name → Bool
is_found threads typed x = if typed then knows_as threads x else knows threads x

-- a place is null, or such a name
abbrev pub is_found_or_null : List ThreadState → Bool → ObjectType → Option Name → Bool
is_found_or_null threads typed t o = option_map_or (λ n. is_found threads typed (t, n)) o true

-- each name of the arguments is such a name
abbrev pub args_found : List ThreadState → Bool → List ParamSpec → List Arg → Bool
args_found threads typed (p ∷ ps) (a ∷ args) = list_all (is_found_or_null threads typed p.ty) a.names && args_found threads typed ps args
args_found threads typed _ _ = true

-- the fault of the arguments: one that is unknown before one of another type
abbrev pub argument_fault : List ThreadState → List ParamSpec → List Arg → Option TraceFault
argument_fault threads ps args =
    if args_found threads true ps args then None else (if args_found threads false ps args then Some fault.WrongType else Some fault.Unknown)

-- what is kept is alike
pub record Stays (s t : TraceSeen) : Type 0 where
  pub calls : t.calls ≡ s.calls
  pub names : t.names ≡ s.names
  pub instances : t.has_instance ≡ s.has_instance
  pub creating : t.creating ≡ s.creating
  pub threads : SameThreads s.threads t.threads

-- the first fault of a begin, by its parts
abbrev pub fault_by_parts : TraceSeen → BeginEvent → Option TraceFault
fault_by_parts s b =
    if open_in s.threads b.thread then Some fault.Busy
    else option_or (argument_fault s.threads (row_of b.cmd).params b.args) (
    if count_on b.thread (length (types_in s.threads b.thread) + 1) b.results then (if breaks s (Begin b) then Some fault.Instance else None) else Some fault.Sequence
    )
