-- The judged past of a list of events, and the flat lists that later events read of it. Events and what is judged stand newest first, all other lists oldest first.
-- Source: this project (the trace); Vulkan 1.3 specification, "Fundamentals", section "Object Lifetime" (births, owners).
use Rattle.std.specs.Prelude.{ℕ, ◌+◌, Bool, true, false, not, ◌&&◌, ◌||◌, if◌then◌else◌, ◌==◌, Option, Some, None, is_some, List, [], ◌∷◌, ◌++◌, map, filter, find, slice_get}
use Rattle.std.specs.Option.{option_map, option_map_or}
use Rattle.command_tables.specs.declared.types.CommandId.{CommandId}
use Rattle.command_tables.specs.declared.types.Code.{Code}
use Rattle.command_tables.specs.declared.types.Effect.{Effect}
use Rattle.command_tables.specs.declared.types.Effect.TheVariants as eff
use Rattle.command_tables.specs.Table.{row_of}
use Rattle.trace_format.specs.declared.event.Name.{Name}
use Rattle.trace_format.specs.Accepting.{same_name}
use Rattle.trace_format.specs.Content.{Arg, BeginEvent}
use Rattle.object_model.specs.declared.Object.{Object}
use Rattle.object_model.specs.declared.Argument.{Argument}
use Rattle.object_model.specs.declared.Routed.{Routed}
use Rattle.object_model.specs.declared.Argument.TheVariants.{Null, Unborn, The}
use Rattle.object_model.specs.History.{Call, Begins, Returns, History, Birth, born_in, births, owners_given}
use Rattle.object_model.specs.Findings.{Report}
use Rattle.object_model.specs.Keys.{key_payload}
use Rattle.object_model.specs.Routes.{driver_behind, is_routed}
use Rattle.replay_model.specs.declared.Named.{Named}
use Rattle.replay_model.specs.declared.Born.{Born}

-- A call as it was judged at its begin, which is all that its return and later events read of it: its arguments as the objects that they stand for there,
-- the place that stops it, whether its chain is refused, and the drivers that it is sent to.
pub record Opened : Type 0 where
  pub number : ℕ
  pub thread : ℕ
  pub cmd : CommandId
  pub args : List (List Argument)
  pub results : List Name
  pub code : Option Code
  pub payload : List ℕ
  pub stop : Option ℕ
  pub refused : Bool
  pub drivers : List ℕ

-- a begin as it was judged, with its reports; or a return, with the results that were born
pub data Judged : Type 0 where
  Began : (event : BeginEvent) (opened : Opened) (reports : List Report) → Judged
  Returned : (opened : Opened) (made : List Born) → Judged

-- the events so far as they were judged, the newest first
abbrev pub Past : Type 0
Past = List Judged

-- a call is skipped where a place stops it or its chain is refused
abbrev pub is_skipped : Opened → Bool
is_skipped o = o.refused || is_some o.stop

-- ---- calls

-- how many calls have begun
abbrev pub calls_in : Past → ℕ
calls_in [] = 0
calls_in (Began e o reports ∷ past) = calls_in past + 1
calls_in (Returned o made ∷ past) = calls_in past

-- the call is of this thread
abbrev pub is_of : ℕ → Opened → Bool
is_of thread o = o.thread == thread

-- the open calls: from its begin to the next return of its thread a call is open, skipped or not
abbrev pub open_calls : Past → List Opened
open_calls [] = []
open_calls (Began e o reports ∷ past) = open_calls past ++ o ∷ []
open_calls (Returned o made ∷ past) = filter (λ c. not (is_of o.thread c)) (open_calls past)

-- ---- names and what they stand for

-- a name with the object that it stands for
abbrev pub named_of : Born → Named
named_of b = record { name = b.name; object = b.object }

-- the names that stand for objects: each from its own birth on
abbrev pub named : Past → List Named
named [] = []
named (Began e o reports ∷ past) = named past
named (Returned o made ∷ past) = named past ++ map named_of made

-- the object for which a name stands
abbrev pub object_in : List Named → Name → Option Object
object_in names name = option_map (λ n. n.object) (find (λ n. same_name n.name name) names)

-- what stands in a place of a call: null where null is written; a name that stands for nothing is unborn
abbrev pub argument_in : List Named → Option Name → Argument
argument_in names None = Null
argument_in names (Some name) = option_map_or The (object_in names name) Unborn

-- the arguments of a call
abbrev pub arguments_in : List Named → List Arg → List (List Argument)
arguments_in names args = map (λ a. map (argument_in names) a.names) args

-- ---- the history that the trace gives

-- the call, as checkers see it
abbrev pub call_of : Opened → Call
call_of o = record { number = o.number; thread = o.thread; cmd = o.cmd; args = o.args }

-- the objects of born results
abbrev pub objects_of : List Born → List Object
objects_of made = map (λ b. b.object) made

-- every call with whether it is skipped, and every return with what it made
abbrev pub history : Past → History
history [] = []
history (Began e o reports ∷ past) = Begins (call_of o) (is_skipped o) ∷ history past
history (Returned o made ∷ past) = Returns (call_of o) (objects_of made) ∷ history past

-- ---- retrieved objects

-- A retrieved object with its owner and its key there: its place in the answer, and for a queue the payload with which it was asked for, else nothing.
pub record Retrieval : Type 0 where
  pub owner : Option Object
  pub place : ℕ
  pub payload : List ℕ
  pub object : Object

-- the owner of what a call makes, bound by its arguments as they were at its begin
abbrev pub owner_by : List Birth → List (List Argument) → Effect → Option Object
owner_by births args (eff.Create t owner many) = slice_get (owners_given births args owner) 0
owner_by births args (eff.Retrieve t owner many) = slice_get (owners_given births args owner) 0
owner_by births args _ = None

-- the effect gives objects that are there already
abbrev pub retrieves : Effect → Bool
retrieves (eff.Retrieve t owner many) = true
retrieves _ = false

-- a born result's object is born by this result
abbrev pub is_new : List Birth → Born → Bool
is_new births b = not (born_in births b.object)

-- a born result as a retrieved object
abbrev pub retrieval : Opened → Option Object → Born → Retrieval
retrieval o owner b = record { owner = owner; place = b.place; payload = key_payload o.cmd o.payload; object = b.object }

-- the objects that a call retrieves first, by the births before its return
abbrev pub retrieved_by : List Birth → Opened → List Born → List Retrieval
retrieved_by births o made =
    if retrieves (row_of o.cmd).effect then map (retrieval o (owner_by births o.args (row_of o.cmd).effect)) (filter (is_new births) made) else []

-- all retrieved objects
abbrev pub retrievals : Past → List Retrieval
retrievals [] = []
retrievals (Began e o reports ∷ past) = retrievals past
retrievals (Returned o made ∷ past) = retrievals past ++ retrieved_by (births (history past)) o made

-- ---- the drivers behind objects

-- a born object with the driver behind it
abbrev pub routed_of : Opened → Born → Routed
routed_of o b = record { object = b.object; driver = driver_behind o.cmd o.drivers b.place }

-- the objects that a call bears first, each with the driver behind it
abbrev pub routed_by : List Birth → Opened → List Born → List Routed
routed_by births o made = map (routed_of o) (filter (λ b. is_routed b.object.ty && is_new births b) made)

-- all objects with a driver behind them
abbrev pub routed : Past → List Routed
routed [] = []
routed (Began e o reports ∷ past) = routed past
routed (Returned o made ∷ past) = routed past ++ routed_by (births (history past)) o made
