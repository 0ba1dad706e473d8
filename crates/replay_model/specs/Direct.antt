-- What the drivers are told, by what they answered. Replies stand newest first, one for each driver call; a begin takes as many as it has drivers.
-- Source: this project; a handle that a driver answered is what it is told (Khronos Vulkan-Loader interface documents, "Driver interface").
use Rattle.std.specs.Prelude.{ℕ, ◌+◌, not, List, [], ◌∷◌, ◌++◌, map, filter, find, length, take, drop, reverse}
use Rattle.std.specs.List.{zip}
use Rattle.std.specs.Option.{option_map_or}
use Rattle.command_tables.specs.Calls.{DriverCallContent, ReplyContent}
use Rattle.trace_format.specs.Content.{TraceEvent, Begin, Return}
use Rattle.object_model.specs.declared.Object.{Object}
use Rattle.object_model.specs.declared.Argument.{Argument}
use Rattle.object_model.specs.declared.Argument.TheVariants.{Null, Unborn, The}
use Rattle.object_model.specs.Objects.{same}
use Rattle.object_model.specs.Values.{Answered, Value, asked_of_each, values_answered, value_for}
use Rattle.replay_model.specs.declared.Born.{Born}
use Rattle.replay_model.specs.Setup.{Setup}
use Rattle.replay_model.specs.Past.{Opened, Began, Returned, Past, is_of}
use Rattle.replay_model.specs.Judged.{begun_of}

-- ---- replies

-- the replies of the calls before this one
abbrev pub before_call : Opened → List ReplyContent → List ReplyContent
before_call o replies = drop (length o.drivers) replies

-- the replies of this call, in the order of its drivers
abbrev pub own_replies : Opened → List ReplyContent → List ReplyContent
own_replies o replies = reverse (take (length o.drivers) replies)

-- ---- values

-- what each driver of a call answered
abbrev pub answers_to : Opened → List ReplyContent → List Answered
answers_to o own = map (λ (x : ℕ × ReplyContent). record { driver = x.0; handles = x.1.handles }) (zip o.drivers own)

-- an open call with what was answered
pub record Sent : Type 0 where
  pub opened : Opened
  pub answers : List Answered

-- the open calls with what was answered
abbrev pub sent : Past → List ReplyContent → List Sent
sent [] replies = []
sent (Began e o reports ∷ past) replies = sent past (before_call o replies) ++ record { opened = o; answers = answers_to o (own_replies o replies) } ∷ []
sent (Returned o made ∷ past) replies = filter (λ c. not (is_of o.thread c.opened)) (sent past replies)

-- what was answered to the open call of a thread
abbrev pub answers_of : List Sent → ℕ → List Answered
answers_of calls thread = option_map_or (λ c. c.answers) (find (λ c. is_of thread c.opened) calls) []

-- an object with the values that one call gave for it
pub record Valued : Type 0 where
  pub object : Object
  pub values : List Value

-- a born result's object with its values
abbrev pub valued_of : Opened → List Answered → Born → Valued
valued_of o answers b = record { object = b.object; values = values_answered o.cmd answers b.place }

-- for each born name its object's values, also of objects that have ended
abbrev pub valued : Past → List ReplyContent → List Valued
valued [] replies = []
valued (Began e o reports ∷ past) replies = valued past (before_call o replies)
valued (Returned o made ∷ past) replies = valued past replies ++ map (valued_of o (answers_of (sent past replies) o.thread)) made

-- the values of an object by the last returned call at which a name of it was born
abbrev pub last_values : List Valued → Object → List Value
last_values values o = option_map_or (λ v. v.values) (find (λ v. same v.object o) (reverse values)) []

-- what a driver is told for an argument: 0 for null and for a name that isn't born
abbrev pub value_in : List Valued → ℕ → Argument → ℕ
value_in values driver Null = 0
value_in values driver Unborn = 0
value_in values driver (The o) = value_for driver (last_values values o)

-- ---- calls

-- the call that a driver is told: of each driver one physical device is asked for, else as many handles as the call has results
abbrev pub driver_call : List Valued → Opened → ℕ → DriverCallContent
driver_call values o driver =
    record {
      driver = driver;
      cmd = o.cmd;
      args = map (map (value_in values driver)) o.args;
      asked = asked_of_each o.cmd (length o.results);
      code = o.code;
      payload = o.payload;
    }

-- the driver calls of a begin, by the values before it
abbrev pub driver_calls : List Valued → Opened → List DriverCallContent
driver_calls values o = map (driver_call values o) o.drivers

-- what f gives at each begin, of the values before it, the call and its own replies
abbrev pub each_begin : {X : Type 0} → (List Valued → Opened → List ReplyContent → List X) → Past → List ReplyContent → List X
each_begin f [] replies = []
each_begin f (Began e o reports ∷ past) replies =
    each_begin f past (before_call o replies) ++ f (valued past (before_call o replies)) o (own_replies o replies)
each_begin f (Returned o made ∷ past) replies = each_begin f past replies

-- the driver calls of the past
abbrev pub direct : Past → List ReplyContent → List DriverCallContent
direct past replies = each_begin (λ values o own. driver_calls values o) past replies

-- the driver calls of a begin, each with its reply
abbrev pub begin_exchanges : List Valued → Opened → List ReplyContent → List (DriverCallContent × ReplyContent)
begin_exchanges values o own = zip (driver_calls values o) own

-- the driver calls of the past, each with its reply
abbrev pub exchanges : Past → List ReplyContent → List (DriverCallContent × ReplyContent)
exchanges past replies = each_begin begin_exchanges past replies

-- the driver calls of one event after such a past, each with its reply
abbrev pub exchanges_at : Setup → Past → TraceEvent → List ReplyContent → List (DriverCallContent × ReplyContent)
exchanges_at s past (Begin e) replies =
    let o = (begun_of s past e).opened in begin_exchanges (valued past (before_call o replies)) o (own_replies o replies)
exchanges_at s past (Return thread) replies = []

-- how many driver calls one event makes after such a past
abbrev pub sends_at : Setup → Past → TraceEvent → ℕ
sends_at s past (Begin e) = length (begun_of s past e).opened.drivers
sends_at s past (Return thread) = 0

-- how many driver calls there are
abbrev pub sends_in : Past → ℕ
sends_in [] = 0
sends_in (Began e o reports ∷ past) = sends_in past + length o.drivers
sends_in (Returned o made ∷ past) = sends_in past
