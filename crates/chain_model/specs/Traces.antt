-- A trace so far, what its drivers may have answered, and what it is for a kept chain to stand for it. Source: this project.
use Rattle.std.specs.Prelude.{◌≡◌, ℕ, Bool, true, false, ◌&&◌, if◌then◌else◌, IsTrue, None, List, [], ◌∷◌, map, length}
use Rattle.std.specs.List.{AllByRecursion}
use Rattle.command_tables.specs.Calls.{ReplyContent}
use Rattle.command_tables.specs.declared.types.CommandId.TheVariants as cmd
use Rattle.command_tables.specs.Effects.{succeeds}
use Rattle.command_tables.specs.Table.{row_of}
use Rattle.command_tables.specs.Tests.{same_command}
use Rattle.model_driver.specs.Driver.{IsAnsweredBy, are_handles}
use Rattle.trace_format.specs.Content.{BeginEvent, TraceEvent, Begin}
use Rattle.trace_format.specs.Accepting.{are_accepted}
use Rattle.trace_format.specs.Grammar.{IsEvent}
use Rattle.object_model.specs.History.{births, alive}
use Rattle.object_model.specs.Rules.{Failure, loader_failures}
use Rattle.object_model.specs.Values.{Answered, asked_of_each}
use Rattle.replay_model.specs.Setup.{Setup, parts_of}
use Rattle.replay_model.specs.Past.{Opened, Past, call_of, history, routed}
use Rattle.replay_model.specs.Judged.{judged}
use Rattle.replay_model.specs.ChainPlaces.{parts_in_force, checked, findings}
use Rattle.replay_model.specs.Direct.{Sent, Valued, before_call, driver_call, own_replies, sent, valued}
use Rattle.layer_model.specs.Routes.{drivers_at}
use Rattle.layer_model.specs.Terminator.{told_call}
use Rattle.layer_model.specs.Walks.{are_parts_guarded, kind_of, nothing_found}
use Rattle.chain_model.specs.Simulated.{ChainKept, ChainStands, Held, after_begin, found_by, walk_of, with_forms, with_parts}
use Rattle.chain_model.specs.Stops.{StopsFit}
use Rattle.chain_model.specs.Routes.{routes_in}

-- events of the grammar, each of which may follow those before it
pub record IsTrace (events : List TraceEvent) : Type 0 where
  pub grammar : AllByRecursion IsEvent events
  pub accepted : are_accepted events ≡ true

-- every chain that the setup gives has a unique part below each checking part
abbrev pub GivesGuarded : Setup → Type 0
GivesGuarded s = (payload : List ℕ) → are_parts_guarded (parts_of (s.outcome payload)) ≡ true

-- ---- answers

-- each of these drivers answers a call as a driver may
abbrev pub AreAnswered : List Valued → Opened → List ℕ → List ReplyContent → Type 0
AreAnswered values o [] [] = Unit {0}
AreAnswered values o [] (r ∷ own) = ⊥
AreAnswered values o (d ∷ drivers) [] = ⊥
AreAnswered values o (d ∷ drivers) (r ∷ own) = IsAnsweredBy (driver_call values o d) r × AreAnswered values o drivers own

-- The replies that a begin takes from the front of these: one for each of its drivers, as that driver may answer it.
pub record Replies (values : List Valued) (o : Opened) (before after : List ReplyContent) : Type 0 where
  pub back : before_call o after ≡ before
  pub answers : AreAnswered values o o.drivers (own_replies o after)

-- where a call succeeds, a driver has answered as many handles as are due of it, and none of them 0
abbrev pub HasHandles : Opened → Answered → Type 0
HasHandles o a = succeeds o.cmd o.code ≡ true → (length a.handles ≡ asked_of_each o.cmd (length o.results)) × IsTrue (are_handles a.handles)

-- an open call has the answers of its drivers
pub record IsSent (c : Sent) : Type 0 where
  pub drivers : map (λ a. a.driver) c.answers ≡ c.opened.drivers
  pub handles : AllByRecursion (HasHandles c.opened) c.answers

-- ---- a kept chain that stands for a trace

-- What is kept says the same as the judged past, its parts are those in force, its routes are the past's, and the open calls have their answers.
pub record Simulates (s : Setup) (k : ChainKept) (events : List TraceEvent) (replies : List ReplyContent) : Type 0 where
  pub chain : ChainStands k (judged s events) replies
  pub kinds : map kind_of k.states ≡ parts_in_force s (judged s events)
  pub fits : StopsFit (map kind_of k.states) (judged s events)
  pub routes : k.routes ≡ routes_in (births (history (judged s events))) (routed (judged s events))
  pub answers : AllByRecursion IsSent (sent (judged s events) replies)

-- ---- a begin

-- what the loader finds at a call
abbrev pub loader_finds : Past → Opened → List Failure
loader_finds past o = loader_failures (alive (history past)) (row_of o.cmd).params o.args

-- What a begin comes to: what is found is what the past says, a refused creation of an instance finds nothing, a call that passes goes to the drivers
-- of the past and is told to each of them as the past says, and what is kept then stands for the trace with the begin.
pub record GoesDown (s : Setup) (k : ChainKept) (events : List TraceEvent) (b : BeginEvent) (replies after : List ReplyContent) (o : Opened) : Type 0 where
  pub found : findings (checked s (judged s events) (call_of o)) ≡ found_by (loader_finds (judged s events) o) (walk_of k o).found
  pub refused : o.refused ≡ true → findings (checked s (judged s events) (call_of o)) ≡ nothing_found
  pub drivers : o.refused ≡ false → o.stop ≡ None → o.drivers ≡ drivers_at s.drivers k.routes (walk_of k o).bottom
  pub told : o.refused ≡ false → o.stop ≡ None → (driver : ℕ) → told_call k.terminator (walk_of k o).bottom driver ≡ driver_call (valued (judged s events) replies) o driver
  pub stands : Replies (valued (judged s events) replies) o replies after → Simulates s (after_begin k (loader_finds (judged s events) o) o) (Begin b ∷ events) after

-- ---- a return

-- a call that isn't skipped makes the instance, with which its chain comes in force
abbrev pub starts_chain : Opened → Bool
starts_chain o = same_command o.cmd cmd.CreateInstance && succeeds o.cmd o.code

-- the parts of the chain that comes in force at the return of a call, if one does, as they stand there
abbrev pub in_force : Setup → ChainKept → Opened → ChainKept
in_force s k o = if starts_chain o then with_parts k o (parts_of (s.outcome o.payload)) else k

-- the held call then
abbrev pub held_in_force : Setup → Opened → Held → Held
held_in_force s o h = if starts_chain o then with_forms o (parts_of (s.outcome o.payload)) h else h
