-- What a trace has of one device: its setup and the events on this device, with the replies to their calls. Events and replies stand newest first. Source: this project.
use Rattle.std.specs.Prelude.{◌≡◌, ℕ, Bool, true, false, Some, List, [], ◌∷◌, ◌++◌, length, reverse, take}
use Rattle.std.specs.List.{AllByRecursion}
use Rattle.command_tables.specs.Calls.{ReplyContent}
use Rattle.trace_format.specs.declared.event.Name.{Name}
use Rattle.trace_format.specs.Content.{BeginEvent, TraceEvent, Begin, Return}
use Rattle.trace_format.specs.Grammar.{IsEvent}
use Rattle.replay_model.specs.Direct.{before_call}
use Rattle.replay_model.specs.Judged.{begun_of, judged}
use Rattle.replay_model.specs.Setup.{Setup}
use Rattle.chain_model.specs.Traces.{GivesGuarded}
use Rattle.stream_model.specs.FileLines.{FileLine}
use Rattle.stream_model.specs.FileParts.{AreInOrder, FileParts, parts}
use Rattle.stream_model.specs.Order.{device_named, events, same_device}
use Rattle.stream_model.specs.Plans.{Along, device_written, events_along, next_turn}
use Rattle.merge_model.specs.Merges.{events_on}

-- the events behind some turns of the threads of a file's streams: its setup and then those of the turns
abbrev pub merged_so_far : FileParts → List ℕ → List TraceEvent
merged_so_far file turns = events_along file.streams turns ++ reverse file.setup

-- the same, but of the turns only the events that are on a device
abbrev pub device_so_far : FileParts → Name → List ℕ → List TraceEvent
device_so_far file device turns = events_on (device_written file) device (events_along file.streams turns) ++ reverse file.setup

-- a call is on a device
abbrev pub is_call_on : FileParts → Name → BeginEvent → Bool
is_call_on file device b = same_device (device_named (device_written file) b.cmd b.args) (Some device)

-- the replies of the calls before an event, and of this event's call where it is on the device
abbrev pub with_own : Bool → ℕ → List ReplyContent → List ReplyContent → List ReplyContent
with_own true sends replies before = take sends replies ++ before
with_own false sends replies before = before

-- of the replies behind such events, which come after others, those to calls on a device, and all that came before them
abbrev pub replies_on : Setup → FileParts → Name → List TraceEvent → List TraceEvent → List ReplyContent → List ReplyContent
replies_on s file device before [] replies = replies
replies_on s file device before (Begin b ∷ es) replies =
    let o = (begun_of s (judged s (es ++ before)) b).opened in
    with_own (is_call_on file device b) (length o.drivers) replies (replies_on s file device before es (before_call o replies))
replies_on s file device before (Return thread ∷ es) replies = replies_on s file device before es replies

-- the replies behind some turns that a device's events have
abbrev pub device_replies : Setup → FileParts → Name → List ℕ → List ReplyContent → List ReplyContent
device_replies s file device turns replies = replies_on s file device (reverse file.setup) (events_along file.streams turns) replies

-- A call of a stream on a device comes next for its thread behind some turns of the threads. The file's lines are in order, its events are of the grammar, and the
-- setup's chains are guarded.
pub record ComesOn (s : Setup) (lines : List FileLine) (device : Name) (turns : List ℕ) (b : BeginEvent) : Type 0 where
  pub guarded : GivesGuarded s
  pub order : AreInOrder lines
  pub grammar : AllByRecursion IsEvent (events lines)
  pub along : Along (parts lines).streams turns
  pub next : next_turn (parts lines).streams b.thread turns ≡ Some (Begin b)
  pub on : is_call_on (parts lines) device b ≡ true
