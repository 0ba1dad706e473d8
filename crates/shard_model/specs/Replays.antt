-- What is kept of a device is the replay of its log. Entries, events and replies stand newest first. Source: this project.
use Rattle.std.specs.Prelude.{◌≡◌, ◌==◌, ℕ, Bool, false, not, List, [], ◌∷◌, ◌++◌, filter, if◌then◌else◌, map}
use Rattle.std.specs.List.{AllByRecursion}
use Rattle.command_tables.specs.Calls.{CallContent, DriverCallContent, ReplyContent}
use Rattle.command_tables.specs.Tests.{same_command}
use Rattle.command_tables.specs.declared.types.CommandId.TheVariants as cmd
use Rattle.stream_log.specs.declared.line.Line.{Line}
use Rattle.trace_format.specs.Content.{BeginEvent, TraceEvent, Begin}
use Rattle.replay_model.specs.Direct.{driver_calls, valued}
use Rattle.replay_model.specs.Judged.{begun_of, judged}
use Rattle.replay_model.specs.Past.{Past, calls_in, is_skipped}
use Rattle.replay_model.specs.Setup.{Setup}
use Rattle.terminator.specs.Calls.{targets_of}
use Rattle.chain_model.specs.Gaps.{IsGapped}
use Rattle.chain_model.specs.Traces.{GivesGuarded}
use Rattle.dispatch_chain.specs.Holding.{HeldCalls}
use Rattle.lifetime_layer.specs.declared.verdict.Verdict.{Verdict}
use Rattle.session_model.specs.Stands.{AreRepliesTo}
use Rattle.stream_model.specs.FileParts.{StreamPart}
use Rattle.session_parts.specs.declared.parts.SessionParts.{SessionParts}
use Rattle.chain_session.specs.PartsStanding.{LeftCall, PartsStand}
use Rattle.shard_model.specs.Followed.{events_of}
use Rattle.shard_model.specs.Replies.{AreReplies, last_replies}

-- ---- what a device's log starts from

-- the parts of a session, and how many calls it had replayed
pub record Start : Type 0 where
  pub parts : SessionParts
  pub calls : ℕ

-- a start stands for the events of a trace and its replies, under a setup whose chains are guarded
pub record StartStands (start : Start) (s : Setup) (events : List TraceEvent) (replies : List ReplyContent) : Type 0 where
  pub guarded : GivesGuarded s
  pub parts : PartsStand s start.parts events replies []
  pub calls : calls_in (judged s events) ≡ start.calls

-- a begin doesn't make the instance
abbrev pub IsOnInstance : BeginEvent → Type 0
IsOnInstance b = same_command b.cmd cmd.CreateInstance ≡ false

-- ---- open calls

-- an open call as its begin left it: its form below the last part, what the parts hold of it, whether it is skipped, and what its drivers were told
pub record OpenStep : Type 0 where
  pub begin : BeginEvent
  pub call : CallContent
  pub held : HeldCalls
  pub skip : Bool
  pub told : List DriverCallContent

-- it is one of this thread
abbrev pub is_step_of : ℕ → OpenStep → Bool
is_step_of thread o = o.begin.thread == thread

-- none of these is of the thread
abbrev pub NoneOf : ℕ → List OpenStep → Type 0
NoneOf thread opens = AllByRecursion (λ o. is_step_of thread o ≡ false) opens

-- no two are of one thread
abbrev pub AreOfThreads : List OpenStep → Type 0
AreOfThreads [] = Unit {0}
AreOfThreads (o ∷ opens) = NoneOf o.begin.thread opens × AreOfThreads opens

-- those of the other threads
abbrev pub without_step : ℕ → List OpenStep → List OpenStep
without_step thread opens = filter (λ o. not (is_step_of thread o)) opens

-- an open call with what was replied to it
abbrev pub left_of : Past → List ReplyContent → OpenStep → LeftCall
left_of past replies o = record { begin = o.begin; call = o.call; held = o.held; skip = o.skip; replies = last_replies past replies o.begin.thread }

-- these are replies to what each open call told, by its thread
abbrev pub AllMay : (ℕ → List ReplyContent) → List OpenStep → Type 0
AllMay own opens = AllByRecursion (λ o. AreRepliesTo o.told (own o.begin.thread)) opens

-- replies of a log, of which each open call has these
pub record RepliesWith (s : Setup) (events : List TraceEvent) (first : List ReplyContent) (streams : List StreamPart) (entries : List Line) (opens : List OpenStep) (own : ℕ → List ReplyContent) : Type 0 where
  pub replies : List ReplyContent
  pub are : AreReplies s events first streams entries replies
  pub have : AllByRecursion (λ o. last_replies (judged s (events_of streams entries ++ events)) replies o.begin.thread ≡ own o.begin.thread) opens

-- ---- what is kept

-- Behind these events and replies and then the log, parts stand for all of it with these open calls, whatever is replied to them as they may be. There are such replies,
-- and any that the open calls may have are among them.
pub record IsReplayOf (s : Setup) (events : List TraceEvent) (first : List ReplyContent) (streams : List StreamPart) (entries : List Line) (x : SessionParts) (opens : List OpenStep) : Type 0 where
  pub stands : (replies : List ReplyContent) → AreReplies s events first streams entries replies
      → PartsStand s x (events_of streams entries ++ events) replies (map (left_of (judged s (events_of streams entries ++ events)) replies) opens)
  pub answered : (replies : List ReplyContent) → AreReplies s events first streams entries replies
      → AllMay (last_replies (judged s (events_of streams entries ++ events)) replies) opens
  pub some : List ReplyContent
  pub some_are : AreReplies s events first streams entries some
  pub any : (own : ℕ → List ReplyContent) → AllMay own opens → RepliesWith s events first streams entries opens own

-- The parts and open calls are the replay of a log along its plan from a start: they stand for the events of the log behind all events for which the start stands and
-- which these may follow.
abbrev pub IsReplay : Start → List StreamPart → List Line → SessionParts → List OpenStep → Type 0
IsReplay start streams entries x opens =
    (s : Setup) (events : List TraceEvent) (first : List ReplyContent) → StartStands start s events first → IsGapped (events_of streams entries ++ events) → IsReplayOf s events first streams entries x opens

-- ---- a begin

-- what the drivers are told of a call that entered: nothing where it is skipped
abbrev pub told_by : SessionParts → CallContent → Bool → List DriverCallContent
told_by new call skip = if skip then [] else targets_of new.terminator call

-- a call that entered, as its begin left it
abbrev pub open_step : BeginEvent → CallContent → HeldCalls → Verdict → SessionParts → OpenStep
open_step b call held verdict new = record { begin = b; call = call; held = held; skip = verdict.skip; told = told_by new call verdict.skip }

-- A begin behind a log is skipped so, and tells its drivers this: so it is in every trace in which it may stand, whatever is replied to the log's open calls.
pub record Tells (start : Start) (streams : List StreamPart) (entries : List Line) (b : BeginEvent) (skip : Bool) (told : List DriverCallContent) : Type 0 where
  pub skipped : (s : Setup) (events : List TraceEvent) (first : List ReplyContent) → StartStands start s events first → IsGapped (Begin b ∷ events_of streams entries ++ events)
      → skip ≡ is_skipped (begun_of s (judged s (events_of streams entries ++ events)) b).opened
  pub calls : (s : Setup) (events : List TraceEvent) (first replies : List ReplyContent) → StartStands start s events first → IsGapped (Begin b ∷ events_of streams entries ++ events)
      → AreReplies s events first streams entries replies
      → driver_calls (valued (judged s (events_of streams entries ++ events)) replies) (begun_of s (judged s (events_of streams entries ++ events)) b).opened ≡ told
