-- The replies of the drivers to the calls of a log. Entries, events and replies stand newest first. Source: this project.
use Rattle.std.specs.Prelude.{◌≡◌, ℕ, if◌then◌else◌, Option, Some, None, List, [], ◌∷◌, ◌++◌, reverse}
use Rattle.std.specs.List.{flat_map}
use Rattle.command_tables.specs.Calls.{ReplyContent}
use Rattle.stream_log.specs.declared.line.Line.{Line}
use Rattle.trace_format.specs.Content.{BeginEvent, TraceEvent, Begin, Return}
use Rattle.replay_model.specs.Direct.{before_call, driver_calls, own_replies, valued}
use Rattle.replay_model.specs.Judged.{begun_of, judged}
use Rattle.replay_model.specs.Past.{Began, Past, Returned, is_of}
use Rattle.replay_model.specs.Setup.{Setup}
use Rattle.session_model.specs.Stands.{AreRepliesTo}
use Rattle.stream_model.specs.FileParts.{StreamPart}
use Rattle.shard_model.specs.Followed.{events_of, next_event}

-- what was replied to the last call of a thread, in the order of its drivers: nothing where it was skipped
abbrev pub last_replies : Past → List ReplyContent → ℕ → List ReplyContent
last_replies [] replies thread = []
last_replies (Began e o reports ∷ past) replies thread = if is_of thread o then own_replies o replies else last_replies past (before_call o replies) thread
last_replies (Returned o made ∷ past) replies thread = last_replies past replies thread

-- the handles of replies, in order
abbrev pub handles_of : List ReplyContent → List ℕ
handles_of replies = flat_map (λ r. r.handles) replies

-- A call begins behind this past. Its drivers reply as they may, and what was replied before it is of this kind.
pub record BeginReplies (s : Setup) (past : Past) (b : BeginEvent) (Before : List ReplyContent → Type 0) (replies : List ReplyContent) : Type 0 where
  pub before : List ReplyContent
  pub own : List ReplyContent
  pub earlier : Before before
  pub may : AreRepliesTo (driver_calls (valued past before) (begun_of s past b).opened) own
  pub are : replies ≡ reverse own ++ before

-- the replies behind one entry more, which is the step of this event: at a begin its drivers reply as they may, and at a return the entry has all handles that
-- were replied to the call
abbrev pub RepliesAt : Setup → Past → Line → Option TraceEvent → (List ReplyContent → Type 0) → List ReplyContent → Type 0
RepliesAt s past e None Before replies = ⊥
RepliesAt s past e (Some (Begin b)) Before replies = BeginReplies s past b Before replies
RepliesAt s past e (Some (Return thread)) Before replies = Before replies × (handles_of (last_replies past replies thread) ≡ e.results)

-- Events with these replies, and then a log: these are the replies so far. To those calls of the log that aren't skipped their drivers replied with the results
-- that stand at their returns, and to those that are open as they may.
abbrev pub AreReplies : Setup → List TraceEvent → List ReplyContent → List StreamPart → List Line → List ReplyContent → Type 0
AreReplies s events first streams [] replies = replies ≡ first
AreReplies s events first streams (e ∷ before) replies =
    RepliesAt s (judged s (events_of streams before ++ events)) e (next_event streams e.thread before) (AreReplies s events first streams before) replies
