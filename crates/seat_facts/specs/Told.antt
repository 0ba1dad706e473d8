-- What the drivers are told by the calls of one thread. Events and replies stand newest first. Source: this project.
use Rattle.std.specs.Prelude.{◌≡◌, ◌==◌, ℕ, if◌then◌else◌, List, [], ◌∷◌, ◌++◌}
use Rattle.command_tables.specs.Calls.{DriverCallContent, ReplyContent}
use Rattle.trace_format.specs.Content.{TraceEvent, Begin, Return}
use Rattle.replay_model.specs.Direct.{before_call, driver_calls, exchanges_at, own_replies, valued}
use Rattle.replay_model.specs.Judged.{begun_of, judged}
use Rattle.replay_model.specs.Setup.{Setup}
use Rattle.session_model.specs.Stands.{AreRepliesTo}

-- the driver calls of a thread's begins among these events, which come behind others, each with its reply, the oldest first
abbrev pub told_by_thread : Setup → ℕ → List TraceEvent → List TraceEvent → List ReplyContent → List (DriverCallContent × ReplyContent)
told_by_thread s thread before [] replies = []
told_by_thread s thread before (Begin b ∷ es) replies =
    let past = judged s (es ++ before) in
    told_by_thread s thread before es (before_call (begun_of s past b).opened replies) ++ (if b.thread == thread then exchanges_at s past (Begin b) replies else [])
told_by_thread s thread before (Return t ∷ es) replies = told_by_thread s thread before es replies

-- behind events with their replies come these events, and the replies are one more for each of their driver calls, as a driver may reply to it
abbrev pub AreAnswered : Setup → List TraceEvent → List ReplyContent → List TraceEvent → List ReplyContent → Type 0
AreAnswered s before first [] replies = replies ≡ first
AreAnswered s before first (Begin b ∷ es) replies =
    let past = judged s (es ++ before) in
    let o = (begun_of s past b).opened in
    AreRepliesTo (driver_calls (valued past (before_call o replies)) o) (own_replies o replies) × AreAnswered s before first es (before_call o replies)
AreAnswered s before first (Return t ∷ es) replies = AreAnswered s before first es replies
