-- What the laws below say, by name.
use Rattle.std.proofs.Common.{◌≡◌, ◌≤◌, ◌+◌, ℕ, Bool, true, false, Some, List, [], ◌∷◌, ◌++◌, length}
use Rattle.std.specs.Prelude.{find, vec_capacity}
use Rattle.command_tables.specs.Calls.{CallContent, ReplyContent, call_content}
use Rattle.command_tables.specs.Table.{row_of}
use Rattle.command_tables.specs.declared.call.LayerCall.{LayerCall}
use Rattle.stream_log.specs.Log.{line}
use Rattle.stream_log.specs.declared.line.Line.{Line}
use Rattle.trace_format.specs.Content.{BeginEvent, TraceEvent, Begin, Return}
use Rattle.replay_model.specs.Setup.{Setup}
use Rattle.lifetime_layer.specs.declared.verdict.Verdict.{Verdict}
use Rattle.terminator.specs.Calls.{drivers_for}
use Rattle.chain_model.specs.Gaps.{IsGapped}
use Rattle.dispatch_chain.specs.Holding.{HeldCalls}
use Rattle.dispatch_chain.specs.Seats.{kinds_of}
use Rattle.session_model.specs.Stands.{AreRepliesTo}
use Rattle.session_tables.specs.Lined.{owners_made}
use Rattle.stream_model.specs.FileParts.{StreamPart}
use Rattle.session_parts.specs.declared.parts.SessionParts.{SessionParts}
use Rattle.session_parts.specs.Entering.{CanEnter, Enters}
use Rattle.session_parts.specs.Leaving.{CanLeave, Leaves, opened_again}
use Rattle.session_parts.specs.Room.{HasRoomToEnter, HasRoomToLeave, LosesNoRoom, TakesResultsWith}
use Rattle.shard_model.specs.Followed.{Follows, begins_in, events_of, next_event}
use Rattle.shard_model.specs.Replies.{handles_of}
use Rattle.shard_model.specs.Replays.{AreOfThreads, IsOnInstance, IsReplay, NoneOf, OpenStep, Start, StartStands, Tells, is_step_of, open_step, told_by, without_step}
use Rattle.shard_room.specs.Needs.{IsWithin, Needs}
use Rattle.shard_room.specs.Room.{HasCallRoom, HasPlanRoom, IsBelow, is_among}
use Rattle.shard_start.specs.Starting.{CanStart, IsOnDevice, IsPassedOn}

-- ---- a begin

abbrev pub MayBegin : Type 0
MayBegin =
    (start : Start) (streams : List StreamPart) (entries : List Line) (x : SessionParts) (opens : List OpenStep) (b : BeginEvent) (s : Setup) (events : List TraceEvent) (first : List ReplyContent) → StartStands start s events first →
    IsGapped (Begin b ∷ events_of streams entries ++ events) → IsReplay start streams entries x opens → Follows streams entries → IsOnInstance b → CanEnter x (start.calls + begins_in entries + 1) b

abbrev pub ReplaysBegin : Type 0
ReplaysBegin =
    (start : Start) (streams : List StreamPart) (entries : List Line) (x y : SessionParts) (opens : List OpenStep) (b : BeginEvent) (time : ℕ) (call : CallContent) (held : HeldCalls) (verdict : Verdict) →
    IsReplay start streams entries x opens → Follows streams entries → next_event streams b.thread entries ≡ Some (Begin b) → IsOnInstance b → NoneOf b.thread opens → Enters x (start.calls + begins_in entries + 1) b call held verdict y →
    IsReplay start streams (line b.thread time true [] ∷ entries) y (open_step b call held verdict y ∷ opens)

abbrev pub TellsBegin : Type 0
TellsBegin =
    (start : Start) (streams : List StreamPart) (entries : List Line) (x y : SessionParts) (opens : List OpenStep) (b : BeginEvent) (call : CallContent) (held : HeldCalls) (verdict : Verdict) →
    IsReplay start streams entries x opens → Follows streams entries → next_event streams b.thread entries ≡ Some (Begin b) → IsOnInstance b → NoneOf b.thread opens → Enters x (start.calls + begins_in entries + 1) b call held verdict y →
    Tells start streams entries b verdict.skip (told_by y call verdict.skip)

abbrev pub RoomEnters : Type 0
RoomEnters =
    (n : Needs) (threads : List ℕ) (due : ℕ) (x : SessionParts) (number : ℕ) (b : BeginEvent) (call : LayerCall) (held : HeldCalls) (findings : ℕ) →
    HasPlanRoom n threads due x → HasCallRoom n (length x.states.kept) call held findings → IsWithin n b → is_among b.thread threads ≡ true → CanEnter x number b → HasRoomToEnter x number b call held findings

abbrev pub RoomStays : Type 0
RoomStays =
    (n : Needs) (threads : List ℕ) (due : ℕ) (x y : SessionParts) (number : ℕ) (b : BeginEvent) (call below : LayerCall) (held after : HeldCalls) (findings : ℕ) (before verdict : Verdict) →
    HasPlanRoom n threads due x → IsWithin n b → is_among b.thread threads ≡ true → CanEnter x number b → Enters x number b (call_content below) after verdict y → LosesNoRoom x call held before y below after verdict →
    HasPlanRoom n threads due y

abbrev pub ThreadStays : Type 0
ThreadStays =
    (n : Needs) (parts : ℕ) (x y : SessionParts) (call below : LayerCall) (held after : HeldCalls) (before verdict : Verdict) →
    HasCallRoom n parts call held (vec_capacity before.findings) → LosesNoRoom x call held before y below after verdict → HasCallRoom n parts below after (vec_capacity verdict.findings)

abbrev pub PartsStay : Type 0
PartsStay = (x y : SessionParts) → kinds_of y.states.kept ≡ kinds_of x.states.kept → length y.states.kept ≡ length x.states.kept

abbrev pub OneDriver : Type 0
OneDriver =
    (start : Start) (streams : List StreamPart) (entries : List Line) (x y : SessionParts) (opens : List OpenStep) (b : BeginEvent) (call : CallContent) (held : HeldCalls) (verdict : Verdict) →
    CanStart start streams → IsReplay start streams entries x opens → Follows streams entries → next_event streams b.thread entries ≡ Some (Begin b) → NoneOf b.thread opens → IsOnDevice (Begin b) →
    Enters x (start.calls + begins_in entries + 1) b call held verdict y → verdict.skip ≡ false → length (drivers_for y.terminator call) ≡ 1

abbrev pub Passed : Type 0
Passed =
    (start : Start) (streams : List StreamPart) (entries : List Line) (x y : SessionParts) (opens : List OpenStep) (b : BeginEvent) (call : CallContent) (held : HeldCalls) (verdict : Verdict) →
    CanStart start streams → IsReplay start streams entries x opens → Follows streams entries → next_event streams b.thread entries ≡ Some (Begin b) → NoneOf b.thread opens → IsOnDevice (Begin b) →
    Enters x (start.calls + begins_in entries + 1) b call held verdict y → verdict.skip ≡ false → IsPassedOn b call

-- ---- a return

abbrev pub MayReturn : Type 0
MayReturn =
    (start : Start) (streams : List StreamPart) (entries : List Line) (x : SessionParts) (opens : List OpenStep) (thread : ℕ) (o : OpenStep) (own : List ReplyContent) (s : Setup) (events : List TraceEvent) (first : List ReplyContent) →
    StartStands start s events first → IsGapped (events_of streams entries ++ events) → IsReplay start streams entries x opens → find (is_step_of thread) opens ≡ Some o → AreOfThreads opens → IsOnInstance o.begin → AreRepliesTo o.told own →
    CanLeave x o.begin o.call o.held o.skip own

abbrev pub ReplaysReturn : Type 0
ReplaysReturn =
    (start : Start) (streams : List StreamPart) (entries : List Line) (x y : SessionParts) (opens : List OpenStep) (thread time : ℕ) (o : OpenStep) (own : List ReplyContent) (count : ℕ) →
    IsReplay start streams entries x opens → next_event streams thread entries ≡ Some (Return thread) → find (is_step_of thread) opens ≡ Some o → AreOfThreads opens → IsOnInstance o.begin → AreRepliesTo o.told own →
    Leaves x o.begin o.call o.held o.skip own y count → IsReplay start streams (line thread time false (handles_of own) ∷ entries) y (without_step thread opens)

abbrev pub RoomLeaves : Type 0
RoomLeaves =
    (n : Needs) (threads : List ℕ) (due : ℕ) (x : SessionParts) (b : BeginEvent) (call : CallContent) (skip : Bool) (results : ℕ) →
    HasPlanRoom n threads due x → IsWithin n b → length b.results ≤ due → length b.results ≤ results → (skip ≡ false → IsBelow b call x) →
    (skip ≡ false → length (owners_made x.names.kept.births (opened_again x b call).args (row_of b.cmd).effect) ≤ 3) → HasRoomToLeave x b call skip results

abbrev pub RoomTaken : Type 0
RoomTaken =
    (n : Needs) (threads : List ℕ) (rest : ℕ) (x y : SessionParts) (b : BeginEvent) (call : CallContent) (held : HeldCalls) (skip : Bool) (own : List ReplyContent) (count : ℕ) →
    HasPlanRoom n threads (length b.results + rest) x → IsWithin n b → (skip ≡ false → IsBelow b call x) →
    (skip ≡ false → length (owners_made x.names.kept.births (opened_again x b call).args (row_of b.cmd).effect) ≤ 3) →
    CanLeave x b call held skip own → Leaves x b call held skip own y count → TakesResultsWith x b call skip y → kinds_of y.states.kept ≡ kinds_of x.states.kept → HasPlanRoom n threads rest y

abbrev pub FewOwners : Type 0
FewOwners =
    (start : Start) (streams : List StreamPart) (entries : List Line) (x : SessionParts) (opens : List OpenStep) (thread : ℕ) (o : OpenStep) (own : List ReplyContent) →
    CanStart start streams → IsReplay start streams entries x opens → Follows streams entries → find (is_step_of thread) opens ≡ Some o → AreOfThreads opens → AreRepliesTo o.told own → o.skip ≡ false →
    length (owners_made x.names.kept.births (opened_again x o.begin o.call).args (row_of o.begin.cmd).effect) ≤ 3

abbrev pub SameDrivers : Type 0
SameDrivers =
    (start : Start) (streams : List StreamPart) (entries : List Line) (x : SessionParts) (opens : List OpenStep) (thread : ℕ) (o : OpenStep) (own : List ReplyContent) →
    CanStart start streams → IsReplay start streams entries x opens → Follows streams entries → find (is_step_of thread) opens ≡ Some o → AreOfThreads opens → AreRepliesTo o.told own → o.skip ≡ false →
    length (drivers_for x.terminator o.call) ≡ length o.told

abbrev pub StillApart : Type 0
StillApart = (thread : ℕ) (opens : List OpenStep) → AreOfThreads opens → AreOfThreads (without_step thread opens)

abbrev pub NoneLeft : Type 0
NoneLeft = (thread : ℕ) (opens : List OpenStep) → NoneOf thread (without_step thread opens)
