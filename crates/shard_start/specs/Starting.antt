-- What a plan can be followed from. Events stand newest first but in plans, where they stand oldest first. Source: this project.
use Rattle.std.specs.Prelude.{◌≡◌, ◌+◌, ◌<◌, ◌^◌, ⊤, ℕ, false, nat_eq, List, [], ◌∷◌, ◌++◌, length, map}
use Rattle.std.specs.List.{AllByRecursion, IsDistinct, flat_map}
use Rattle.command_tables.specs.Calls.{CallContent, ReplyContent}
use Rattle.command_tables.specs.Table.{row_of}
use Rattle.stream_log.specs.declared.line.Line.{Line}
use Rattle.trace_format.specs.Content.{BeginEvent, TraceEvent, Begin, Return}
use Rattle.replay_model.specs.Setup.{Setup}
use Rattle.chain_model.specs.Gaps.{IsGapped}
use Rattle.stream_model.specs.FileParts.{StreamPart}
use Rattle.stream_model.specs.Order.{is_on_no_device}
use Rattle.shard_model.specs.Followed.{Follows, events_of}
use Rattle.shard_model.specs.Replays.{Start, StartStands}

-- the event is no begin of a call without a device
abbrev pub IsOnDevice : TraceEvent → Type 0
IsOnDevice (Begin b) = is_on_no_device (row_of b.cmd).params ≡ false
IsOnDevice (Return thread) = ⊤

-- each begin is followed by a return at once, and each return follows a begin
abbrev pub ArePairs : List TraceEvent → Type 0
ArePairs [] = ⊤
ArePairs (Return thread ∷ events) = ⊥
ArePairs (Begin b ∷ []) = ⊥
ArePairs (Begin b ∷ Begin c ∷ events) = ⊥
ArePairs (Begin b ∷ Return thread ∷ events) = ArePairs events

-- how many events streams have
abbrev pub events_in : List StreamPart → ℕ
events_in streams = length (flat_map (λ (s : StreamPart). s.events) streams)

-- A plan can be followed from a start: that stands for events, and the events of every log along the plan may follow these. Its threads are distinct, each stream is
-- made of calls on a device, and the numbers of its calls fit 32 bits.
pub record CanStart (start : Start) (streams : List StreamPart) : Type 0 where
  pub setup : Setup
  pub events : List TraceEvent
  pub replies : List ReplyContent
  pub stands : StartStands start setup events replies
  pub goes_on : (entries : List Line) → Follows streams entries → IsGapped (events_of streams entries ++ events)
  pub distinct : IsDistinct nat_eq (map (λ (s : StreamPart). s.thread) streams)
  pub on_device : AllByRecursion (λ (s : StreamPart). AllByRecursion IsOnDevice s.events) streams
  pub pairs : AllByRecursion (λ (s : StreamPart). ArePairs s.events) streams
  pub few : start.calls + events_in streams < 2 ^ 32

-- a call below the last part is that of a begin: in other handles, as many at each parameter
pub record IsPassedOn (b : BeginEvent) (call : CallContent) : Type 0 where
  pub cmd : call.cmd ≡ b.cmd
  pub bytes : call.payload ≡ b.payload
  pub asked : call.asked ≡ length b.results
  pub sizes : map (λ (hs : List ℕ). length hs) call.args ≡ map (λ a. length a.names) b.args
