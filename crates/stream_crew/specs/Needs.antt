-- How much the calls of a stream have at most. Source: this project.
use Rattle.std.specs.Prelude.{◌≤◌, ⊤, ℕ, List, [], length, slice_get}
use Rattle.std.specs.List.{AllByRecursion}
use Rattle.std.specs.Option.{option_map_or}
use Rattle.trace_format.specs.Content.{BeginEvent, TraceEvent, Begin, Return}
use Rattle.stream_model.specs.FileParts.{StreamPart}
use Rattle.stream_model.specs.Plans.{DevicePlan}
use Rattle.shard_room.specs.Needs.{names_at, names_in}
use Rattle.stream_crew.specs.declared.needs.Most.{Most}

-- a begin has no more, and six parameters at most
pub record IsBelow (m : Most) (b : BeginEvent) : Type 0 where
  pub params : length b.args ≤ 6
  pub handles : names_in (names_at b) ≤ m.handles
  pub results : length b.results ≤ m.results
  pub bytes : length b.payload ≤ m.bytes

-- an event has no more, if it is a begin
abbrev pub IsBelowAt : Most → TraceEvent → Type 0
IsBelowAt m (Begin b) = IsBelow m b
IsBelowAt m (Return thread) = ⊤

-- what has no more than the old has no more than the new
pub record IsMore (old new : Most) : Type 0 where
  pub handles : old.handles ≤ new.handles
  pub results : old.results ≤ new.results
  pub bytes : old.bytes ≤ new.bytes

-- the events of the stream with a number: none where a plan has no such stream
abbrev pub events_at : ℕ → DevicePlan → List TraceEvent
events_at number p = option_map_or (λ (s : StreamPart). s.events) (slice_get p.streams number) []

-- no call of that stream has more, in none of the plans
abbrev pub AreBelow : Most → ℕ → List DevicePlan → Type 0
AreBelow m number plans = AllByRecursion (λ (p : DevicePlan). AllByRecursion (IsBelowAt m) (events_at number p)) plans
