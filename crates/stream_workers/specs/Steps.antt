-- A step of a thread under a device's lock. Source: this project.
use Rattle.std.specs.Prelude.{◌≡◌, ◌<◌, ℕ, true, false, List, [], ◌∷◌, ◌++◌, reverse}
use Rattle.std.specs.Option.{is_none}
use Rattle.command_tables.specs.Calls.{DriverCallContent, ReplyContent}
use Rattle.stream_log.specs.declared.line.Line.{Line}
use Rattle.stream_log.specs.Log.{IsPast, SeenView, line, seen_view}
use Rattle.trace_format.specs.Content.{TraceEvent}
use Rattle.shard_model.specs.Replays.{Tells}
use Rattle.device_shard.specs.declared.begun.Begun.{Begun}
use Rattle.device_shard.specs.Shards.{ShardName}
use Rattle.device_shard.specs.Steps.{AreResults, IsDriverOf, IsToldOf, OfBegin, told_as}

-- A begin was made a step of the thread of a token, at a time above this one: behind a log that goes on from what the token had seen without the thread. Whether it is
-- skipped and what is told is known by this log.
pub record BeginsAt (n : ShardName) (seen : SeenView) (e : TraceEvent) (told : DriverCallContent) (from : ℕ) (b : Begun) : Type 0 where
  pub before : List Line
  pub past : IsPast seen.thread seen.list before
  pub later : from < b.time
  pub token : b.seen ≡ seen_view n.log seen.thread (before ++ line seen.thread b.time true [] ∷ [])
  pub driver : IsDriverOf b.driver told
  pub told_is : is_none b.driver ≡ false → OfBegin (λ x. IsToldOf x told) e
  pub tells : OfBegin (λ x. Tells n.start n.plan.streams (reverse before) x (is_none b.driver) (told_as b.driver told)) e

-- So was a return, whose entry has the results that the reply gives it.
pub record ReturnsAt (n : ShardName) (seen : SeenView) (reply : ReplyContent) (from : ℕ) (time : ℕ) (token : SeenView) : Type 0 where
  pub until : List Line
  pub past : IsPast seen.thread seen.list until
  pub later : from < time
  pub results : List ℕ
  pub token_is : token ≡ seen_view n.log seen.thread (until ++ line seen.thread time false results ∷ [])
  pub are : AreResults n seen reply results
