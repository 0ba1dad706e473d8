-- What the shards of a set are made from. Source: this project.
use Rattle.std.specs.Prelude.{◌≡◌, ◌≤◌, ⊤, ℕ, Option, Some, None, List, [], ◌∷◌, map}
use Rattle.std.specs.List.{flat_map, sum_by}
use Rattle.atomic_table.specs.Seated.{TableId}
use Rattle.stream_log.specs.Log.{OwnerView, SeenView, seen_view}
use Rattle.trace_format.specs.declared.event.Name.{Name}
use Rattle.stream_model.specs.FileParts.{StreamPart}
use Rattle.stream_model.specs.Plans.{DevicePlan}
use Rattle.chain_session.specs.declared.kept.Kept.{Kept}
use Rattle.shard_model.specs.Replays.{Start}
use Rattle.shard_start.specs.Cutting.{start_of}
use Rattle.shard_start.specs.Starting.{events_in}
use Rattle.device_shard.specs.Shards.{ShardName, results_at, threads_of}

-- how many results the calls of streams may bring
abbrev pub results_planned : List StreamPart → ℕ
results_planned streams = sum_by results_at (flat_map (λ (s : StreamPart). s.events) streams)

-- the owner of an empty log has room for all of a plan
pub record IsOwnerFor (n : ShardName) (o : OwnerView) : Type 0 where
  pub log : o.log ≡ n.log
  pub list : o.list ≡ []
  pub entries : events_in n.plan.streams ≤ o.entries
  pub results : results_planned n.plan.streams ≤ o.results

-- the owner of a plan's empty log holds the tokens of all its threads
pub record IsLogFor (n : ShardName) (l : TableId × OwnerView) : Type 0 where
  pub log : l.0 ≡ n.log
  pub owner : IsOwnerFor n l.1
  pub held : l.1.held ≡ threads_of n.plan.streams

-- so it is for each plan, in order
abbrev pub AreLogs : List ShardName → List (TableId × OwnerView) → Type 0
AreLogs [] [] = ⊤
AreLogs [] (l ∷ logs) = ⊥
AreLogs (n ∷ names) [] = ⊥
AreLogs (n ∷ names) (l ∷ logs) = IsLogFor n l × AreLogs names logs

-- a session that has begun gives this start
abbrev pub IsStartOf : Option Kept → Start → Type 0
IsStartOf None start = ⊥
IsStartOf (Some k) start = start ≡ start_of k

-- the shards are named by these plans, in order, each with the session's start
abbrev pub AreNamedBy : Option Kept → List DevicePlan → List ShardName → Type 0
AreNamedBy k [] [] = ⊤
AreNamedBy k [] (n ∷ names) = ⊥
AreNamedBy k (p ∷ plans) [] = ⊥
AreNamedBy k (p ∷ plans) (n ∷ names) = ((n.plan ≡ p) × IsStartOf k n.start) × AreNamedBy k plans names

-- a device with the token of a thread, which has seen nothing
abbrev pub tokens_of : ShardName → List (Name × SeenView)
tokens_of n = map (λ (s : StreamPart). (n.plan.device, seen_view n.log s.thread [])) n.plan.streams

-- the tokens of all threads, in the order of the plans and of their streams
abbrev pub tokens_given : List ShardName → List (Name × SeenView)
tokens_given names = flat_map tokens_of names
