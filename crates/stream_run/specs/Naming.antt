-- The names of a run's shards, and what a run begins with. Source: this project.
use Rattle.std.specs.Prelude.{◌≡◌, ◌≤◌, Option, Some, None, List, [], ◌∷◌, length, map}
use Rattle.std.specs.List.{AllByRecursion}
use Rattle.atomic_table.specs.Seated.{TableId}
use Rattle.object_model.specs.declared.PartKind.{PartKind}
use Rattle.stream_model.specs.declared.limits.TheConstants.{MOST_DEVICES}
use Rattle.stream_model.specs.FileParts.{FileParts}
use Rattle.stream_model.specs.Plans.{DevicePlan}
use Rattle.chain_session.specs.declared.kept.Kept.{Kept}
use Rattle.chain_session.specs.Splitting.{kinds_in_force}
use Rattle.shard_start.specs.Cutting.{AreCutFrom, start_of}
use Rattle.shard_start.specs.Starting.{CanStart}
use Rattle.device_shard.specs.Making.{AreLogs, AreNamedBy}
use Rattle.device_shard.specs.Plans.{plan_content}
use Rattle.device_shard.specs.Shards.{ShardName}
use Rattle.stream_crew.specs.Crews.{ArePlanned, HaveThreads}
use Rattle.stream_workers.specs.Work.{AreRowsOf}
use Rattle.stream_run.specs.declared.prepare.Prepared.{Prepared}
use Rattle.stream_run.specs.Preparing.{calls_of_file}

-- each plan with its log, from what a session keeps
abbrev pub names_from : Kept → List DevicePlan → List TableId → List ShardName
names_from k [] logs = []
names_from k (p ∷ plans) [] = []
names_from k (p ∷ plans) (l ∷ logs) = record { log = l; plan = p; start = start_of k } ∷ names_from k plans logs

-- none before a session has begun
abbrev pub names_of : Option Kept → List DevicePlan → List TableId → List ShardName
names_of None plans logs = []
names_of (Some k) plans logs = names_from k plans logs

-- What the shards of a file with these names, and its workers, are made from.
pub record CanRun (k : Option Kept) (file : FileParts) (p : Prepared) (names : List ShardName) : Type 0 where
  pub few : length p.plans.items ≤ MOST_DEVICES
  pub cut : AreCutFrom k (map plan_content p.plans.items)
  pub logs : AreLogs names p.logs.items
  pub named : AreNamedBy k (map plan_content p.plans.items) names
  pub plans : map (λ (n : ShardName). n.plan) names ≡ map plan_content p.plans.items
  pub starts : AllByRecursion (λ (n : ShardName). CanStart n.start n.plan.streams) names
  pub threads : HaveThreads p.threads.items (map plan_content p.plans.items)
  pub places : length p.places.items ≡ length p.threads.items
  pub planned : ArePlanned (map plan_content p.plans.items) p.threads.items (calls_of_file file)
  pub rows : (rows : List PartKind) → rows ≡ kinds_in_force k → AreRowsOf rows names
