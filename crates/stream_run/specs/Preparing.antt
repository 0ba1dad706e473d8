-- What is made ready before the first thread starts. Source: this project.
use Rattle.std.specs.Prelude.{◌≡◌, ◌*◌, ℕ, List, length, map}
use Rattle.std.specs.List.{AllByRecursion, sum_by}
use Rattle.stream_log.specs.Clock.{tick_view}
use Rattle.stream_model.specs.FileParts.{FileParts, StreamPart}
use Rattle.stream_model.specs.Plans.{DevicePlan, device_written, plan_cut}
use Rattle.merge_model.specs.Planned.{PlannedCall, calls_planned}
use Rattle.device_shard.specs.Making.{AreLogs}
use Rattle.device_shard.specs.Plans.{plan_content}
use Rattle.device_shard.specs.Sets.{logs_of}
use Rattle.device_shard.specs.Shards.{ShardName}
use Rattle.stream_crew.specs.Crews.{places_of}
use Rattle.stream_plans.specs.Cuts.{devices_cut}
use Rattle.stream_run.specs.declared.prepare.Prepared.{Prepared}

-- the calls of each stream of a file, each with the number of its device's plan
abbrev pub calls_of_file : FileParts → List (List PlannedCall)
calls_of_file file = map (λ (s : StreamPart). calls_planned (device_written file) (devices_cut file) s.events) file.streams

-- how many steps these calls are
abbrev pub steps_of : List (List ℕ) → ℕ
steps_of places = sum_by (λ (p : List ℕ). 2 * length p) places

-- A file's plans, the places of its calls, its threads, an empty log for each plan, and a clock with a draw for each step.
pub record IsPrepared (file : FileParts) (p : Prepared) : Type 0 where
  pub cut : AllByRecursion (λ (x : DevicePlan). x ≡ plan_cut file x.device) (map plan_content p.plans.items)
  pub devices : map (λ (x : DevicePlan). x.device) (map plan_content p.plans.items) ≡ devices_cut file
  pub places : map (λ v. v.items) p.places.items ≡ map places_of (calls_of_file file)
  pub threads : p.threads.items ≡ map (λ (s : StreamPart). s.thread) file.streams
  pub logs : (names : List ShardName) → map (λ (n : ShardName). n.plan) names ≡ map plan_content p.plans.items → logs_of names ≡ map (λ l. l.0) p.logs.items → AreLogs names p.logs.items
  pub count : length p.logs.items ≡ length p.plans.items
  pub tick : p.tick ≡ tick_view p.clock (steps_of (map (λ v. v.items) p.places.items)) 0
