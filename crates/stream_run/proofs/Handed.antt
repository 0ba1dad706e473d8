-- What is handed to the workers of a run.
use Rattle.std.proofs.Common.{◌≡◌, ◌∙◌, ◌+◌, ◌*◌, ◌<◌, ◌≤◌, ℕ, Option, Vec, List, [], ◌∷◌, length, map, refl, sym, ap, subst, arith}
use Rattle.std.specs.List.{slice_index_or, sum_by}
use Rattle.std.proofs.lemmas.List.{length-map}
use Rattle.std.proofs.lemmas.List.Sums.{sum_by-cons}
use Rattle.atomic_table.specs.Seated.{TableId}
use Rattle.model_driver.specs.Logs.{Log}
use Rattle.model_driver.specs.Seats.{SeatRoom}
use Rattle.chain_session.specs.declared.kept.Kept.{Kept}
use Rattle.stream_model.specs.declared.limits.TheConstants.{MOST_DEVICES}
use Rattle.stream_model.specs.FileParts.{FileParts, StreamPart}
use Rattle.stream_model.specs.Plans.{DevicePlan, device_written}
use Rattle.merge_model.specs.Planned.{PlannedCall, calls_planned}
use Rattle.shard_start.specs.Cutting.{AreCutFrom}
use Rattle.device_shard.specs.declared.plan.Plan.{Plan}
use Rattle.device_shard.specs.Making.{AreNamedBy}
use Rattle.device_shard.specs.Plans.{plan_content}
use Rattle.device_shard.specs.Shards.{ShardName}
use Rattle.stream_crew.specs.Crews.{ArePlanned, AreReady, HaveRoom, HaveThreads}
use Rattle.stream_plans.specs.Cuts.{devices_cut}
use Rattle.stream_workers.specs.declared.worker.Worker.{Worker}
use Rattle.stream_workers.specs.Work.{HasDone, IsCourse, IsReadyFor, course}
use Rattle.stream_run.specs.declared.prepare.Prepared.{Prepared}
use Rattle.stream_run.specs.Naming.{CanRun}
use Rattle.stream_run.specs.Preparing.{IsPrepared, calls_of_file}
use Rattle.stream_run.specs.Working.{AllDone}
use Rattle.stream_run.proofs.Done.{all_done, as_many_seats, each_ready}

-- the draws of the places of calls
pub sum_seen : {A : Type 0} (places : List (Vec ℕ A)) → sum_by (λ (p : Vec ℕ A). 2 * length p.items) places ≡ sum_by (λ (p : List ℕ). 2 * length p) (map (λ (v : Vec ℕ A). v.items) places)
sum_seen [] = refl
sum_seen {A} (v ∷ places) =
    sum_by-cons (λ (p : Vec ℕ A). 2 * length p.items) v places
    ∙ (ap (λ (n : ℕ). 2 * length v.items + n) (sum_seen places) ∙ sym (sum_by-cons (λ (p : List ℕ). 2 * length p) v.items (map (λ (u : Vec ℕ A). u.items) places)))

-- there is a seat for each thread
pub seats_count : {S : Type 0} (room : S → SeatRoom) (file : FileParts) (p : Prepared) (seats : List S) → IsPrepared file p → HaveRoom room seats (calls_of_file file) → length seats ≡ length p.threads.items
seats_count room file p seats made have =
    let seated = as_many_seats room seats (calls_of_file file) have in
    let calls = length-map file.streams (λ (s : StreamPart). calls_planned (device_written file) (devices_cut file) s.events) in
    let threads = ap (λ (ts : List ℕ). length ts) made.threads in
    let own = length-map file.streams (λ (s : StreamPart). s.thread) in
    omega (arith, seated, calls, threads, own)

-- ---- the same plans, by other lists

pub ready_of : {S : Type 0} (room : S → SeatRoom) (names : List ShardName) (clock counts : TableId) (plans others : List DevicePlan) (calls : List (List PlannedCall)) (workers : List (Worker S)) → counts ≡ clock → others ≡ plans → AreReady room (course names counts others) calls workers
    → AreReady room (course names clock plans) calls workers
ready_of room names clock counts plans others calls workers timed same ready =
    subst (λ (ps : List DevicePlan). AreReady room (course names clock ps) calls workers) same (subst (λ (t : TableId). AreReady room (course names t others) calls workers) timed ready)

pub done_of : {S : Type 0} (room : S → SeatRoom) (log : S → Log) (names : List ShardName) (clock : TableId) (plans others : List DevicePlan) (calls : List (List PlannedCall)) (old was new : List (Worker S)) → others ≡ plans → was ≡ old
    → AreReady room (course names clock plans) calls old → length new ≡ length was
    → ((i : ℕ) (d : Worker S) → i < length was → (planned : List PlannedCall) → IsReadyFor room (course names clock others) planned (slice_index_or was i d)
    → HasDone room log (course names clock others) planned (slice_index_or was i d) (slice_index_or new i d))
    → AllDone room log (course names clock plans) calls old new
done_of {S} room log names clock plans others calls old was new same before ready count each =
    all_done room log (course names clock plans) calls old new ready (count ∙ ap (λ (ws : List (Worker S)). length ws) before) (
    subst (λ (ws : List (Worker S)). (i : ℕ) (d : Worker S) → i < length ws → (planned : List PlannedCall) → IsReadyFor room (course names clock plans) planned (slice_index_or ws i d)
    → HasDone room log (course names clock plans) planned (slice_index_or ws i d) (slice_index_or new i d)) before
    (subst (λ (ps : List DevicePlan). (i : ℕ) (d : Worker S) → i < length was → (planned : List PlannedCall) → IsReadyFor room (course names clock ps) planned (slice_index_or was i d)
    → HasDone room log (course names clock ps) planned (slice_index_or was i d) (slice_index_or new i d)) same each)
    )

-- what is needed of each worker
pub ready_each : {S : Type 0} (room : S → SeatRoom) (names : List ShardName) (clock : TableId) (plans others : List DevicePlan) (calls : List (List PlannedCall)) (old was : List (Worker S)) → others ≡ plans → was ≡ old → AreReady room (course names clock plans) calls old
    → (i : ℕ) (d : Worker S) → i < length was → (planned : List PlannedCall) × IsReadyFor room (course names clock others) planned (slice_index_or was i d)
ready_each {S} room names clock plans others calls old was same before ready =
    subst (λ (ws : List (Worker S)). (i : ℕ) (d : Worker S) → i < length ws → (planned : List PlannedCall) × IsReadyFor room (course names clock others) planned (slice_index_or ws i d)) (sym before)
    (subst (λ (ps : List DevicePlan). (i : ℕ) (d : Worker S) → i < length old → (planned : List PlannedCall) × IsReadyFor room (course names clock ps) planned (slice_index_or old i d)) (sym same) (each_ready room (course names clock plans) calls old ready))

-- ---- what can run, by lists that are the same

pub few_at : (k : Option Kept) (file : FileParts) (p : Prepared) (names : List ShardName) (plans : List Plan) → CanRun k file p names → plans ≡ p.plans.items → length plans ≤ MOST_DEVICES
few_at k file p names plans can same = subst (λ (ps : List Plan). length ps ≤ MOST_DEVICES) (sym same) can.few

pub cut_at : (k : Option Kept) (file : FileParts) (p : Prepared) (names : List ShardName) (plans : List Plan) → CanRun k file p names → plans ≡ p.plans.items → AreCutFrom k (map plan_content plans)
cut_at k file p names plans can same = subst (λ (ps : List Plan). AreCutFrom k (map plan_content ps)) (sym same) can.cut

pub named_at : (k : Option Kept) (file : FileParts) (p : Prepared) (names : List ShardName) (plans : List Plan) → CanRun k file p names → plans ≡ p.plans.items → AreNamedBy k (map plan_content plans) names
named_at k file p names plans can same = subst (λ (ps : List Plan). AreNamedBy k (map plan_content ps) names) (sym same) can.named

pub threads_at : (k : Option Kept) (file : FileParts) (p : Prepared) (names : List ShardName) (plans : List Plan) (threads : List ℕ) → CanRun k file p names → plans ≡ p.plans.items → threads ≡ p.threads.items → HaveThreads threads (map plan_content plans)
threads_at k file p names plans threads can same own = subst (λ (ps : List Plan). HaveThreads threads (map plan_content ps)) (sym same) (subst (λ (ts : List ℕ). HaveThreads ts (map plan_content p.plans.items)) (sym own) can.threads)

pub planned_at : (k : Option Kept) (file : FileParts) (p : Prepared) (names : List ShardName) (plans : List Plan) (threads : List ℕ) → CanRun k file p names → plans ≡ p.plans.items → threads ≡ p.threads.items → ArePlanned (map plan_content plans) threads (calls_of_file file)
planned_at k file p names plans threads can same own =
    subst (λ (ps : List Plan). ArePlanned (map plan_content ps) threads (calls_of_file file)) (sym same) (subst (λ (ts : List ℕ). ArePlanned (map plan_content p.plans.items) ts (calls_of_file file)) (sym own) can.planned)

pub course_at : (k : Option Kept) (file : FileParts) (p : Prepared) (names : List ShardName) (clock : TableId) (plans : List Plan) → CanRun k file p names → plans ≡ p.plans.items → IsCourse (course names clock (map plan_content plans))
course_at k file p names clock plans can same = record { plans = ap (λ (ps : List Plan). map plan_content ps) same ∙ sym can.plans; starts = can.starts }
