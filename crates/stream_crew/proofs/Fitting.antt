-- The calls of a stream are among the events of its plans.
use Rattle.std.proofs.Common.{◌≡◌, ◌==◌, ◌<◌, ℕ, zero, suc, Bool, true, false, cond, nat_eq, Option, Some, List, [], ◌∷◌, length, map, refl, sym, ◌∙◌, ap, subst, arith}
use Rattle.std.specs.Prelude.{slice_get}
use Rattle.std.specs.List.{AllByRecursion, IsDistinct}
use Rattle.std.specs.Option.{option_map_or}
use Rattle.std.proofs.lemmas.Bool.{eq-eqb}
use Rattle.stream_model.specs.FileParts.{StreamPart}
use Rattle.stream_model.specs.Plans.{DevicePlan, events_planned}
use Rattle.shard_start.specs.Starting.{CanStart}
use Rattle.device_shard.specs.Shards.{ShardName, threads_of}
use Rattle.device_shard.proofs.Lists.{all_at, one}
use Rattle.device_shard.proofs.Planned.{planned_at}
use Rattle.merge_model.specs.Planned.{PlannedCall, calls_at, events_of_calls}
use Rattle.stream_workers.specs.declared.worker.Worker.{Worker}
use Rattle.stream_workers.specs.Work.{AllFit, OwnsStream}
use Rattle.stream_crew.specs.declared.needs.Most.{Most}
use Rattle.stream_crew.specs.Crews.{ArePlannedFor, HaveThreads}
use Rattle.stream_crew.specs.Needs.{AreBelow, IsBelow, IsBelowAt, events_at}
use Rattle.stream_crew.specs.Making.{IsNewWorker}

-- ---- the stream of a thread

-- a thread with a place has a stream there
pub record StreamAt (streams : List StreamPart) (k thread : ℕ) : Type 0 where
  pub stream : StreamPart
  pub at : slice_get streams k ≡ Some stream
  pub own : stream.thread ≡ thread

pub stream_at : (streams : List StreamPart) (threads : List ℕ) (k thread : ℕ) → threads_of streams ≡ threads → slice_get threads k ≡ Some thread → StreamAt streams k thread
stream_at [] [] k thread have at = cc at
stream_at [] (t ∷ threads) k thread have at = cc have
stream_at (s ∷ streams) [] k thread have at = cc have
stream_at (s ∷ streams) (t ∷ threads) zero thread have at = let here : s.thread ≡ t = cc have in record { stream = s; at = refl; own = here ∙ one t thread at }
stream_at (s ∷ streams) (t ∷ threads) (suc k) thread have at =
    let later : threads_of streams ≡ threads = cc have in
    let rest = stream_at streams threads k thread later at in
    record { stream = rest.stream; at = rest.at; own = rest.own }

-- the events there are those that are planned for the thread
pub planned_there : (p : DevicePlan) (threads : List ℕ) (k thread : ℕ) → threads_of p.streams ≡ threads → IsDistinct nat_eq (threads_of p.streams) → slice_get threads k ≡ Some thread → events_at k p ≡ events_planned p.streams thread
planned_there p threads k thread have apart at =
    let here = stream_at p.streams threads k thread have at in
    ap (λ (o : Option StreamPart). option_map_or (λ (s : StreamPart). s.events) o []) here.at ∙ sym (planned_at p.streams k here.stream thread apart here.at here.own)

pub owns : (names : List ShardName) (threads : List ℕ) (k thread : ℕ) → HaveThreads threads (map (λ (n : ShardName). n.plan) names) → AllByRecursion (λ (n : ShardName). CanStart n.start n.plan.streams) names → slice_get threads k ≡ Some thread
    → OwnsStream names thread k
owns [] threads k thread have starts at = tt
owns (n ∷ names) threads k thread have starts at = (planned_there n.plan threads k thread have.0 starts.0.distinct at, owns names threads k thread have.1 starts.1 at)

-- ---- room

-- what the events of the calls at each plan need is all that the calls need
calls_below : (m : Most) (t bound : ℕ) (calls : List PlannedCall) → ((k : ℕ) → k < bound → AllByRecursion (IsBelowAt m) (events_of_calls t (calls_at k calls))) → AllByRecursion (λ (c : PlannedCall). c.place < bound) calls
    → AllByRecursion (λ (c : PlannedCall). IsBelow m c.begin) calls
calls_below m t bound [] all within = tt
calls_below m t bound (c ∷ calls) all within =
    let here : AllByRecursion (IsBelowAt m) (events_of_calls t (c ∷ calls_at c.place calls)) =
    subst (λ (b : Bool). AllByRecursion (IsBelowAt m) (events_of_calls t (cond b (c ∷ calls_at c.place calls) (calls_at c.place calls)))) (eq-eqb c.place c.place refl) (all c.place within.0) in (
      here.0,
      calls_below m t bound calls (λ k less. rest k (c.place == k) (all k less)) within.1,
    )
  where
    rest : (k : ℕ) (b : Bool) → AllByRecursion (IsBelowAt m) (events_of_calls t (cond b (c ∷ calls_at k calls) (calls_at k calls))) → AllByRecursion (IsBelowAt m) (events_of_calls t (calls_at k calls))
    rest k true all = all.1.1
    rest k false all = all

-- a plan at each place
plan_at : (plans : List DevicePlan) (k : ℕ) → k < length plans → (p : DevicePlan) × (slice_get plans k ≡ Some p)
plan_at [] k less = absurd (omega (arith, less))
plan_at (p ∷ plans) zero less = (p, refl)
plan_at (p ∷ plans) (suc k) less = plan_at plans k (omega (arith, less))

-- no call needs more than was measured
pub all_below : (m : Most) (plans : List DevicePlan) (threads : List ℕ) (number thread : ℕ) (calls : List PlannedCall) → AreBelow m number plans → HaveThreads threads plans → AllByRecursion (λ (p : DevicePlan). IsDistinct nat_eq (threads_of p.streams)) plans
    → slice_get threads number ≡ Some thread → ArePlannedFor plans thread calls → AllByRecursion (λ (c : PlannedCall). IsBelow m c.begin) calls
all_below m plans threads number thread calls below have apart at planned =
    calls_below m thread (length plans) calls (
    λ k less.
    let p = plan_at plans k less in
    let same : events_at number p.0 ≡ events_of_calls thread (calls_at k calls) =
    planned_there p.0 threads number thread (all_at (λ (q : DevicePlan). threads_of q.streams ≡ threads) plans k p.0 have p.1) (all_at (λ (q : DevicePlan). IsDistinct nat_eq (threads_of q.streams)) plans k p.0 apart p.1) at ∙ planned.each k p.0 p.1 in
    subst (AllByRecursion (IsBelowAt m)) same (all_at (λ (q : DevicePlan). AllByRecursion (IsBelowAt m) (events_at number q)) plans k p.0 below p.1)
    ) planned.within

-- the threads of each plan are distinct, where each can be followed
pub apart_of : (names : List ShardName) → AllByRecursion (λ (n : ShardName). CanStart n.start n.plan.streams) names → AllByRecursion (λ (p : DevicePlan). IsDistinct nat_eq (threads_of p.streams)) (map (λ (n : ShardName). n.plan) names)
apart_of [] starts = tt
apart_of (n ∷ names) starts = (starts.0.distinct, apart_of names starts.1)

-- so each fits
pub all_fit : {S : Type 0} (m : Most) (w : Worker S) (calls : List PlannedCall) → IsNewWorker m w → AllByRecursion (λ (c : PlannedCall). IsBelow m c.begin) calls → AllFit w.call w.reply calls
all_fit m w [] made below = tt
all_fit m w (c ∷ calls) made below =
    let here : IsBelow m c.begin = below.0 in (
      (
        record {
          handles = record { slots = omega (arith, here.params, made.handles.slots); room = omega (arith, here.handles, made.handles.room) };
          bytes = omega (arith, here.bytes, made.bytes);
        },
        omega (arith, here.results, made.results),
      ),
      all_fit m w calls made below.1,
    )
