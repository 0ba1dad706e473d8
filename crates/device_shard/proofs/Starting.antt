-- What lies behind a lock at first is a shard.
use Rattle.std.proofs.Common.{◌≡◌, ◌+◌, ◌-◌, ℕ, Option, Some, None, List, [], ◌∷◌, length, reverse, refl, sym, ◌∙◌, ap, subst, arith, length-append}
use Rattle.std.specs.Prelude.{drop}
use Rattle.std.specs.List.{AllByRecursion, flat_map, sum_by}
use Rattle.std.proofs.lemmas.List.Sums.{sum_by-append}
use Rattle.atomic_table.specs.Seated.{TableId}
use Rattle.stream_log.specs.Log.{last_time}
use Rattle.stream_log.specs.declared.line.Line.{Line}
use Rattle.dispatch_chain.specs.Seats.{kinds_of}
use Rattle.stream_model.specs.FileParts.{StreamPart}
use Rattle.stream_model.specs.Plans.{turns_of}
use Rattle.session_parts.specs.declared.parts.SessionParts.{SessionParts}
use Rattle.session_parts.specs.Parts.{KeepAlike}
use Rattle.chain_session.specs.declared.kept.Kept.{Kept}
use Rattle.chain_session.specs.Splitting.{AreSplit}
use Rattle.chain_session.specs.Standing.{Counts}
use Rattle.shard_model.specs.Followed.{Follows, begins_in, turns_in}
use Rattle.shard_model.specs.Replays.{IsReplay, Start}
use Rattle.shard_room.specs.Needs.{Needs}
use Rattle.shard_room.specs.Room.{HasPlanRoom}
use Rattle.shard_start.specs.Starting.{CanStart, events_in}
use Rattle.device_shard.specs.declared.lane.Lane.{Lane}
use Rattle.device_shard.specs.Making.{IsOwnerFor, IsStartOf, results_planned}
use Rattle.device_shard.specs.Rooms.{IsIdle, IsReady, IsUnused}
use Rattle.device_shard.specs.Shards.{AllLanes, IsLane, IsShard, KeepsLast, LaneHasRoom, ShardKept, ShardName, due_to, last_made, results_at, results_of, sum_lanes, threads_of, to_come}
use Rattle.device_shard.proofs.Measured.{all_turned}

-- ---- what a session gives

-- parts that are split from the session keep what the start's keep
pub alike_start : (k : Option Kept) (start : Start) (x : SessionParts) → IsStartOf k start → AreSplit k x → KeepAlike x start.parts
alike_start None start x is split = absurd is
alike_start (Some kept) start x is split = subst (λ (s : Start). KeepAlike x s.parts) (sym is) split

-- the number of calls is the session's
pub calls_start : (k : Option Kept) (start : Start) (held calls skipped reports : ℕ) → IsIdle k held → IsStartOf k start → Counts k calls skipped reports → calls ≡ start.calls
calls_start None start held calls skipped reports idle is counts = absurd is
calls_start (Some kept) start held calls skipped reports idle is counts = (counts idle.setup idle.kept idle.shows).0 ∙ (sym idle.shows.calls ∙ ap (λ (s : Start). s.calls) (sym is))

-- ---- lanes that made no step

lane_new : (start : Start) (all : List StreamPart) (list : List Line) (s : StreamPart) (l : Lane) → list ≡ [] → l.steps ≡ 0 → IsLane start all list [] s l
lane_new start all list s l none new = record {
  steps = new ∙ ap (λ (es : List Line). turns_of s.thread (turns_in es)) (sym none);
  made = omega (arith, new);
  last = subst (λ n. KeepsLast start all list [] s.thread l (last_made s n)) (sym new) tt;
}

lanes_new : (start : Start) (all : List StreamPart) (list : List Line) (needs : Needs) (parts : ℕ) (streams : List StreamPart) (lanes : List Lane) → list ≡ [] → length lanes ≡ length streams → AllByRecursion (IsUnused needs parts) lanes
    → AllLanes (IsLane start all list []) streams lanes
lanes_new start all list needs parts [] [] none same unused = tt
lanes_new start all list needs parts [] (l ∷ lanes) none same unused = absurd (omega (arith, same))
lanes_new start all list needs parts (s ∷ streams) [] none same unused = absurd (omega (arith, same))
lanes_new start all list needs parts (s ∷ streams) (l ∷ lanes) none same unused = (lane_new start all list s l none unused.0.steps, lanes_new start all list needs parts streams lanes none (omega (arith, same)) unused.1)

-- all events are to come
come_all : (needs : Needs) (parts : ℕ) (streams : List StreamPart) (lanes : List Lane) → length lanes ≡ length streams → AllByRecursion (IsUnused needs parts) lanes → sum_lanes to_come streams lanes ≡ events_in streams
come_all needs parts [] lanes same unused = refl
come_all needs parts (s ∷ streams) [] same unused = absurd (omega (arith, same))
come_all needs parts (s ∷ streams) (l ∷ lanes) same unused =
    let rest : sum_lanes to_come streams lanes ≡ events_in streams = come_all needs parts streams lanes (omega (arith, same)) unused.1 in
    let whole : events_in (s ∷ streams) ≡ length s.events + events_in streams = length-append s.events (flat_map (λ (p : StreamPart). p.events) streams) in
    let here : to_come s l ≡ length s.events - 0 = ap (λ n. length s.events - n) unused.0.steps in
    omega (arith, rest, whole, here)

-- all results are due
due_all : (needs : Needs) (parts : ℕ) (streams : List StreamPart) (lanes : List Lane) → length lanes ≡ length streams → AllByRecursion (IsUnused needs parts) lanes → sum_lanes due_to streams lanes ≡ results_planned streams
due_all needs parts [] lanes same unused = refl
due_all needs parts (s ∷ streams) [] same unused = absurd (omega (arith, same))
due_all needs parts (s ∷ streams) (l ∷ lanes) same unused =
    let rest : sum_lanes due_to streams lanes ≡ results_planned streams = due_all needs parts streams lanes (omega (arith, same)) unused.1 in
    let whole : results_planned (s ∷ streams) ≡ sum_by results_at s.events + results_planned streams = sum_by-append results_at s.events (flat_map (λ (p : StreamPart). p.events) streams) in
    let here : due_to s l ≡ sum_by results_at s.events + 0 = ap (λ n. sum_by results_at (drop n s.events) + results_of (last_made s n)) unused.0.steps in
    omega (arith, rest, whole, here)

-- ---- the shard

pub is_started : (k : Option Kept) (n : ShardName) (counts : TableId) (x : ShardKept) (planned : List StreamPart) → ((start : Start) (streams : List StreamPart) (y : SessionParts) → KeepAlike y start.parts → IsReplay start streams [] y [])
    → IsReady k planned x.parts x.lanes x.results → planned ≡ n.plan.streams → IsStartOf k n.start → CanStart n.start n.plan.streams → IsOwnerFor n x.owner → x.plan ≡ n.plan → x.calls ≡ n.start.calls → x.tick.clock ≡ counts → x.tick.left ≡ 0 → IsShard n counts x
is_started k n counts x planned replays room same start can owner plan calls clock spent =
    let streams : List StreamPart = n.plan.streams in
    let ready : IsReady k streams x.parts x.lanes x.results = subst (λ ss. IsReady k ss x.parts x.lanes x.results) same room in
    let parts : ℕ = length x.parts.states.kept in
    let alike : KeepAlike x.parts n.start.parts = alike_start k n.start x.parts start ready.split in
    let come : sum_lanes to_come streams x.lanes ≡ events_in streams = come_all ready.needs parts streams x.lanes ready.count ready.unused in
    let due : sum_lanes due_to streams x.lanes ≡ results_planned streams = due_all ready.needs parts streams x.lanes ready.count ready.unused in
    let none : begins_in (reverse x.owner.list) ≡ 0 = ap (λ (es : List Line). begins_in (reverse es)) owner.list in
    let never : last_time x.owner.list ≡ 0 = ap (λ (es : List Line). last_time es) owner.list in
    record {
      log = owner.log;
      plan = plan;
      starts = can;
      follows = subst (λ (es : List Line). Follows streams (reverse es)) (sym owner.list) tt;
      opens = [];
      apart = tt;
      lanes = lanes_new n.start streams x.owner.list ready.needs parts streams x.lanes owner.list ready.count ready.unused;
      replay = subst (λ (es : List Line). IsReplay n.start streams (reverse es) x.parts []) (sym owner.list) (replays n.start streams x.parts alike);
      calls = omega (arith, calls, none);
      few = omega (arith, calls, come, can.few);
      kinds = ap kinds_of alike.states;
      clock = clock;
      seen = omega (arith, never);
      spent = spent;
      entries = omega (arith, come, owner.entries);
      results = omega (arith, due, owner.results);
      needs = ready.needs;
      within = ready.within;
      room = subst (λ m. HasPlanRoom ready.needs (threads_of streams) m x.parts) (sym due) ready.room;
      lane_room = all_turned (IsUnused ready.needs parts) (LaneHasRoom ready.needs parts) x.lanes (λ l u. u.room) ready.unused;
      result_room = ready.results;
    }
