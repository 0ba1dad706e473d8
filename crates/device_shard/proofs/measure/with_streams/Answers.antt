use Rattle.std.proofs.Common.{◌≤◌, map, subst, sym, take}
use Rattle.std.specs.List.{AllByRecursion}
use Rattle.trace_format.specs.Content.{content}
use Rattle.shard_room.specs.Needs.{IsWithinAt}
use Rattle.device_shard.specs.Plans.{stream_planned}
use Rattle.device_shard.specs.Rooms.{FewResults, IsStreamWithin, needs_of}
use Rattle.device_shard.specs.Shards.{results_at}
use Rattle.device_shard.proofs.Measured.{all_here, all_more, all_taken, few_still, grown_on, grown_self, streams_grown}
use Rattle.device_shard.proofs.measure.with_streams.Goals as goal

pub with_events-requires : goal.with_events-requires
with_events-requires c =
    subst (λ es. AllByRecursion (λ e. results_at e ≤ c.loop-stream.most.results) (map content es)) (sym c.deref.ensures.value) (
    few_still c.args.measure.results c.loop-stream.most.results (map content c.stream-item.result.1.items) c.loop-stream.invariant.grows.results
    (all_here (FewResults c.args.measure.results) stream_planned c.args.streams.now c.loop-stream.stream-index c.stream-item.result c.loop-stream-test.true c.stream-item.is c.requires)
    )

pub loop-stream-init : goal.loop-stream-init
loop-stream-init c = record { grows = grown_self (needs_of c.args.measure); within = tt }

pub loop-stream-preserved : goal.loop-stream-preserved
loop-stream-preserved c =
    let old = needs_of c.loop-stream.most in
    let new = needs_of c.in_ok-most.most in
    record {
      grows = grown_on (needs_of c.args.measure) old new c.loop-stream.invariant.grows c.in_ok-most.ensures.grows;
      within = all_more (IsStreamWithin new) stream_planned c.args.streams.now c.loop-stream.stream-index c.stream-item.result c.loop-stream-test.true c.stream-item.is
          (streams_grown old new (map stream_planned (take c.loop-stream.stream-index c.args.streams.now)) c.in_ok-most.ensures.grows c.loop-stream.invariant.within)
          (subst (λ es. AllByRecursion (IsWithinAt new) (map content es)) c.deref.ensures.value c.in_ok-most.ensures.within);
    }

pub returns-clause-grows : goal.returns-clause-grows
returns-clause-grows c = c.loop-stream.invariant.grows

pub returns-clause-within : goal.returns-clause-within
returns-clause-within c = all_taken (IsStreamWithin (needs_of c.loop-stream.most)) stream_planned c.args.streams.now c.loop-stream.stream-index c.loop-stream-test.false c.loop-stream.invariant.within
