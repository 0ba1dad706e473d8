use Rattle.std.proofs.Common.{◌∙◌, ap, map, refl, sym}
use Rattle.stream_log.specs.Clock.{TickView}
use Rattle.stream_model.specs.Plans.{DevicePlan}
use Rattle.device_shard.specs.Gathering.{fresh_kept}
use Rattle.device_shard.specs.Plans.{stream_planned}
use Rattle.device_shard.proofs.Starting.{calls_start, is_started}
use Rattle.device_shard.proofs.fresh.fresh_of.Goals as goal

pub returns-clause-fresh : goal.returns-clause-fresh
returns-clause-fresh g c = λ n same start can owner.
    is_started _ n c.args.clock.now
    (fresh_kept n (record { owner = c.args.owner; tick = c.split.result; parts = c.in_ok-room.room.parts; lanes = c.in_ok-room.room.lanes; calls = c.tally-calls.result.calls; results = c.in_ok-room.room.results }))
    (map stream_planned c.deref.result.now) c.a_start_is_a_replay.ensures.starts c.in_ok-room.ensures (ap (map stream_planned) c.deref.ensures.value ∙ ap (λ (p : DevicePlan). p.streams) (sym same)) start can owner refl
    (calls_start _ n.start c.args.held c.tally-calls.result.calls c.tally-calls.result.skipped c.tally-calls.result.reports c.requires.idle start c.tally-calls.ensures) (ap (λ (t : TickView). t.clock) c.split.ensures.given)
    (ap (λ (t : TickView). t.left) c.split.ensures.given)
