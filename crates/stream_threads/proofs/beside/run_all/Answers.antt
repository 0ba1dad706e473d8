use Rattle.std.proofs.Common.{◌≡◌, rules, map, sym, subst}
use Rattle.std.specs.List.{slice_index_or}
use Rattle.device_shard.specs.Plans.{plan_content}
use Rattle.stream_workers.specs.declared.worker.Worker.{Worker}
use Rattle.stream_workers.specs.Work.{Course, HasDone, IsReadyFor, course}
use denote.Param.Send.{sendable}
use Rattle.stream_threads.proofs.beside.run_all.Goals as goal

pub each_with-requires-clause-accepts : goal.each_with-requires-clause-accepts
each_with-requires-clause-accepts g c κs within i d less p same =
    let k : Course = course g.N.ShardNames.shards g.N.ShardNames.clock (map plan_content c.args.plans.now) in
    let r = c.requires.ready i d less in
    (search rules, (c.requires.course, ((r.0, subst (λ (w : Worker g.row.D-Seat.Denot). IsReadyFor g.D.SharedDriver.room k r.0 w) (sym same) r.1), search sendable)))

pub returns-clause-done : goal.returns-clause-done
returns-clause-done g c i d less planned ready =
    let k : Course = course g.N.ShardNames.shards g.N.ShardNames.clock (map plan_content c.args.plans.now) in
    let x = c.each_with.ensures.changes i d less in
    subst (λ (w : Worker g.row.D-Seat.Denot). HasDone g.D.SharedDriver.room g.D.SharedDriver.log k planned w (slice_index_or c.each_with.new.items i d)) x.argument_is
    (subst (λ (w : Worker g.row.D-Seat.Denot). HasDone g.D.SharedDriver.room g.D.SharedDriver.log k planned x.argument.now w) x.left
    (x.call.0 planned (subst (λ (w : Worker g.row.D-Seat.Denot). IsReadyFor g.D.SharedDriver.room k planned w) (sym x.argument_is) ready)))

pub returns-clause-policy : goal.returns-clause-policy
returns-clause-policy g c i d less =
    let answers_by = g.D.SharedDriver.answers_by in
    let x = c.each_with.ensures.changes i d less in
    subst (λ (w : Worker g.row.D-Seat.Denot). answers_by (slice_index_or c.each_with.new.items i d).seat ≡ answers_by w.seat) x.argument_is
    (subst (λ (w : Worker g.row.D-Seat.Denot). answers_by w.seat ≡ answers_by x.argument.now.seat) x.left x.call.1)
