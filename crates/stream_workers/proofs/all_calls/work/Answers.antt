use Rattle.std.proofs.Common.{◌-◌, ◌<◌, ◌≤◌, suc, List, drop, length, map, refl, sym, ◌∙◌, ap, subst, arith}
use Rattle.std.proofs.lemmas.List.{length-map}
use Rattle.std.proofs.lemmas.Option.{slice_get_read}
use Rattle.device_shard.specs.Plans.{plan_content}
use Rattle.merge_model.specs.Planned.{PlannedCall}
use Rattle.stream_workers.specs.Work.{Course, IsReady, course}
use Rattle.stream_workers.proofs.Working.{all_done, next_of, none_yet, reached_more}
use Rattle.stream_workers.proofs.all_calls.work.Goals as goal

pub loop-call-init : goal.loop-call-init
loop-call-init g c =
    (λ planned ready. none_yet g.D.SharedDriver.room g.D.SharedDriver.log (course g.N.ShardNames.shards g.N.ShardNames.clock (map plan_content c.args.plans.now)) planned c.args.worker.now ready, refl)

pub begin_call-requires-clause-ready : goal.begin_call-requires-clause-ready
begin_call-requires-clause-ready g c κs within =
    let r = c.requires.ready in
    let k : Course = course g.N.ShardNames.shards g.N.ShardNames.clock (map plan_content c.args.plans.now) in
    let w = c.loop-call.worker in
    let far : c.loop-call.call < length w.places.items = omega (arith, c.loop-call-test.true, c.len.ensures, w.places.ok.0) in
    let at = slice_get_read w.places.items (length w.places.items) c.loop-call.call c.index-place.result.now refl far c.index-place.ensures in
    let so_far = c.loop-call.invariant.0 r.0 r.1 in
    let next = next_of r.0 w.places.items c.loop-call.call c.index-place.result.now (r.1.places ∙ sym (ap (λ v. v.items) so_far.places)) at far in
    let rest = drop (suc c.loop-call.call) r.0 in
    let is_ready = subst (λ (ps : List PlannedCall). IsReady g.D.SharedDriver.room k ps w) next.rest so_far.ready in
    (g.D.SharedDriver.room, next.call, rest, is_ready, next.place_is)

pub send_call-requires-clause-to_send : goal.send_call-requires-clause-to_send
send_call-requires-clause-to_send g c κs within =
    let r = c.requires.ready in
    let k : Course = course g.N.ShardNames.shards g.N.ShardNames.clock (map plan_content c.args.plans.now) in
    let w = c.loop-call.worker in
    let far : c.loop-call.call < length w.places.items = omega (arith, c.loop-call-test.true, c.len.ensures, w.places.ok.0) in
    let at = slice_get_read w.places.items (length w.places.items) c.loop-call.call c.index-place.result.now refl far c.index-place.ensures in
    let so_far = c.loop-call.invariant.0 r.0 r.1 in
    let next = next_of r.0 w.places.items c.loop-call.call c.index-place.result.now (r.1.places ∙ sym (ap (λ v. v.items) so_far.places)) at far in
    let rest = drop (suc c.loop-call.call) r.0 in
    let is_ready = subst (λ (ps : List PlannedCall). IsReady g.D.SharedDriver.room k ps w) next.rest so_far.ready in
    let begun = c.begin_call.ensures.begun g.D.SharedDriver.room next.call rest is_ready next.place_is in
    (k, begun.call, rest, begun.to_send)

pub end_call-requires-clause-replied : goal.end_call-requires-clause-replied
end_call-requires-clause-replied g c κs within =
    let r = c.requires.ready in
    let k : Course = course g.N.ShardNames.shards g.N.ShardNames.clock (map plan_content c.args.plans.now) in
    let w = c.loop-call.worker in
    let far : c.loop-call.call < length w.places.items = omega (arith, c.loop-call-test.true, c.len.ensures, w.places.ok.0) in
    let at = slice_get_read w.places.items (length w.places.items) c.loop-call.call c.index-place.result.now refl far c.index-place.ensures in
    let so_far = c.loop-call.invariant.0 r.0 r.1 in
    let next = next_of r.0 w.places.items c.loop-call.call c.index-place.result.now (r.1.places ∙ sym (ap (λ v. v.items) so_far.places)) at far in
    let rest = drop (suc c.loop-call.call) r.0 in
    let is_ready = subst (λ (ps : List PlannedCall). IsReady g.D.SharedDriver.room k ps w) next.rest so_far.ready in
    let begun = c.begin_call.ensures.begun g.D.SharedDriver.room next.call rest is_ready next.place_is in
    let sent = c.send_call.ensures.sent k begun.call rest begun.to_send in
    (g.D.SharedDriver.room, begun.call, rest, sent.to_return, begun.place ∙ next.place_is)

pub loop-call-preserved : goal.loop-call-preserved
loop-call-preserved g c =
    let answers_by = g.D.SharedDriver.answers_by in (
      λ planned ready.
          let k : Course = course g.N.ShardNames.shards g.N.ShardNames.clock (map plan_content c.args.plans.now) in
          let w = c.loop-call.worker in
          let far : c.loop-call.call < length w.places.items = omega (arith, c.loop-call-test.true, c.len.ensures, w.places.ok.0) in
          let at = slice_get_read w.places.items (length w.places.items) c.loop-call.call c.index-place.result.now refl far c.index-place.ensures in
          let so_far = c.loop-call.invariant.0 planned ready in
          let next = next_of planned w.places.items c.loop-call.call c.index-place.result.now (ready.places ∙ sym (ap (λ v. v.items) so_far.places)) at far in
          let rest = drop (suc c.loop-call.call) planned in
          let is_ready = subst (λ (ps : List PlannedCall). IsReady g.D.SharedDriver.room k ps w) next.rest so_far.ready in
          let begun = c.begin_call.ensures.begun g.D.SharedDriver.room next.call rest is_ready next.place_is in
          let sent = c.send_call.ensures.sent k begun.call rest begun.to_send in
          let returned = c.end_call.ensures.returned g.D.SharedDriver.room begun.call rest sent.to_return (begun.place ∙ next.place_is) in
          reached_more g.D.SharedDriver.room g.D.SharedDriver.log k planned c.loop-call.call c.index-place.result.now c.args.worker.now w c.begin_call.new.worker c.send_call.new.worker c.end_call.new.worker so_far next begun sent returned,
      ap answers_by c.end_call.ensures.seat ∙ (c.send_call.ensures.policy ∙ (ap answers_by c.begin_call.ensures.seat ∙ c.loop-call.invariant.1)),
    )

pub returns-clause-done : goal.returns-clause-done
returns-clause-done g c planned ready =
    let k : Course = course g.N.ShardNames.shards g.N.ShardNames.clock (map plan_content c.args.plans.now) in
    let w = c.loop-call.worker in
    let so_far = c.loop-call.invariant.0 planned ready in
    let many = ap length (ready.places ∙ sym (ap (λ v. v.items) so_far.places)) in
    let long = length-map planned (λ (p : PlannedCall). p.place) in
    let past : length planned ≤ c.loop-call.call = omega (arith, c.loop-call-test.false, c.len.ensures, w.places.ok.0, many, long) in
    all_done g.D.SharedDriver.room g.D.SharedDriver.log k planned c.loop-call.call c.args.worker.now w past so_far

pub returns-clause-policy : goal.returns-clause-policy
returns-clause-policy g c = c.loop-call.invariant.1
