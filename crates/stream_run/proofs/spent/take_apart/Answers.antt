use Rattle.std.proofs.Common.{◌≡◌, Global, Vec, Bool, ap, map, map-id, refl, sym, ◌∙◌}
use Rattle.std.specs.List.{flat_map}
use Rattle.std.proofs.lemmas.Iterator.Adapters.{YieldsList-from_vec}
use Rattle.std.proofs.lemmas.Iterator.Consumers.{YieldsList-end}
use Rattle.stream_model.specs.Plans.{DevicePlan}
use Rattle.device_shard.specs.Plans.{plan_content}
use Rattle.stream_workers.specs.declared.worker.Worker.{Worker}
use Rattle.stream_run.specs.Spending.{tokens_held}
use Rattle.stream_run.proofs.Holding.{both_pushed, flat_pushed, map_pushed}
use Rattle.stream_run.proofs.spent.take_apart.Goals as goal

pub loop-worker-preserved : goal.loop-worker-preserved
loop-worker-preserved g c =
    let w = c.in-Some.worker in
    let so_far = c.loop-worker.yielded in
    record {
      tokens = flat_pushed (λ (u : Worker g.row.S.Denot). tokens_held (map (λ (p : DevicePlan). p.device) (map plan_content c.args.plans.now)) u.tokens.items) so_far w c.loop-worker.tokens.items c.take_tokens.new.tokens.items c.loop-worker.invariant.tokens
          c.in_ok-take_tokens.ensures;
      seats = map_pushed (λ (u : Worker g.row.S.Denot). u.seat) so_far w c.loop-worker.seats.items c.push.new.self.items w.seat c.loop-worker.invariant.seats c.in_ok-push.ensures.items refl;
      sent = both_pushed (λ (u : Worker g.row.S.Denot). u.sent.items) (λ (v : Vec Bool Global). v.items) so_far c.loop-worker.sent.items c.push-in-loop-worker.new.self.items w w.sent c.loop-worker.invariant.sent c.in_ok-push-2.ensures.items refl;
    }

pub returns : goal.returns
returns g c =
    let made = c.into_iter-worker-iterator.ensures.into_iter_gives in
    let road = YieldsList-from_vec {s = c.into_iter-worker-iterator.result} c.args.workers.items made.0 (made.1 ∙ c.args.workers.ok.0) in
    let end = YieldsList-end road c.loop-worker.yielded c.loop-worker.worker-iterator c.loop-worker.yielded_by _ c.next.new.self c.in-None.is c.next.ensures.steps in
    let whole : c.loop-worker.yielded ≡ c.args.workers.items = sym (map-id c.loop-worker.yielded) ∙ end.0 in
    record {
      tokens = c.loop-worker.invariant.tokens ∙ ap (flat_map (λ (u : Worker g.row.S.Denot). tokens_held (map (λ (p : DevicePlan). p.device) (map plan_content c.args.plans.now)) u.tokens.items)) whole;
      seats = c.loop-worker.invariant.seats ∙ ap (map (λ (u : Worker g.row.S.Denot). u.seat)) whole;
      sent = c.loop-worker.invariant.sent ∙ ap (map (λ (u : Worker g.row.S.Denot). u.sent.items)) whole;
    }
