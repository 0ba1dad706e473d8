use Rattle.std.proofs.lemmas.Iterator.{YieldsList-from_slice, YieldsList-from_zip}
use Rattle.std.proofs.lemmas.Iterator.Adapters.{YieldsList-from_vec}
use Rattle.std.proofs.lemmas.Iterator.Consumers.{YieldsList-at, YieldsList-end}
use Rattle.std.proofs.Common.{◌∙◌}
use Rattle.stream_run.proofs.Holding.{held_all, held_more}
use Rattle.stream_run.proofs.spent.take_tokens.Goals as goal

pub loop-plan-preserved : goal.loop-plan-preserved
loop-plan-preserved c = held_more c.loop-plan.tokens.items c.take_token.new.tokens.items c.args.tokens.now.items c.loop-plan.yielded (c.in-Some.plan, c.in-Some.slot) c.loop-plan.invariant c.in_ok-take_token.ensures

pub returns : goal.returns
returns c =
    let first = YieldsList-at c.zip-plan-items.ensures.first (YieldsList-from_slice {s = c.iter.result} c.args.plans.now c.iter.ensures.rest) in
    let second = YieldsList-from_vec c.args.slots.items c.zip-plan-items.ensures.second.0 (c.zip-plan-items.ensures.second.1 ∙ c.args.slots.ok.0) in
    let road = YieldsList-at c.into_iter-plan-iterator.ensures.into_iter_gives (YieldsList-from_zip first second) in
    let end = YieldsList-end road c.loop-plan.yielded c.loop-plan.plan-iterator c.loop-plan.yielded_by _ c.next.new.self c.in-None.is c.next.ensures.steps in
    held_all c.loop-plan.tokens.items c.args.tokens.now.items c.loop-plan.yielded c.args.plans.now c.args.slots.items c.loop-plan.invariant end.0
