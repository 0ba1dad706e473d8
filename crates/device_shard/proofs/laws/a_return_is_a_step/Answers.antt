use Rattle.std.proofs.Common.{◌≡◌, sym, ◌∙◌, subst}
use Rattle.trace_format.specs.Content.{BeginEvent}
use Rattle.device_shard.specs.declared.lane.Lane.{Lane}
use Rattle.device_shard.specs.Shards.{IsShard}
use Rattle.device_shard.specs.Steps.{AreResults}
use Rattle.device_shard.specs.Turns.{HasReturned, results_read, returned_then}
use Rattle.device_shard.proofs.Returned.{begin_of, can, mine, same_begin, stays, results_are}
use Rattle.device_shard.proofs.Lists.{one}
use Rattle.device_shard.proofs.laws.a_return_is_a_step.Goals as goal

pub returns-clause-can : goal.returns-clause-can
returns-clause-can c n counts x thread i s seen reply is comes past own replied = (
  (mine n counts x is thread i s comes).lane,
  begin_of n counts x is thread i s comes,
  can n counts x is thread i s comes seen past own reply replied c.a_return_goes_on.ensures.may c.a_call_on_a_device_is_small.ensures.owners c.a_call_on_a_device_is_small.ensures.drivers c.a_return_has_room.ensures.leaves,
)

pub returns-clause-stays : goal.returns-clause-stays
returns-clause-stays c n counts x thread i s seen reply l b y count time results is comes past own replied could has later more =
    let same : (mine n counts x is thread i s comes).lane ≡ l = one (mine n counts x is thread i s comes).lane l (sym (mine n counts x is thread i s comes).at ∙ has.at) in
    let begun : begin_of n counts x is thread i s comes ≡ b = same_begin n counts x is thread i s comes l b reply same could in
    subst (λ (m : Lane). IsShard n counts (returned_then x thread i m y reply time results)) same (
    stays n counts x is thread i s comes seen past own reply replied y count
    (subst (λ (m : Lane). HasReturned x (begin_of n counts x is thread i s comes) i m y reply count) (sym same) (subst (λ (d : BeginEvent). HasReturned x d i l y reply count) (sym begun) has)) time results later more
    c.a_return_goes_on.ensures.replays c.a_return_has_room.ensures.stays c.a_begin_has_room.ensures.parts c.a_call_on_a_device_is_small.ensures.owners c.a_call_on_a_device_is_small.ensures.drivers c.a_return_goes_on.ensures.may
    c.open_calls_are_of_threads.ensures.left c.open_calls_are_of_threads.ensures.none
    )

pub returns-clause-results : goal.returns-clause-results
returns-clause-results c n counts x thread i s seen reply l is comes past own at =
    let same : (mine n counts x is thread i s comes).lane ≡ l = one (mine n counts x is thread i s comes).lane l (sym (mine n counts x is thread i s comes).at ∙ at) in
    subst (λ (m : Lane). AreResults n seen reply (results_read m.verdict.skip reply)) same (results_are n counts x is thread i s comes seen past own reply)
