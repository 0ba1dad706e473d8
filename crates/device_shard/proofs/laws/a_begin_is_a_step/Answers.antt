use Rattle.std.proofs.Common.{◌≡◌, sym, ◌∙◌, subst}
use Rattle.device_shard.specs.declared.lane.Lane.{Lane}
use Rattle.device_shard.specs.Turns.{HasBegun}
use Rattle.device_shard.proofs.Beginning.{can, mine, sent_so, stays, told}
use Rattle.device_shard.proofs.Lists.{one}
use Rattle.device_shard.proofs.laws.a_begin_is_a_step.Goals as goal

pub returns-clause-can : goal.returns-clause-can
returns-clause-can c n counts x b i s is comes =
    ((mine n counts x is b i s comes).lane, can n counts x is b i s comes c.a_begin_goes_on.ensures.may c.a_begin_has_room.ensures.enters c.a_call_on_a_device_is_small.ensures.one c.a_call_on_a_device_is_small.ensures.passed)

pub returns-clause-stays : goal.returns-clause-stays
returns-clause-stays c n counts x b i s l new y time is comes has later =
    let same : l ≡ (mine n counts x is b i s comes).lane = one l (mine n counts x is b i s comes).lane (sym has.at ∙ (mine n counts x is b i s comes).at) in
    stays n counts x is b i s comes new y (subst (λ (m : Lane). HasBegun x b i m new y) same has) time later c.a_begin_goes_on.ensures.tells c.a_call_on_a_device_is_small.ensures.one c.a_call_on_a_device_is_small.ensures.passed
    c.a_begin_goes_on.ensures.replays c.a_begin_has_room.ensures.stays c.a_begin_has_room.ensures.thread c.a_begin_has_room.ensures.parts c.a_begin_goes_on.ensures.may

pub returns-clause-tells : goal.returns-clause-tells
returns-clause-tells c n counts x b i s l new y is comes has =
    let same : l ≡ (mine n counts x is b i s comes).lane = one l (mine n counts x is b i s comes).lane (sym has.at ∙ (mine n counts x is b i s comes).at) in
    told n counts x is b i s comes new y (subst (λ (m : Lane). HasBegun x b i m new y) same has) c.a_begin_goes_on.ensures.tells

pub returns-clause-told : goal.returns-clause-told
returns-clause-told c n counts x b i s l new y is comes has goes =
    let same : l ≡ (mine n counts x is b i s comes).lane = one l (mine n counts x is b i s comes).lane (sym has.at ∙ (mine n counts x is b i s comes).at) in
    sent_so n counts x is b i s comes new y (subst (λ (m : Lane). HasBegun x b i m new y) same has) c.a_begin_goes_on.ensures.may c.a_call_on_a_device_is_small.ensures.passed goes
