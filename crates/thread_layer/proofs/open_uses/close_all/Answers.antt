use Rattle.std.proofs.Common.{◌≡◌, ◌++◌, ◌∙◌, ◌+◌, ◌-◌, ℕ, List, take, drop, ap, arith, refl}
use Rattle.object_model.specs.Uses.{InUse}
use Rattle.thread_layer.specs.Kept.{of_others, opens_of}
use Rattle.thread_layer.proofs.Opens.{close_begins}
use Rattle.thread_layer.proofs.open_uses.close_all.Goals as goal

pub loop-left-init : goal.loop-left-init
loop-left-init c =
    let all = c.len-left.ensures ∙ c.args.calls.now.ok.0 in
    record {
      within = omega (arith, all);
      counted = c.requires;
      opens = close_begins c.args.calls.now.items c.args.uses.now.items c.len-left.result c.args.thread all;
      calls_capacity = refl;
      uses_capacity = refl;
    }

pub loop-left-preserved : goal.loop-left-preserved
loop-left-preserved c =
    let opens : List InUse = opens_of c.loop-left.calls.items c.loop-left.uses.items in
    let same : c.loop-left.left - 1 + 1 ≡ c.loop-left.left = omega (arith, c.loop-left-test.true) in
    record {
      within = c.close_at.ensures.within;
      counted = c.close_at.ensures.counted;
      opens = c.close_at.ensures.opens ∙ (ap (λ n. of_others c.args.thread (take n opens) ++ drop n opens) same ∙ c.loop-left.invariant.opens);
      calls_capacity = c.close_at.ensures.calls_capacity ∙ c.loop-left.invariant.calls_capacity;
      uses_capacity = c.close_at.ensures.uses_capacity ∙ c.loop-left.invariant.uses_capacity;
    }

pub returns-clause-opens : goal.returns-clause-opens
returns-clause-opens c =
    let opens : List InUse = opens_of c.loop-left.calls.items c.loop-left.uses.items in
    let none : 0 ≡ c.loop-left.left = omega (arith, c.loop-left-test.false) in
    ap (λ (n : ℕ). of_others c.args.thread (take n opens) ++ drop n opens) none ∙ c.loop-left.invariant.opens
