use Rattle.std.proofs.Common.{◌≡◌, ◌∙◌, ◌*◌, ℕ, Global, Vec, List, ap, length, arith}
use Rattle.device_shard.proofs.Measured.{sum_more, sum_taken}
use Rattle.stream_run.proofs.prepare.count_steps.Goals as goal

pub loop-own-preserved : goal.loop-own-preserved
loop-own-preserved c =
    let long : c.len.result ≡ length c.own-item.result.items = omega (arith, c.len.ensures, c.own-item.result.ok.0) in
    c.in_ok-steps.ensures
    ∙ sum_more (λ (p : List ℕ). 2 * length p) (λ (v : Vec ℕ Global). v.items) c.args.places.now c.loop-own.own-index c.own-item.result c.loop-own.steps (2 * c.len.result) c.loop-own-test.true c.own-item.is c.loop-own.invariant (ap (λ (n : ℕ). 2 * n) long)

pub returns : goal.returns
returns c = sum_taken (λ (p : List ℕ). 2 * length p) (λ (v : Vec ℕ Global). v.items) c.args.places.now c.loop-own.own-index c.loop-own.steps c.loop-own-test.false c.loop-own.invariant
