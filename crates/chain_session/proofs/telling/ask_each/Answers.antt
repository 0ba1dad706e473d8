use Rattle.std.proofs.Common.{◌≡◌, ◌∙◌, ◌+◌, ◌++◌, ◌∷◌, [], drop, map, subst, take}
use Rattle.std.specs.List.{AllByRecursion}
use Rattle.model_driver.specs.Driver.{HasShape, call_shown, reply_shown}
use Rattle.session_tables.proofs.Lists.{on_err}
use Rattle.chain_session.proofs.Told.{around_one, front_told, left_over, one_more, told_next}
use Rattle.chain_session.proofs.telling.ask_each.Goals as goal

pub returns-in_err-ask_one-clause-err : goal.returns-in_err-ask_one-clause-err
returns-in_err-ask_one-clause-err g c =
    let all : c.args.calls.now ≡ take c.loop-call.call-index c.args.calls.now ++ c.call-item.result ∷ drop (c.loop-call.call-index + 1) c.args.calls.now = around_one c.args.calls.now c.loop-call.call-index c.call-item.result c.loop-call-test.true c.call-item.is in
    on_err c.from_residual.result
    (front_told c.args.calls.now (take c.loop-call.call-index c.args.calls.now) (drop (c.loop-call.call-index + 1) c.args.calls.now) c.call-item.result (map reply_shown c.loop-call.replies.items)
    (g.D.Driver.log c.args.driver.now) (g.D.Driver.log c.loop-call.driver) (g.D.Driver.log c.ask_one.new.driver) all c.loop-call.invariant.told c.in_err-ask_one.ensures.err)

pub loop-call-preserved : goal.loop-call-preserved
loop-call-preserved g c =
    let more : take (c.loop-call.call-index + 1) c.args.calls.now ≡ take c.loop-call.call-index c.args.calls.now ++ c.call-item.result ∷ [] = one_more c.args.calls.now c.loop-call.call-index c.call-item.result c.loop-call-test.true c.call-item.is in
    let rest : drop c.loop-call.call-index c.args.calls.now ≡ c.call-item.result ∷ drop (c.loop-call.call-index + 1) c.args.calls.now = left_over c.args.calls.now c.loop-call.call-index c.call-item.result c.loop-call-test.true c.call-item.is in
    record {
      told = told_next (take c.loop-call.call-index c.args.calls.now) (take (c.loop-call.call-index + 1) c.args.calls.now) c.call-item.result (map reply_shown c.loop-call.replies.items) (map reply_shown c.ask_one.new.replies.items)
          (g.D.Driver.log c.args.driver.now) (g.D.Driver.log c.loop-call.driver) (g.D.Driver.log c.ask_one.new.driver) more c.loop-call.invariant.told c.in_ok-ask_one.ensures.ok;
      shapes = (subst (λ xs. AllByRecursion HasShape (map call_shown xs)) rest c.loop-call.invariant.shapes).1;
      policy = c.in_ok-ask_one.ensures.policy ∙ c.loop-call.invariant.policy;
    }
