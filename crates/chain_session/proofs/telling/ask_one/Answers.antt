use Rattle.model_driver.specs.Driver.{call_shown, reply_shown}
use Rattle.session_tables.proofs.Lists.{on_err}
use Rattle.chain_session.proofs.Told.{one_asked}
use Rattle.chain_session.proofs.telling.ask_one.Goals as goal

pub returns-in_err-push-clause-err : goal.returns-in_err-push-clause-err
returns-in_err-push-clause-err g c =
    on_err c.from_residual-in_err-push.result
    (one_asked (call_shown c.args.call.now) (reply_shown c.call.new.reply) (g.D.Driver.log c.args.driver.now) (g.D.Driver.log c.call.new.self) c.in_ok-call.ensures.answers c.in_ok-call.ensures.ok)
