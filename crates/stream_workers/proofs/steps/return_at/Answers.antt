use Rattle.model_driver.specs.Driver.{reply_shown}
use Rattle.stream_workers.proofs.Stepped.{returns_at}
use Rattle.stream_workers.proofs.steps.return_at.Goals as goal

pub returns-clause-returned : goal.returns-clause-returned
returns-clause-returned g c n here =
    let e = c.return_step-returned.ensures.entry in
    returns_at n c.args.seen c.args.thread (reply_shown c.args.reply.now) c.args.tick.now.seen c.return_step-returned.result.0 c.return_step-returned.result.1 c.args.log.now (c.requires.log n here) c.requires.seen.1 c.return_step-returned.ensures.past
    c.return_step-returned.ensures.time.1 e.0 e.1 (e.2 n here) c.return_step-returned.ensures.token
