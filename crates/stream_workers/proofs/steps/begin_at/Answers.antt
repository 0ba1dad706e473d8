use Rattle.trace_format.specs.Content.{content}
use Rattle.model_driver.specs.Driver.{call_shown}
use Rattle.stream_workers.proofs.Stepped.{begins_at}
use Rattle.stream_workers.proofs.steps.begin_at.Goals as goal

pub returns-clause-begun : goal.returns-clause-begun
returns-clause-begun g c n here =
    begins_at n c.args.seen (content c.args.event.now) (call_shown c.begin_step-begun.new.out) c.args.tick.now.seen c.begin_step-begun.result c.args.log.now (c.requires.log n here) c.begin_step-begun.ensures.past c.begin_step-begun.ensures.time.1
    c.begin_step-begun.ensures.entry c.begin_step-begun.ensures.token c.begin_step-begun.ensures.driver c.begin_step-begun.ensures.told (c.begin_step-begun.ensures.tells n here)
