use Rattle.std.proofs.Common.{◌∙◌, ap}
use Rattle.replay_base.specs.Faults.{raised}
use Rattle.replay_core.proofs.Playing.{whole_grown}
use Rattle.replay_core.proofs.put.hand_text.Goals as goal

pub returns-in-Err-flush : goal.returns-in-Err-flush
returns-in-Err-flush g c = record {
  front = whole_grown (g.K.Sink.held c.args.out.now) (g.K.Sink.held c.flush.new.self) c.args.text.now (c.in-Err-flush.ensures.held ∙ c.in-Ok.ensures.0);
  failed = c.in-Err-flush.ensures.cause.failed ∙ ap raised c.in-Ok.ensures.1;
}
