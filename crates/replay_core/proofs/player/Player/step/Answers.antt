use Rattle.std.proofs.Common.{◌∙◌, ap, refl, subst}
use Rattle.std.specs.Option.{option_map}
use Rattle.trace_format.specs.Content.{content}
use Rattle.replay_base.specs.Bytes.{GrownByFront, grown}
use Rattle.replay_base.specs.Changes.{changed}
use Rattle.chain_build.specs.Setup.{setup_content}
use Rattle.report_text.specs.Setups.{trace_setup}
use Rattle.replay_core.specs.Traffic.{traffic_of}
use Rattle.replay_core.proofs.Playing.{cut_in_lines, played_more, ran_out_behind}
use Rattle.replay_core.proofs.player.Player.step.Goals as goal

pub returns-in-Err-NoMemory-clause-steps : goal.returns-in-Err-NoMemory-clause-steps
returns-in-Err-NoMemory-clause-steps g c = (
  λ start events played trace. ran_out_behind (record {
    setup = trace_setup (setup_content c.args.setup.now);
    old = option_map (λ x. x.value.kept) c.args.self.now.session.started;
    new = option_map (λ x. x.value.kept) c.take.new.self.session.started;
    event = content c.args.event.now;
    traffic = traffic_of (g.D.Driver.log c.args.driver.now) (g.D.Driver.log c.take.new.driver)
        (changed (g.K.Sink.held c.args.out.now) (g.K.Sink.held c.args.out.now) (g.K.Sink.faults c.args.out.now) (g.K.Sink.faults c.args.out.now));
  }) start events played trace c.in-Err-NoMemory.ensures.err refl,
  refl,
)

pub returns-in-Ok-put_all-clause-steps : goal.returns-in-Ok-put_all-clause-steps
returns-in-Ok-put_all-clause-steps g c = (
  λ start events played trace. played_more (record {
    setup = trace_setup (setup_content c.args.setup.now);
    old = option_map (λ x. x.value.kept) c.args.self.now.session.started;
    new = option_map (λ x. x.value.kept) c.take.new.self.session.started;
    event = content c.args.event.now;
    traffic = traffic_of (g.D.Driver.log c.args.driver.now) (g.D.Driver.log c.take.new.driver)
        (changed (g.K.Sink.held c.args.out.now) (g.K.Sink.held c.put_all.new.sink) (g.K.Sink.faults c.args.out.now) (g.K.Sink.faults c.put_all.new.sink));
  }) start events c.take.new.self.lines.items played trace c.in-Ok.ensures.ok
      (c.in-Ok-put_all.ensures.all ∙ ap (grown (g.K.Sink.held c.args.out.now)) c.deref.ensures.value),
  c.in-Ok-put_all.ensures.cause.stood,
  c.in-Ok.ensures.within,
)

pub returns-in-Err-clause-steps : goal.returns-in-Err-clause-steps
returns-in-Err-clause-steps g c = (
  λ start events played trace. cut_in_lines (record {
    setup = trace_setup (setup_content c.args.setup.now);
    old = option_map (λ x. x.value.kept) c.args.self.now.session.started;
    new = option_map (λ x. x.value.kept) c.take.new.self.session.started;
    event = content c.args.event.now;
    traffic = traffic_of (g.D.Driver.log c.args.driver.now) (g.D.Driver.log c.take.new.driver)
        (changed (g.K.Sink.held c.args.out.now) (g.K.Sink.held c.put_all.new.sink) (g.K.Sink.faults c.args.out.now) (g.K.Sink.faults c.put_all.new.sink));
  }) start events c.take.new.self.lines.items played trace c.in-Ok.ensures.ok
      (subst (λ ls. GrownByFront (g.K.Sink.held c.args.out.now) (g.K.Sink.held c.put_all.new.sink) ls) c.deref.ensures.value c.in-Err.ensures.front),
  c.in-Err.ensures.cause.failed,
  c.in-Ok.ensures.within,
)
