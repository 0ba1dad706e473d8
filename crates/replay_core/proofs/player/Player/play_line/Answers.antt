use Rattle.std.proofs.Common.{◌∙◌, ap, refl, subst, sym, Err}
use Rattle.std.specs.Option.{option_map}
use Rattle.trace_format.specs.Content.{content}
use Rattle.trace_format.specs.State.{Accepted, TraceSeen}
use Rattle.replay_base.specs.Changes.{changed}
use Rattle.chain_build.specs.Setup.{setup_content}
use Rattle.report_text.specs.Setups.{trace_setup}
use Rattle.replay_core.specs.Traffic.{traffic_of}
use Rattle.replay_core.proofs.Progress.{line_of_fault, line_of_step, line_ran_out}
use Rattle.replay_core.proofs.Sessions.{can_take}
use Rattle.replay_core.proofs.player.Player.play_line.Goals as goal

pub returns-in-Err-NoMemory-clause-plays : goal.returns-in-Err-NoMemory-clause-plays
returns-in-Err-NoMemory-clause-plays g c = (
  line_ran_out (record {
    setup = trace_setup (setup_content c.args.setup.now);
    text = c.args.text.now;
    number = c.args.number;
    old_state = c.args.self.now.state;
    state = c.args.self.now.state;
    old = option_map (λ x. x.value.kept) c.args.self.now.session.started;
    new = option_map (λ x. x.value.kept) c.args.self.now.session.started;
    traffic = traffic_of (g.D.Driver.log c.args.driver.now) (g.D.Driver.log c.args.driver.now)
        (changed (g.K.Sink.held c.args.out.now) (g.K.Sink.held c.args.out.now) (g.K.Sink.faults c.args.out.now) (g.K.Sink.faults c.args.out.now));
  }) (record { log = refl; held = refl }),
  refl,
)

pub step-stepped-requires-clause-can : goal.step-stepped-requires-clause-can
step-stepped-requires-clause-can g c =
    can_take (trace_setup (setup_content c.args.setup.now)) c.args.self.now.state c.accept.new.self _ c.args.number c.requires.together (content c.in-Ok.event) c.in-Ok-accept.call c.in-Ok.ensures.grammar
    (c.in-Ok-accept.ensures.ok c.requires.together.events c.requires.together.state_stands) c.ranges.number.fits

pub returns-in-Ok-accept-clause-plays : goal.returns-in-Ok-accept-clause-plays
returns-in-Ok-accept-clause-plays g c =
    line_of_step (record {
      setup = trace_setup (setup_content c.args.setup.now);
      text = c.args.text.now;
      number = c.args.number;
      old_state = c.args.self.now.state;
      state = c.step-stepped.new.self.state;
      old = option_map (λ x. x.value.kept) c.args.self.now.session.started;
      new = option_map (λ x. x.value.kept) c.step-stepped.new.self.session.started;
      traffic = traffic_of (g.D.Driver.log c.args.driver.now) (g.D.Driver.log c.step-stepped.new.driver)
          (changed (g.K.Sink.held c.args.out.now) (g.K.Sink.held c.step-stepped.new.out) (g.K.Sink.faults c.args.out.now) (g.K.Sink.faults c.step-stepped.new.out));
    }) (content c.in-Ok.event) c.in-Ok-accept.call c.step-stepped.result (record {
      read = c.in-Ok.ensures.answer;
      grammar = c.in-Ok.ensures.grammar;
      accepted = λ before stands. subst (λ (s : TraceSeen). Accepted s before (content c.in-Ok.event) c.in-Ok-accept.call) (sym c.step-stepped.ensures.state) (c.in-Ok-accept.ensures.ok before stands);
    }) c.step-stepped.ensures.steps

pub returns-in-Err-NoMemory-accept-clause-plays : goal.returns-in-Err-NoMemory-accept-clause-plays
returns-in-Err-NoMemory-accept-clause-plays g c = (
  line_ran_out (record {
    setup = trace_setup (setup_content c.args.setup.now);
    text = c.args.text.now;
    number = c.args.number;
    old_state = c.args.self.now.state;
    state = c.accept.new.self;
    old = option_map (λ x. x.value.kept) c.args.self.now.session.started;
    new = option_map (λ x. x.value.kept) c.args.self.now.session.started;
    traffic = traffic_of (g.D.Driver.log c.args.driver.now) (g.D.Driver.log c.args.driver.now)
        (changed (g.K.Sink.held c.args.out.now) (g.K.Sink.held c.args.out.now) (g.K.Sink.faults c.args.out.now) (g.K.Sink.faults c.args.out.now));
  }) (record { log = refl; held = refl }),
  refl,
)

pub returns-clause-plays : goal.returns-clause-plays
returns-clause-plays g c = (
  line_of_fault (record {
    setup = trace_setup (setup_content c.args.setup.now);
    text = c.args.text.now;
    number = c.args.number;
    old_state = c.args.self.now.state;
    state = c.accept.new.self;
    old = option_map (λ x. x.value.kept) c.args.self.now.session.started;
    new = option_map (λ x. x.value.kept) c.args.self.now.session.started;
    traffic = traffic_of (g.D.Driver.log c.args.driver.now) (g.D.Driver.log c.args.driver.now)
        (changed (g.K.Sink.held c.args.out.now) (g.K.Sink.held c.args.out.now) (g.K.Sink.faults c.args.out.now) (g.K.Sink.faults c.args.out.now));
  }) (content c.in-Ok.event) c.in-Err-Fault-accept.fault c.in-Ok.ensures.answer
      (c.accept.ensures.fault c.in-Err-Fault-accept.fault (c.in-Err-Fault-accept.is ∙ ap (λ e. Err e) c.in-Err-Fault-accept.field-0-is)) (record { log = refl; held = refl }),
  refl,
  refl,
)
