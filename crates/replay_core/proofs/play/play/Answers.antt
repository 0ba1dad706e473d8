use Rattle.std.proofs.Common.{◌∙◌, ap, arith, refl, subst, sym, Ok}
use Rattle.std.specs.Option.{option_map}
use Rattle.chain_build.specs.Setup.{setup_content}
use Rattle.replay_base.specs.Changes.{changed}
use Rattle.replay_base.specs.Reader.{line_of, state_of}
use Rattle.report_text.specs.Setups.{trace_setup}
use Rattle.replay_core.specs.Given.{TakesLineOr, TakesNext}
use Rattle.replay_core.specs.Traffic.{traffic_of}
use Rattle.replay_core.proofs.Header.{halts_first}
use Rattle.replay_core.proofs.Progress.{far_behind, far_ends, far_finishes, far_next, far_same, far_start, in_step}
use Rattle.replay_core.proofs.play.play.Goals as goal

pub returns-in-Err-clause-plays : goal.returns-in-Err-clause-plays
returns-in-Err-clause-plays g c =
    halts_first (trace_setup (setup_content c.args.setup.now)) (option_map (λ x. x.value.kept) c.args.player.now.session.started)
    (state_of g.S.Source.left g.S.Source.faults c.args.reader.now) (state_of g.S.Source.left g.S.Source.faults c.read_header.new.reader) c.in-Err.error
    (traffic_of (g.D.Driver.log c.args.driver.now) (g.D.Driver.log c.args.driver.now) (changed (g.K.Sink.held c.args.out.now) (g.K.Sink.held c.args.out.now) (g.K.Sink.faults c.args.out.now) (g.K.Sink.faults c.args.out.now)))
    (c.in-Err.ensures.header (trace_setup (setup_content c.args.setup.now))) refl refl refl

pub loop-error-init : goal.loop-error-init
loop-error-init g c = record {
  fine = (c.in-Ok.ensures.header (trace_setup (setup_content c.args.setup.now))).fine;
  same = c.read_header.ensures.same;
  most = omega arith;
  stood = refl;
  policy = refl;
  far = far_start (trace_setup (setup_content c.args.setup.now)) (state_of g.S.Source.left g.S.Source.faults c.args.reader.now) (state_of g.S.Source.left g.S.Source.faults c.read_header.new.reader) c.args.player.now.state (option_map (λ x. x.value.kept) c.args.player.now.session.started)
      (traffic_of (g.D.Driver.log c.args.driver.now) (g.D.Driver.log c.args.driver.now) (changed (g.K.Sink.held c.args.out.now) (g.K.Sink.held c.args.out.now) (g.K.Sink.faults c.args.out.now) (g.K.Sink.faults c.args.out.now)))
      c.requires.unread c.requires.none (c.in-Ok.ensures.header (trace_setup (setup_content c.args.setup.now))) c.requires.state c.requires.session refl refl;
}

pub line_behind-requires : goal.line_behind-requires
line_behind-requires g c = record { fine = c.loop-error.invariant.fine }

pub returns-in-Err-line_behind-clause-plays : goal.returns-in-Err-line_behind-clause-plays
returns-in-Err-line_behind-clause-plays g c =
    far_behind (trace_setup (setup_content c.args.setup.now)) (g.S.Source.left c.args.reader.now.source) (g.S.Source.faults c.args.reader.now.source) (state_of g.S.Source.left g.S.Source.faults c.loop-error.reader) (state_of g.S.Source.left g.S.Source.faults c.line_behind.new.reader) c.loop-error.player.state (option_map (λ x. x.value.kept) c.loop-error.player.session.started) c.loop-error.number
    (g.D.Driver.log c.args.driver.now) (g.D.Driver.log c.loop-error.driver) (g.K.Sink.held c.args.out.now) (g.K.Sink.held c.loop-error.out) (g.K.Sink.held c.line_behind.new.out) (g.K.Sink.faults c.args.out.now) (g.K.Sink.faults c.loop-error.out) (g.K.Sink.faults c.line_behind.new.out)
    (line_of c.line_behind.new.reader) c.in-Err-line_behind.error c.loop-error.invariant.far c.line_behind.ensures.ahead c.loop-error.invariant.stood c.in-Err-line_behind.ensures.takes

pub returns-in-Ok-false-clause-plays : goal.returns-in-Ok-false-clause-plays
returns-in-Ok-false-clause-plays g c =
    far_finishes (trace_setup (setup_content c.args.setup.now)) (g.S.Source.left c.args.reader.now.source) (g.S.Source.faults c.args.reader.now.source) (state_of g.S.Source.left g.S.Source.faults c.loop-error.reader) (state_of g.S.Source.left g.S.Source.faults c.line_behind.new.reader) c.loop-error.player.state (option_map (λ x. x.value.kept) c.loop-error.player.session.started) c.loop-error.number
    (traffic_of (g.D.Driver.log c.args.driver.now) (g.D.Driver.log c.loop-error.driver) (changed (g.K.Sink.held c.args.out.now) (g.K.Sink.held c.line_behind.new.out) (g.K.Sink.faults c.args.out.now) (g.K.Sink.faults c.line_behind.new.out)))
    (line_of c.line_behind.new.reader) c.finish.result (far_same (trace_setup (setup_content c.args.setup.now)) (g.S.Source.left c.args.reader.now.source) (g.S.Source.faults c.args.reader.now.source) (state_of g.S.Source.left g.S.Source.faults c.loop-error.reader) c.loop-error.player.state (option_map (λ x. x.value.kept) c.loop-error.player.session.started) c.loop-error.number
    (g.D.Driver.log c.args.driver.now) (g.D.Driver.log c.loop-error.driver) (g.K.Sink.held c.args.out.now) (g.K.Sink.held c.loop-error.out) (g.K.Sink.held c.line_behind.new.out) (g.K.Sink.faults c.args.out.now) (g.K.Sink.faults c.loop-error.out) (g.K.Sink.faults c.line_behind.new.out)
    c.in-Ok-false.ensures.takes.1.0 c.in-Ok-false.ensures.takes.1.1 c.loop-error.invariant.far) (c.in-Ok-false.ensures.takes.1.1 ∙ c.loop-error.invariant.stood)
    (subst (λ b. TakesLineOr (state_of g.S.Source.left g.S.Source.faults c.loop-error.reader) (state_of g.S.Source.left g.S.Source.faults c.line_behind.new.reader) c.loop-error.number (line_of c.line_behind.new.reader) (Ok b)) c.in-Ok-false.field-0-test c.in-Ok-false.ensures.takes.0)
    c.finish.ensures

pub play_line-requires-clause-together : goal.play_line-requires-clause-together
play_line-requires-clause-together g c =
    in_step (trace_setup (setup_content c.args.setup.now)) (g.S.Source.left c.args.reader.now.source) (g.S.Source.faults c.args.reader.now.source) (state_of g.S.Source.left g.S.Source.faults c.loop-error.reader) c.loop-error.player.state (option_map (λ x. x.value.kept) c.loop-error.player.session.started) c.loop-error.number
    (traffic_of (g.D.Driver.log c.args.driver.now) (g.D.Driver.log c.loop-error.driver) (changed (g.K.Sink.held c.args.out.now) (g.K.Sink.held c.loop-error.out) (g.K.Sink.faults c.args.out.now) (g.K.Sink.faults c.loop-error.out))) c.loop-error.invariant.far

pub returns-in-Err-play_line-clause-plays : goal.returns-in-Err-play_line-clause-plays
returns-in-Err-play_line-clause-plays g c =
    far_ends (record {
      setup = trace_setup (setup_content c.args.setup.now);
      text = c.line.result.now;
      number = c.loop-error.number;
      old_state = c.loop-error.player.state;
      state = c.play_line.new.self.state;
      old = option_map (λ x. x.value.kept) c.loop-error.player.session.started;
      new = option_map (λ x. x.value.kept) c.play_line.new.self.session.started;
      traffic = traffic_of (g.D.Driver.log c.loop-error.driver) (g.D.Driver.log c.play_line.new.driver)
          (changed (g.K.Sink.held c.line_behind.new.out) (g.K.Sink.held c.play_line.new.out) (g.K.Sink.faults c.line_behind.new.out) (g.K.Sink.faults c.play_line.new.out));
    }) c.in-Err-play_line.error (record { log = g.D.Driver.log c.args.driver.now; held = g.K.Sink.held c.args.out.now; faults = g.K.Sink.faults c.args.out.now })
    (g.S.Source.left c.args.reader.now.source) (g.S.Source.faults c.args.reader.now.source) (state_of g.S.Source.left g.S.Source.faults c.loop-error.reader) (state_of g.S.Source.left g.S.Source.faults c.line_behind.new.reader) (far_same (trace_setup (setup_content c.args.setup.now)) (g.S.Source.left c.args.reader.now.source) (g.S.Source.faults c.args.reader.now.source) (state_of g.S.Source.left g.S.Source.faults c.loop-error.reader) c.loop-error.player.state (option_map (λ x. x.value.kept) c.loop-error.player.session.started) c.loop-error.number
    (g.D.Driver.log c.args.driver.now) (g.D.Driver.log c.loop-error.driver) (g.K.Sink.held c.args.out.now) (g.K.Sink.held c.loop-error.out) (g.K.Sink.held c.line_behind.new.out) (g.K.Sink.faults c.args.out.now) (g.K.Sink.faults c.loop-error.out) (g.K.Sink.faults c.line_behind.new.out)
    c.in-Ok-true.ensures.takes.1.0 c.in-Ok-true.ensures.takes.1.1 c.loop-error.invariant.far)
    (subst (λ t. TakesNext (state_of g.S.Source.left g.S.Source.faults c.loop-error.reader) (state_of g.S.Source.left g.S.Source.faults c.line_behind.new.reader) c.loop-error.number t) (sym c.line.ensures) (subst (λ b. TakesLineOr (state_of g.S.Source.left g.S.Source.faults c.loop-error.reader) (state_of g.S.Source.left g.S.Source.faults c.line_behind.new.reader) c.loop-error.number (line_of c.line_behind.new.reader) (Ok b)) c.in-Ok-true.field-0-test c.in-Ok-true.ensures.takes.0))
    c.line_behind.ensures.ahead (c.in-Ok-true.ensures.takes.1.1 ∙ c.loop-error.invariant.stood) c.in-Err-play_line.ensures.plays

pub loop-error-smaller : goal.loop-error-smaller
loop-error-smaller g c =
    let below = c.in-Ok-true.ensures.few (ap (λ b. Ok b) c.in-Ok-true.field-0-test) in
    omega (arith, below)

pub loop-error-preserved : goal.loop-error-preserved
loop-error-preserved g c =
    let below = c.in-Ok-true.ensures.few (ap (λ b. Ok b) c.in-Ok-true.field-0-test) in
    let takes = (subst (λ t. TakesNext (state_of g.S.Source.left g.S.Source.faults c.loop-error.reader) (state_of g.S.Source.left g.S.Source.faults c.line_behind.new.reader) c.loop-error.number t) (sym c.line.ensures) (subst (λ b. TakesLineOr (state_of g.S.Source.left g.S.Source.faults c.loop-error.reader) (state_of g.S.Source.left g.S.Source.faults c.line_behind.new.reader) c.loop-error.number (line_of c.line_behind.new.reader) (Ok b)) c.in-Ok-true.field-0-test c.in-Ok-true.ensures.takes.0)) in
    record {
      fine = takes.fine;
      same = c.line_behind.ensures.same ∙ c.loop-error.invariant.same;
      most = omega (arith, below);
      stood = c.in-Ok-play_line.ensures.plays.1 ∙ (c.in-Ok-true.ensures.takes.1.1 ∙ c.loop-error.invariant.stood);
      policy = c.play_line.ensures.policy ∙ c.loop-error.invariant.policy;
      far = far_next (record {
        setup = trace_setup (setup_content c.args.setup.now);
        text = c.line.result.now;
        number = c.loop-error.number;
        old_state = c.loop-error.player.state;
        state = c.play_line.new.self.state;
        old = option_map (λ x. x.value.kept) c.loop-error.player.session.started;
        new = option_map (λ x. x.value.kept) c.play_line.new.self.session.started;
        traffic = traffic_of (g.D.Driver.log c.loop-error.driver) (g.D.Driver.log c.play_line.new.driver)
            (changed (g.K.Sink.held c.line_behind.new.out) (g.K.Sink.held c.play_line.new.out) (g.K.Sink.faults c.line_behind.new.out) (g.K.Sink.faults c.play_line.new.out));
      }) (record { log = g.D.Driver.log c.args.driver.now; held = g.K.Sink.held c.args.out.now; faults = g.K.Sink.faults c.args.out.now })
          (g.S.Source.left c.args.reader.now.source) (g.S.Source.faults c.args.reader.now.source) (state_of g.S.Source.left g.S.Source.faults c.loop-error.reader) (state_of g.S.Source.left g.S.Source.faults c.line_behind.new.reader) (far_same (trace_setup (setup_content c.args.setup.now)) (g.S.Source.left c.args.reader.now.source) (g.S.Source.faults c.args.reader.now.source) (state_of g.S.Source.left g.S.Source.faults c.loop-error.reader) c.loop-error.player.state (option_map (λ x. x.value.kept) c.loop-error.player.session.started) c.loop-error.number
          (g.D.Driver.log c.args.driver.now) (g.D.Driver.log c.loop-error.driver) (g.K.Sink.held c.args.out.now) (g.K.Sink.held c.loop-error.out) (g.K.Sink.held c.line_behind.new.out) (g.K.Sink.faults c.args.out.now) (g.K.Sink.faults c.loop-error.out) (g.K.Sink.faults c.line_behind.new.out)
          c.in-Ok-true.ensures.takes.1.0 c.in-Ok-true.ensures.takes.1.1 c.loop-error.invariant.far) takes c.in-Ok-play_line.ensures.plays;
    }
