use Rattle.std.proofs.Common.{refl}
use Rattle.std.specs.Option.{option_map}
use Rattle.chain_build.specs.Setup.{setup_content}
use Rattle.replay_base.specs.Changes.{changed}
use Rattle.replay_base.specs.Reader.{state_of}
use Rattle.report_text.specs.Setups.{trace_setup}
use Rattle.replay_core.specs.Given.{source_of}
use Rattle.replay_core.specs.Traffic.{traffic_of}
use Rattle.replay_core.proofs.Runs.{ended, fails, fails_first}
use Rattle.replay_core.proofs.run.play_noted.Goals as goal

pub returns-in-Err-clause-cut : goal.returns-in-Err-clause-cut
returns-in-Err-clause-cut g c =
    fails_first (trace_setup (setup_content c.args.setup.now))
    (traffic_of (g.D.Driver.log c.args.driver.now) (g.D.Driver.log c.args.driver.now) (changed (g.K.Sink.held c.args.out.now) (g.K.Sink.held c.put_notes.new.out) (g.K.Sink.faults c.args.out.now) (g.K.Sink.faults c.put_notes.new.out)))
    (source_of (state_of g.S.Source.left g.S.Source.faults c.args.reader.now) (state_of g.S.Source.left g.S.Source.faults c.args.reader.now)) c.in-Err.error refl refl refl c.in-Err.ensures

pub returns-in-Err-play_whole-clause-cut : goal.returns-in-Err-play_whole-clause-cut
returns-in-Err-play_whole-clause-cut g c =
    fails (trace_setup (setup_content c.args.setup.now)) (record { log = g.D.Driver.log c.args.driver.now; held = g.K.Sink.held c.args.out.now; faults = g.K.Sink.faults c.args.out.now })
    (traffic_of (g.D.Driver.log c.args.driver.now) (g.D.Driver.log c.play_whole.new.driver) (changed (g.K.Sink.held c.put_notes.new.out) (g.K.Sink.held c.play_whole.new.out) (g.K.Sink.faults c.put_notes.new.out) (g.K.Sink.faults c.play_whole.new.out)))
    (option_map (λ x. x.value.kept) c.play_whole.new.player.session.started) (source_of (state_of g.S.Source.left g.S.Source.faults c.args.reader.now) (state_of g.S.Source.left g.S.Source.faults c.play_whole.new.reader)) c.in-Err-play_whole.error
    (record { log = refl; held = c.in-Ok.ensures.0; faults = c.in-Ok.ensures.1 }) c.in-Err-play_whole.ensures.plays

pub returns-in-Ok-play_whole-clause-ended : goal.returns-in-Ok-play_whole-clause-ended
returns-in-Ok-play_whole-clause-ended g c =
    ended (trace_setup (setup_content c.args.setup.now)) (record { log = g.D.Driver.log c.args.driver.now; held = g.K.Sink.held c.args.out.now; faults = g.K.Sink.faults c.args.out.now })
    (traffic_of (g.D.Driver.log c.args.driver.now) (g.D.Driver.log c.play_whole.new.driver) (changed (g.K.Sink.held c.put_notes.new.out) (g.K.Sink.held c.play_whole.new.out) (g.K.Sink.faults c.put_notes.new.out) (g.K.Sink.faults c.play_whole.new.out)))
    (option_map (λ x. x.value.kept) c.play_whole.new.player.session.started) (source_of (state_of g.S.Source.left g.S.Source.faults c.args.reader.now) (state_of g.S.Source.left g.S.Source.faults c.play_whole.new.reader))
    (record { log = refl; held = c.in-Ok.ensures.0; faults = c.in-Ok.ensures.1 }) c.in-Ok-play_whole.ensures.plays
