use Rattle.std.proofs.Common.{refl}
use Rattle.std.specs.Option.{option_map}
use Rattle.chain_build.specs.Setup.{setup_content}
use Rattle.replay_base.specs.Changes.{changed}
use Rattle.replay_base.specs.Reader.{state_of}
use Rattle.report_text.specs.Setups.{trace_setup}
use Rattle.replay_core.specs.Given.{source_of}
use Rattle.replay_core.specs.Traffic.{traffic_of}
use Rattle.replay_core.proofs.Runs.{whole_fails, whole_played}
use Rattle.replay_core.proofs.run.play_whole.Goals as goal

pub returns-in-Ok-clause-plays : goal.returns-in-Ok-clause-plays
returns-in-Ok-clause-plays g c =
    whole_played (trace_setup (setup_content c.args.setup.now)) (option_map (λ x. x.value.kept) c.play.new.player.session.started) (source_of (state_of g.S.Source.left g.S.Source.faults c.args.reader.now) (state_of g.S.Source.left g.S.Source.faults c.play.new.reader))
    c.tally.result.calls c.tally.result.skipped c.tally.result.reports
    (traffic_of (g.D.Driver.log c.args.driver.now) (g.D.Driver.log c.play.new.driver) (changed (g.K.Sink.held c.args.out.now) (g.K.Sink.held c.play.new.out) (g.K.Sink.faults c.args.out.now) (g.K.Sink.faults c.play.new.out)))
    (changed (g.K.Sink.held c.play.new.out) (g.K.Sink.held c.put_end.new.out) (g.K.Sink.faults c.play.new.out) (g.K.Sink.faults c.put_end.new.out))
    c.in-Ok.ensures.plays c.tally.ensures refl refl c.put_end.result c.put_end.ensures

pub returns-in-Err-clause-plays : goal.returns-in-Err-clause-plays
returns-in-Err-clause-plays g c =
    whole_fails (trace_setup (setup_content c.args.setup.now)) (option_map (λ x. x.value.kept) c.play.new.player.session.started) (source_of (state_of g.S.Source.left g.S.Source.faults c.args.reader.now) (state_of g.S.Source.left g.S.Source.faults c.play.new.reader))
    (traffic_of (g.D.Driver.log c.args.driver.now) (g.D.Driver.log c.play.new.driver) (changed (g.K.Sink.held c.args.out.now) (g.K.Sink.held c.play.new.out) (g.K.Sink.faults c.args.out.now) (g.K.Sink.faults c.play.new.out)))
    c.in-Err.error c.in-Err.ensures.plays
