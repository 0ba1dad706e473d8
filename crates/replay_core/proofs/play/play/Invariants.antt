use Rattle.std.proofs.Common.{◌≡◌, ◌≤◌, ◌+◌, ◌-◌, None}
use Rattle.std.specs.Option.{option_map}
use Rattle.chain_build.specs.Setup.{setup_content}
use Rattle.replay_base.specs.Changes.{changed}
use Rattle.replay_base.specs.Reader.{state_of}
use Rattle.replay_model.specs.declared.TheConstants.{MOST_LINES}
use Rattle.report_text.specs.Setups.{trace_setup}
use Rattle.replay_core.specs.Traffic.{traffic_of}
use Rattle.replay_core.proofs.Progress.{SoFar}
use Rattle.replay_core.proofs.play.play.Given as goal

abbrev pub invariant-loop-error : goal.invariant-loop-error
invariant-loop-error g l = record {
  fine : l.reader.error ≡ None;
  same : g.S.Source.loan l.reader.source ≡ g.S.Source.loan l.fn.reader.source;
  most : l.number ≤ MOST_LINES + 1;
  stood : g.K.Sink.faults l.out ≡ g.K.Sink.faults l.fn.out;
  policy : g.D.Driver.answers_by l.driver ≡ g.D.Driver.answers_by l.fn.driver;
  far : SoFar (trace_setup (setup_content l.setup)) (g.S.Source.left l.fn.reader.source) (g.S.Source.faults l.fn.reader.source) (state_of g.S.Source.left g.S.Source.faults l.reader)
      l.player.state (option_map (λ x. x.value.kept) l.player.session.started) l.number
      (traffic_of (g.D.Driver.log l.fn.driver) (g.D.Driver.log l.driver) (changed (g.K.Sink.held l.fn.out) (g.K.Sink.held l.out) (g.K.Sink.faults l.fn.out) (g.K.Sink.faults l.out)));
}

abbrev pub decreases-loop-error : goal.decreases-loop-error
decreases-loop-error g l = MOST_LINES + 1 - l.number
