use Rattle.std.proofs.Common.{◌≡◌, false, map, take}
use Rattle.std.specs.List.{list_any}
use Rattle.std.specs.Option.{option_map}
use Rattle.trace_format.specs.Content.{content}
use Rattle.replay_model.specs.Stop.{exceeds_layers}
use Rattle.chain_build.specs.Setup.{setup_content}
use Rattle.report_text.specs.Setups.{trace_setup}
use Rattle.event_replay.specs.Through.{GoesThrough}
use Rattle.event_replay.proofs.replaying.replay_events.Given as goal

abbrev pub invariant-loop-event : goal.invariant-loop-event
invariant-loop-event g l = record {
  goes : GoesThrough (trace_setup (setup_content l.setup)) (option_map (λ x. x.value.kept) l.fn.session.started) (option_map (λ x. x.value.kept) l.session.started) (map content (take l.event-index l.events))
      (record { old_log = g.D.Driver.log l.fn.driver; log = g.D.Driver.log l.driver; old_lines = l.fn.lines.items; lines = l.lines.items });
  within : list_any (exceeds_layers (trace_setup (setup_content l.setup))) (map content (take l.event-index l.events)) ≡ false;
  policy : g.D.Driver.answers_by l.driver ≡ g.D.Driver.answers_by l.fn.driver;
}
