use Rattle.std.proofs.Common.{◌≡◌, false, map, take}
use Rattle.std.specs.List.{list_any}
use Rattle.trace_format.specs.Content.{content}
use Rattle.chain_build.specs.Setup.{setup_content}
use Rattle.replay_model.specs.Stop.{exceeds_layers}
use Rattle.report_text.specs.Setups.{trace_setup}
use Rattle.stream_replay.proofs.limits.is_within.Given as goal

abbrev pub invariant-loop-event : goal.invariant-loop-event
invariant-loop-event l = list_any (exceeds_layers (trace_setup (setup_content l.setup))) (map content (take l.event-index l.events)) ≡ false
