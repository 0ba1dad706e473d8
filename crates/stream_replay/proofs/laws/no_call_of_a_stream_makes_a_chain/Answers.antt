use Rattle.std.proofs.Common.{◌≡◌, false, subst}
use Rattle.std.specs.List.{flat_map, list_any}
use Rattle.replay_model.specs.Stop.{exceeds_layers}
use Rattle.stream_model.specs.FileParts.{FileParts, StreamPart, parts}
use Rattle.stream_plans.specs.Cuts.{devices_cut}
use Rattle.stream_replay.proofs.Sections.{streams_within}
use Rattle.stream_replay.proofs.laws.no_call_of_a_stream_makes_a_chain.Goals as goal

pub returns : goal.returns
returns c s file w =
    subst (λ (f : FileParts). list_any (exceeds_layers s) (flat_map (λ (x : StreamPart). x.events) f.streams) ≡ false) w.is
    (streams_within s (parts w.lines) (devices_cut (parts w.lines)) (c.each_call_is_on_a_planned_device.ensures.on w.lines w.order w.grammar))
