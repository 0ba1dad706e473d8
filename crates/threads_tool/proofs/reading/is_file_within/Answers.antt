use Rattle.std.proofs.Common.{◌≡◌, ◌∙◌, ◌&&◌, Bool, List, ap, map, subst}
use Rattle.std.specs.Prelude.{not}
use Rattle.std.specs.List.{list_any}
use Rattle.trace_format.specs.declared.event.Event.{Event}
use Rattle.trace_format.specs.Content.{TraceEvent, content}
use Rattle.replay_model.specs.Stop.{exceeds_layers}
use Rattle.chain_build.specs.Setup.{setup_content}
use Rattle.report_text.specs.Setups.{trace_setup}
use Rattle.stream_model.specs.FileParts.{all_events}
use Rattle.threaded_replay.specs.Files.{file_parts}
use Rattle.threads_tool.proofs.Within.{none_of_all}
use Rattle.threads_tool.proofs.reading.is_file_within.Goals as goal

pub returns-then-first : goal.returns-then-first
returns-then-first c =
    let s = trace_setup (setup_content c.args.setup.now) in
    let f : TraceEvent → Bool = exceeds_layers s in
    let same : List Event → Bool = λ es. not (list_any f (map content es)) in
    subst (λ (b : Bool). (b && c.in_ok-last.last) ≡ not (list_any f (all_events (file_parts c.args.file.now)))) c.if-first.true
    (none_of_all f (file_parts c.args.file.now) c.in_ok-first.first c.in_ok-last.last (c.no_call_of_a_stream_makes_a_chain.ensures s (file_parts c.args.file.now) c.requires)
    (c.in_ok-first.ensures ∙ ap same c.deref.ensures.value) (c.in_ok-last.ensures ∙ ap same c.deref-2.ensures.value))
