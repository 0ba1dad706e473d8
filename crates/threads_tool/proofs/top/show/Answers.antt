use Rattle.std.proofs.Common.{List, map, subst, sym}
use Rattle.std.specs.Prelude.{Err}
use Rattle.std.specs.List.{AllByRecursion}
use Rattle.std.specs.Option.{option_map}
use Rattle.chain_build.specs.Setup.{setup_content}
use Rattle.merge_model.specs.Merges.{merged_events}
use Rattle.replay_base.specs.Changes.{Change, changed}
use Rattle.report_text.specs.Setups.{trace_setup}
use Rattle.stream_replay.specs.Replayed.{HasReplayed}
use Rattle.threaded_replay.specs.Files.{file_parts}
use Rattle.trace_format.specs.Content.{content}
use Rattle.trace_format.specs.Grammar.{IsEvent}
use Rattle.trace_format.specs.declared.event.Event.{Event}
use Rattle.threads_tool.specs.Printed.{printed}
use Rattle.threads_tool.specs.Stops.{Writes}
use Rattle.threads_tool.proofs.Stopping.{not_shown}
use Rattle.threads_tool.proofs.top.show.Goals as goal

pub print-requires-clause-setup : goal.print-requires-clause-setup
print-requires-clause-setup g c = c.the_events_of_a_whole_file_are_of_the_grammar.ensures.setup (file_parts c.args.file.now) c.requires.whole

pub print-requires-clause-merge : goal.print-requires-clause-merge
print-requires-clause-merge g c =
    let file = file_parts c.args.file.now in
    let merge = map content c.in_ok-merge.field-0.merge.items in
    subst (λ (es : List Event). AllByRecursion IsEvent (map content es)) (sym c.deref.ensures.value)
    (c.the_events_of_a_whole_file_are_of_the_grammar.ensures.merge file merge c.requires.whole c.in_ok-merge.ensures.replayed.merged)

pub print-requires-clause-teardown : goal.print-requires-clause-teardown
print-requires-clause-teardown g c = c.the_events_of_a_whole_file_are_of_the_grammar.ensures.teardown (file_parts c.args.file.now) c.requires.whole

pub returns-clause-cut : goal.returns-clause-cut
returns-clause-cut g c =
    let s = trace_setup (setup_content c.args.setup.now) in
    let file = file_parts c.args.file.now in
    let sink : Change = changed (g.K.Sink.held c.args.out.now) (g.K.Sink.held c.print.new.out) (g.K.Sink.faults c.args.out.now) (g.K.Sink.faults c.print.new.out) in
    let r = c.in_ok-merge.field-0 in
    let kept = option_map (λ x. x.value.kept) r.session.started in
    let replayed : HasReplayed g.D.SharedDriver.log s file (map content r.merge.items) r.lines.items kept r.seats.items = c.in_ok-merge.ensures.replayed in
    not_shown g.D.SharedDriver.log s file (map content r.merge.items) r.lines.items kept r.seats.items replayed sink c.in-Err.stop
    (subst (λ (es : List Event). Writes (printed s (merged_events file (map content es))) sink (Err c.in-Err.stop)) c.deref.ensures.value c.in-Err.ensures.writes)
