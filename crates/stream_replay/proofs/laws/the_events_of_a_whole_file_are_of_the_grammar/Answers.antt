use Rattle.std.proofs.Common.{subst, sym}
use Rattle.std.specs.List.{AllByRecursion}
use Rattle.trace_format.specs.Grammar.{IsEvent}
use Rattle.stream_model.specs.FileParts.{FileParts, parts}
use Rattle.stream_model.specs.Order.{events}
use Rattle.merge_model.specs.Merges.{IsMerge}
use Rattle.stream_replay.proofs.Sections.{all_of_merge, all_of_setup, all_of_teardown}
use Rattle.stream_replay.proofs.laws.the_events_of_a_whole_file_are_of_the_grammar.Goals as goal

pub returns-clause-setup : goal.returns-clause-setup
returns-clause-setup c file w =
    subst (λ (f : FileParts). AllByRecursion IsEvent f.setup) w.is
    (all_of_setup IsEvent (parts w.lines) (events w.lines) (c.a_stream_file_is_a_trace.ensures.order w.lines w.order) w.grammar)

pub returns-clause-merge : goal.returns-clause-merge
returns-clause-merge c file merge w is =
    let here : IsMerge (parts w.lines).streams merge = subst (λ (f : FileParts). IsMerge f.streams merge) (sym w.is) is in
    all_of_merge IsEvent (parts w.lines) merge (c.a_merge_is_a_whole_trace.ensures.grammar w.lines merge w.order w.grammar here)

pub returns-clause-teardown : goal.returns-clause-teardown
returns-clause-teardown c file w =
    subst (λ (f : FileParts). AllByRecursion IsEvent f.teardown) w.is
    (all_of_teardown IsEvent (parts w.lines) (events w.lines) (c.a_stream_file_is_a_trace.ensures.order w.lines w.order) w.grammar)
