use Rattle.std.proofs.Common.{◌++◌, ◌<◌, ◌^◌, length, reverse, subst, sym}
use Rattle.trace_format.specs.Grammar.{IsEvent}
use Rattle.chain_model.specs.Gaps.{IsGapped}
use Rattle.chain_model.specs.Traces.{IsTrace}
use Rattle.stream_model.specs.FileParts.{FileParts, parts}
use Rattle.stream_model.specs.Order.{events}
use Rattle.merge_model.specs.Merges.{IsMerge, merged_events}
use Rattle.merge_model.proofs.Parting.{all_reverse}
use Rattle.merge_facts.proofs.Apart.{streams_apart}
use Rattle.stream_replay.proofs.Sections.{few_events, merge_within, setup_gapped, setup_short, turned_sections}
use Rattle.stream_plans.specs.Cuts.{devices_cut}
use Rattle.stream_replay.proofs.laws.sections_follow_each_other.Goals as goal

pub returns-clause-setup : goal.returns-clause-setup
returns-clause-setup c file w =
    let trace : IsTrace (events w.lines) = record { grammar = w.grammar; accepted = c.a_stream_file_is_a_trace.ensures.accepted w.lines w.order } in
    subst (λ (f : FileParts). IsGapped (reverse f.setup)) w.is
    (setup_gapped (parts w.lines) (events w.lines) (c.a_trace_has_new_names.ensures (events w.lines) trace) (c.a_stream_file_is_a_trace.ensures.order w.lines w.order))

pub returns-clause-short : goal.returns-clause-short
returns-clause-short c file w =
    subst (λ (f : FileParts). length f.setup < 2 ^ 63) w.is
    (setup_short (parts w.lines) (events w.lines) (c.a_stream_file_is_within_its_limits.ensures.events w.lines w.order) (c.a_stream_file_is_a_trace.ensures.order w.lines w.order))

pub returns-clause-whole : goal.returns-clause-whole
returns-clause-whole c file merge w is =
    let here : IsMerge (parts w.lines).streams merge = subst (λ (f : FileParts). IsMerge f.streams merge) (sym w.is) is in
    let trace : IsTrace (reverse (merged_events (parts w.lines) merge)) = record {
      grammar = all_reverse IsEvent (merged_events (parts w.lines) merge) (c.a_merge_is_a_whole_trace.ensures.grammar w.lines merge w.order w.grammar here);
      accepted = c.a_merge_is_a_whole_trace.ensures.accepted w.lines merge w.order w.grammar here;
    } in
    subst (λ (f : FileParts). IsGapped (reverse f.teardown ++ (reverse merge ++ reverse f.setup))) w.is
    (subst IsGapped (turned_sections (parts w.lines) merge) (c.a_trace_has_new_names.ensures (reverse (merged_events (parts w.lines) merge)) trace))

pub returns-clause-few : goal.returns-clause-few
returns-clause-few c file merge w is =
    let here : IsMerge (parts w.lines).streams merge = subst (λ (f : FileParts). IsMerge f.streams merge) (sym w.is) is in
    subst (λ (f : FileParts). length (merged_events f merge) < 2 ^ 63) w.is
    (few_events (length (merged_events (parts w.lines) merge)) (length (events w.lines)) (c.a_merge_is_a_whole_trace.ensures.events w.lines merge w.order here) (c.a_stream_file_is_within_its_limits.ensures.events w.lines w.order))

pub returns-clause-within : goal.returns-clause-within
returns-clause-within c s file merge w is =
    let here : IsMerge (parts w.lines).streams merge = subst (λ (f : FileParts). IsMerge f.streams merge) (sym w.is) is in
    merge_within s (parts w.lines) (devices_cut (parts w.lines)) merge (c.each_call_is_on_a_planned_device.ensures.on w.lines w.order w.grammar) (streams_apart w.lines w.order) here
