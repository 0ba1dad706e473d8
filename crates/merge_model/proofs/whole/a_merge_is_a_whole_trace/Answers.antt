use Rattle.merge_model.proofs.Joined.{whole_accepted, whole_closed, whole_events, whole_grammar, whole_names}
use Rattle.merge_model.proofs.whole.a_merge_is_a_whole_trace.Goals as goal

pub returns : goal.returns
returns c = record { accepted = whole_accepted; closed = whole_closed; grammar = whole_grammar; names = whole_names; events = whole_events }
