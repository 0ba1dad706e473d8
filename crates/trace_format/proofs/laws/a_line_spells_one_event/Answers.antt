use Rattle.trace_format.proofs.Lines.{no_line_feed, one_event}
use Rattle.trace_format.proofs.laws.a_line_spells_one_event.Goals as goal

pub returns : goal.returns
returns c = record { one_event = one_event; no_line_feed = no_line_feed }
