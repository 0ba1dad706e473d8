use Rattle.stream_model.proofs.Orders.{lines_accepted, lines_closed}
use Rattle.stream_model.proofs.WholeTraces.{all_in_order}
use Rattle.stream_model.proofs.laws.a_stream_file_is_a_trace.Goals as goal

pub returns : goal.returns
returns c = record { accepted = lines_accepted; closed = λ lines order. lines_closed lines; order = all_in_order }
