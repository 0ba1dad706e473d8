use Rattle.stream_model.proofs.Orders.{file_in_order}
use Rattle.stream_model.proofs.laws.what_was_read_is_a_stream_file.Goals as goal

pub returns : goal.returns
returns c = file_in_order
