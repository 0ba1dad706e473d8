use Rattle.stream_model.proofs.Within.{of_one_thread, threads_distinct}
use Rattle.stream_model.proofs.laws.a_stream_is_of_one_thread.Goals as goal

pub returns : goal.returns
returns c = record { events = of_one_thread; distinct = threads_distinct }
