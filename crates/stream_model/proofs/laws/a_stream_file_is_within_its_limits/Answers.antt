use Rattle.stream_model.proofs.Within.{devices_within, events_within, names_within, streams_within}
use Rattle.stream_model.proofs.laws.a_stream_file_is_within_its_limits.Goals as goal

pub returns : goal.returns
returns c = record { streams = streams_within; names = names_within; events = events_within; devices = devices_within }
