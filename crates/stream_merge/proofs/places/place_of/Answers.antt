use Rattle.std.proofs.Common.{◌==◌, ◌∙◌, sym}
use Rattle.threaded_replay.specs.Files.{stream_part}
use Rattle.stream_merge.proofs.Counts.{position_map}
use Rattle.stream_merge.proofs.places.place_of.Goals as goal

pub returns : goal.returns
returns c = c.first_place.ensures ∙ sym (position_map stream_part (λ s. s.thread == c.args.thread) c.args.streams.now)
