use Rattle.std.proofs.Common.{map, take}
use Rattle.std.specs.List.{AllByRecursion}
use Rattle.model_driver.specs.Seats.{IsEmptyLog, IsPolicy}
use Rattle.threaded_replay.specs.Files.{file_parts, stream_part}
use Rattle.stream_crew.specs.Crews.{HaveRoom}
use Rattle.stream_replay.proofs.Seating.{calls_by}
use Rattle.stream_replay.proofs.seats.make_seats.Given as goal

abbrev pub invariant-loop-stream : goal.invariant-loop-stream
invariant-loop-stream g l = record {
  room : HaveRoom g.D.SharedDriver.room l.seats.items (map (calls_by (file_parts l.file)) (map stream_part (take l.stream-index l.file.streams.items)));
  fresh : AllByRecursion (λ seat. IsEmptyLog (g.D.SharedDriver.log seat)) l.seats.items;
  policy : AllByRecursion (λ seat. IsPolicy (g.D.SharedDriver.answers_by seat) l.policy) l.seats.items;
}
