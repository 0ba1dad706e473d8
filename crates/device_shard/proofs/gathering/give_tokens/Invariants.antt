use Rattle.std.proofs.Common.{◌≡◌, [], ◌++◌, map, nat_eq, take}
use Rattle.std.specs.List.{IsDistinct}
use Rattle.stream_log.specs.Log.{seen_view}
use Rattle.stream_model.specs.FileParts.{StreamPart}
use Rattle.device_shard.specs.Plans.{stream_planned}
use Rattle.device_shard.proofs.Gathered.{threads_from}
use Rattle.device_shard.proofs.gathering.give_tokens.Given as goal

abbrev pub invariant-loop-stream : goal.invariant-loop-stream
invariant-loop-stream l = record {
  owner : l.owner ≡ record (l.fn.owner) { held = l.owner.held };
  held : l.owner.held ≡ threads_from l.streams l.stream-index;
  distinct : IsDistinct nat_eq (threads_from l.streams l.stream-index);
  tokens : l.tokens.items ≡ l.fn.tokens.items ++ map (λ (s : StreamPart). (l.device, seen_view l.log s.thread [])) (map stream_planned (take l.stream-index l.streams));
}
