use Rattle.std.proofs.Common.{◌≡◌, map, take}
use Rattle.model_driver.specs.Driver.{reply_shown}
use Rattle.stream_replay.proofs.played.same_replies.Given as goal

abbrev pub invariant-loop-k : goal.invariant-loop-k
invariant-loop-k l = map reply_shown (take l.k l.some) ≡ map reply_shown (take l.k l.others)
