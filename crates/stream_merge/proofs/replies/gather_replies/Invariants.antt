use Rattle.std.proofs.Common.{map, take}
use Rattle.stream_log.specs.Log.{line_of}
use Rattle.model_driver.specs.Driver.{reply_shown}
use Rattle.threaded_replay.specs.Files.{file_parts}
use Rattle.stream_merge.proofs.Passed.{Passed}
use Rattle.stream_merge.proofs.replies.gather_replies.Given as goal

abbrev pub invariant-loop-entry : goal.invariant-loop-entry
invariant-loop-entry l = Passed (file_parts l.file).streams (map (λ s. s.items) l.sent) (map (λ e. line_of e.now) (take l.entry-index l.entries)) l.cursors.items (map reply_shown l.replies.items)
