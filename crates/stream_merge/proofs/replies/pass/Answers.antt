use Rattle.std.proofs.Common.{◌<◌, ◌∙◌, ℕ, Bool, Global, Vec, length, map, set, sym, ap, subst, arith}
use Rattle.std.proofs.lemmas.List.{length-map}
use Rattle.stream_log.specs.Log.{line_of}
use Rattle.model_driver.specs.Driver.{reply_shown}
use Rattle.trace_format.specs.declared.event.Event.{Event}
use Rattle.threaded_replay.specs.Files.{stream_part}
use Rattle.stream_merge.specs.Passing.{Moved}
use Rattle.stream_merge.proofs.Counts.{place_within}
use Rattle.stream_merge.proofs.Passed.{moved_at}
use Rattle.stream_merge.proofs.replies.pass.Goals as goal

pub returns : goal.returns
returns c =
    let sent = map (λ (s : Vec Bool Global). s.items) c.args.sent.now in
    let streams = map stream_part c.args.streams.now in
    let within : c.in-Some.place < length c.args.streams.now =
    omega (arith, place_within streams c.args.entry.now.thread c.in-Some.place (sym c.in-Some.ensures), length-map c.args.streams.now stream_part) in
    subst (λ o. Moved o streams sent (line_of c.args.entry.now) c.args.cursors.now (map reply_shown c.args.replies.now.items) (set c.args.cursors.now c.in-Some.place c.pass_entry.new.cursor) (map reply_shown c.pass_entry.new.replies.items)) c.in-Some.ensures
    (moved_at c.args.streams.now c.in-Some.place c.index-streams-place.result sent c.marks_at-marks.result.now (line_of c.args.entry.now) c.args.cursors.now c.cursor_at-cursor.result c.pass_entry.new.cursor
    (length c.args.replies.now.items) (map reply_shown c.args.replies.now.items) (map reply_shown c.pass_entry.new.replies.items) c.deref.result.now within c.index-streams-place.is
    (c.deref.ensures.value ∙ ap (λ (x : ℕ × Vec Event Global). x.1.items) (sym c.index-streams-place.is)) c.marks_at-marks.ensures c.cursor_at-cursor.ensures
    (sym (length-map c.args.replies.now.items reply_shown)) c.in_ok-pass_entry.ensures.cursor c.in_ok-pass_entry.ensures.replies)
