use Rattle.std.proofs.Common.{◌≡◌, ◌∙◌, ◌<◌, ℕ, Global, List, Vec, ap, arith, get_or, length, map, subst}
use Rattle.trace_format.specs.declared.event.Event.{Event}
use Rattle.trace_format.specs.Content.{content}
use Rattle.model_driver.specs.Seats.{FitsIn, IsEmptyLog, IsPolicy}
use Rattle.threaded_replay.specs.Files.{file_parts}
use Rattle.device_shard.proofs.Measured.{all_pushed}
use Rattle.stream_replay.specs.Seating.{needs_of_events}
use Rattle.stream_replay.proofs.Seating.{room_more}
use Rattle.stream_replay.proofs.seats.make_seats.Goals as goal

pub loop-stream-preserved : goal.loop-stream-preserved
loop-stream-preserved g c =
    let streams = c.args.file.now.streams.items in
    let i = c.loop-stream.stream-index in
    let stream = c.stream-item.result in
    let seat = c.in_ok-seat.seat in
    let old = c.loop-stream.seats.items in
    let new = c.push.new.self.items in
    let pushed = c.in_ok-push.ensures.items in
    let same = c.deref-stream-items.ensures.value in
    let less : i < length streams = omega (arith, c.loop-stream-test.true, ap (λ (xs : List (ℕ × Vec Event Global)). length xs) same) in
    let at : stream ≡ get_or streams i stream = c.stream-item.is ∙ ap (λ (xs : List (ℕ × Vec Event Global)). get_or xs i stream) same in
    let fits = subst (λ (es : List Event). FitsIn (needs_of_events (map content es)) (g.D.SharedDriver.room seat)) c.deref.ensures.value c.in_ok-seat.ensures.room in
    record {
      room = room_more g.D.SharedDriver.room (file_parts c.args.file.now) streams i stream old new seat less at pushed c.loop-stream.invariant.room fits;
      fresh = all_pushed (λ s. IsEmptyLog (g.D.SharedDriver.log s)) old new seat pushed c.loop-stream.invariant.fresh c.in_ok-seat.ensures.fresh;
      policy = all_pushed (λ s. IsPolicy (g.D.SharedDriver.answers_by s) c.args.policy) old new seat pushed c.loop-stream.invariant.policy c.in_ok-seat.ensures.policy;
    }
