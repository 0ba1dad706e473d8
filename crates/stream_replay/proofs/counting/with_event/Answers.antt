use Rattle.std.proofs.Common.{◌≡◌, ◌∙◌, ap, length, map, sym, arith}
use Rattle.std.specs.Prelude.{List}
use Rattle.trace_format.specs.Content.{BeginEvent, TraceEvent, Begin, arg_content, content}
use Rattle.trace_format.specs.declared.event.Name.{Name}
use Rattle.trace_format.specs.declared.event.TraceArg.{TraceArg}
use Rattle.model_driver.specs.Seats.{joined_room}
use Rattle.shard_room.specs.Needs.{names_in}
use Rattle.device_shard.specs.Rooms.{names_of}
use Rattle.stream_workers.specs.Work.{needs_of_begin}
use Rattle.stream_replay.specs.Seating.{needs_at, room_counted}
use Rattle.stream_replay.proofs.Seating.{same_room}
use Rattle.stream_replay.proofs.counting.with_event.Goals as goal

pub returns-in_ok-more-in-Begin : goal.returns-in_ok-more-in-Begin
returns-in_ok-more-in-Begin c =
    let b : BeginEvent =
    record { thread = c.in-Begin.thread; cmd = c.in-Begin.cmd; args = map arg_content c.in-Begin.args.items; results = c.in-Begin.results.items; code = c.in-Begin.code; payload = c.in-Begin.payload.items } in
    let now : content c.args.event.now ≡ Begin b = ap content c.in-Begin.is in
    let names = ap (λ (xs : List TraceArg). names_in (names_of xs)) c.deref.ensures.value in
    let results = ap (λ (xs : List Name). length xs) c.deref-in-Begin.ensures.value in
    let bytes = ap (λ (xs : List _). length xs) c.deref-in-Begin-2.ensures.value in
    let more = c.in_ok-more-in-Begin.ensures in
    same_room (room_counted c.in_ok-more-in-Begin.more) (joined_room (room_counted c.args.counts) (needs_of_begin b)) more.calls (omega (arith, more.handles, names, results)) (omega (arith, more.bytes, bytes))
    ∙ ap (λ (e : TraceEvent). joined_room (room_counted c.args.counts) (needs_at e)) (sym now)
