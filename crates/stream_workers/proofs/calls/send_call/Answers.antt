use Rattle.std.proofs.Common.{false, not, sym, ◌∙◌, arith}
use Rattle.model_driver.specs.Driver.{call_shown}
use Rattle.model_driver.specs.Seats.{room_for}
use Rattle.stream_workers.specs.Work.{needs_of_begin, needs_of_calls}
use Rattle.stream_workers.proofs.Sending.{due_few, first_fits, fits_through, goes_on, is_not_sent, is_sent, needs_few, stops_at}
use Rattle.stream_workers.proofs.calls.send_call.Goals as goal

pub call-requires-clause-shape : goal.call-requires-clause-shape
call-requires-clause-shape g c =
    let r = c.requires.to_send in
    let goes = goes_on r.1.skip (sym (c.is_marked.ensures r.3.front (not r.1.skip) (c.deref.ensures.value ∙ r.3.marked)) ∙ c.if-is_marked.true) in
    (r.3.told_is goes).shape

pub call-requires-clause-room : goal.call-requires-clause-room
call-requires-clause-room g c =
    let r = c.requires.to_send in
    let w = c.args.worker.now in
    let goes = goes_on r.1.skip (sym (c.is_marked.ensures r.3.front (not r.1.skip) (c.deref.ensures.value ∙ r.3.marked)) ∙ c.if-is_marked.true) in
    fits_through (room_for (call_shown w.call)) (needs_of_begin r.1.begin) (g.D.SharedDriver.room w.seat) (needs_few r.1.begin (call_shown w.call) (r.3.told_is goes)) (first_fits (needs_of_begin r.1.begin) (needs_of_calls r.2) (g.D.SharedDriver.room w.seat) r.3.seat)

pub call-requires-clause-reply : goal.call-requires-clause-reply
call-requires-clause-reply g c =
    let r = c.requires.to_send in
    let w = c.args.worker.now in
    let goes = goes_on r.1.skip (sym (c.is_marked.ensures r.3.front (not r.1.skip) (c.deref.ensures.value ∙ r.3.marked)) ∙ c.if-is_marked.true) in
    let due = due_few (call_shown w.call) in
    let asked = (r.3.told_is goes).asked in
    let enough = r.3.reply in
    omega (arith, due, asked, enough)

pub returns-then-is_marked-clause-sent : goal.returns-then-is_marked-clause-sent
returns-then-is_marked-clause-sent g c k b rest open_ =
    let goes = goes_on b.skip (sym (c.is_marked.ensures open_.front (not b.skip) (c.deref.ensures.value ∙ open_.marked)) ∙ c.if-is_marked.true) in
    is_sent g.D.SharedDriver.room g.D.SharedDriver.log k b rest c.args.worker.now open_ goes c.call.new.seat c.call.new.reply c.call.ensures.answers c.call.ensures.log c.call.ensures.room c.call.ensures.capacity

pub returns-else-is_marked-clause-sent : goal.returns-else-is_marked-clause-sent
returns-else-is_marked-clause-sent g c k b rest open_ =
    let stops = stops_at b.skip (sym (c.is_marked.ensures open_.front (not b.skip) (c.deref.ensures.value ∙ open_.marked)) ∙ c.if-is_marked.false) in
    is_not_sent g.D.SharedDriver.room g.D.SharedDriver.log k b rest c.args.worker.now open_ stops
