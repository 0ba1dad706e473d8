use Rattle.std.proofs.Common.{◌≤◌, length, refl, subst, sym, vec_capacity}
use Rattle.command_tables.specs.Calls.{HasRoomFor, call_content}
use Rattle.chain_model.specs.Chained.{form_by}
use Rattle.chain_model.specs.Handed.{handle_in}
use Rattle.chain_model.specs.Simulated.{base_of}
use Rattle.dispatch_chain.specs.Forms.{CanHold}
use Rattle.dispatch_chain.specs.Room.{AreRoomy}
use Rattle.dispatch_chain.specs.Rows.{entries_of}
use Rattle.dispatch_chain.specs.Seats.{kinds_of}
use Rattle.session_parts.specs.Judging.{walk_at}
use Rattle.session_tables.specs.Shown.{args_shown}
use Rattle.session_parts.specs.Opening.{begin_content, opened_read}
use Rattle.session_parts.proofs.Judged.{came_down}
use Rattle.session_parts.proofs.parts.SessionParts.come_down.Goals as goal

pub returns-clause-down : goal.returns-clause-down
returns-clause-down g c =
    came_down c.args.self.now c.objects.result.now.births c.handed.result.now.handed (opened_read c.args.number (begin_content c.args.begin) (args_shown c.args.args.now)) (call_content c.look.new.form) c.look.new.held c.look.new.verdict c.look.new.states
    c.end_some.new.names c.objects.ensures c.handed.ensures refl c.in_ok-look.ensures.found c.end_some.ensures.past c.end_some.ensures.rest

pub returns-in_err-look-clause-succeeds : goal.returns-in_err-look-clause-succeeds
returns-in_err-look-clause-succeeds g c = λ room.
    let o = opened_read c.args.number (begin_content c.args.begin) (args_shown c.args.args.now) in
    let states = c.args.self.now.states in
    let is = sym c.handed.ensures in
    let wrong = c.in_err-look.ensures.succeeds room.handles
    (subst (λ hs. HasRoomFor c.args.form.now (form_by (handle_in hs) (base_of o) o.args)) is room.form)
    (subst (λ hs. AreRoomy (walk_at states.kept hs o).states states.rooms) is room.roomy)
    room.first
    (subst (λ hs. length (walk_at states.kept hs o).found.reports ≤ vec_capacity c.args.verdict.now.findings) is room.found)
    (subst (λ hs. CanHold c.args.held.now.rooms (length (entries_of o.cmd (kinds_of states.kept))) (form_by (handle_in hs) (base_of o) o.args)) is room.held) in
    cc wrong
