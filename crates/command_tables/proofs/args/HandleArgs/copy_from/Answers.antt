use Rattle.std.proofs.Common.{ap, arith}
use Rattle.command_tables.specs.Handles.{Handles}
use Rattle.command_tables.proofs.Cut.{counts_seen}
use Rattle.command_tables.proofs.args.HandleArgs.copy_from.Goals as goal

pub returns-in_err-make_room-clause-succeeds : goal.returns-in_err-make_room-clause-succeeds
returns-in_err-make_room-clause-succeeds g c room =
    let counts = counts_seen _ _ _ _ _ c.other.invariant (ap (λ (h : Handles). h.lists) c.other.view_is) in
    absurd (omega (arith, counts.params, room.slots, ap (λ (h : Handles). h.slots) c.self.view_is, c.in_err-make_room.ensures.full, c.len.ensures, c.other.inside.lengths.ok.0))

pub returns-in_err-make_room-2-clause-succeeds : goal.returns-in_err-make_room-2-clause-succeeds
returns-in_err-make_room-2-clause-succeeds g c room =
    let counts = counts_seen _ _ _ _ _ c.other.invariant (ap (λ (h : Handles). h.lists) c.other.view_is) in
    absurd (omega (arith, counts.handles, room.room, ap (λ (h : Handles). h.room) c.self.view_is, c.in_err-make_room-2.ensures.full, c.len-2.ensures, c.other.inside.handles.ok.0))

pub returns-in_err-make_room-3-clause-succeeds : goal.returns-in_err-make_room-3-clause-succeeds
returns-in_err-make_room-3-clause-succeeds g c room =
    let counts = counts_seen _ _ _ _ _ c.other.invariant (ap (λ (h : Handles). h.lists) c.other.view_is) in
    absurd (omega (arith, counts.handles, room.room, ap (λ (h : Handles). h.room) c.self.view_is, c.in_err-make_room-3.ensures.full, c.len-3.ensures, c.other.inside.unborn.ok.0, c.other.invariant.all, c.other.invariant.marked))
