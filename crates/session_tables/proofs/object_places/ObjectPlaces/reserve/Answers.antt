use Rattle.std.proofs.Common.{refl}
use Rattle.command_tables.specs.Tests.{same_type}
use Rattle.session_tables.specs.declared.object_places.ObjectPlaces.{ObjectPlaces}
use Rattle.session_tables.proofs.FilingLemmas.{kept_same}
use Rattle.session_tables.proofs.object_places.ObjectPlaces.reserve.Goals as goal

pub returns-in_err-reserve-clause-kept : goal.returns-in_err-reserve-clause-kept
returns-in_err-reserve-clause-kept g c =
    let m = c.args.self.now in
    let n : ObjectPlaces g.row.V.Denot = record { rows = m.rows; others = m.others; far = c.reserve.new.self; empty = m.empty; alloc = m.alloc } in
    kept_same m n refl (λ empty row at. refl) (λ q. refl) c.in_err-reserve.ensures.items

pub returns-in_err-reserve-2-clause-kept : goal.returns-in_err-reserve-2-clause-kept
unfolding same_type
returns-in_err-reserve-2-clause-kept g c =
    let m = c.args.self.now in
    let n : ObjectPlaces g.row.V.Denot = record { rows = m.rows; others = c.reserve-2.new.self; far = c.reserve.new.self; empty = m.empty; alloc = m.alloc } in
    kept_same m n refl (λ empty row at. refl) c.in_err-reserve-2.ensures.entries.2 c.in_ok-reserve.ensures.items

pub returns-clause-kept : goal.returns-clause-kept
unfolding same_type
returns-clause-kept g c =
    let m = c.args.self.now in
    let n : ObjectPlaces g.row.V.Denot = record { rows = m.rows; others = c.reserve-2.new.self; far = c.reserve.new.self; empty = m.empty; alloc = m.alloc } in
    kept_same m n refl (λ empty row at. refl) c.in_ok-reserve-2.ensures.entries.2 c.in_ok-reserve.ensures.items
