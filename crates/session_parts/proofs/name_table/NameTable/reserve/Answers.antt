use Rattle.std.proofs.Common.{arith, subst}
use Rattle.session_parts.specs.Names.{NameTableState, TakesRoom}
use Rattle.session_parts.specs.Scratch.{scratch_room}
use Rattle.session_parts.proofs.Capacities.{keeps_all}
use Rattle.session_parts.proofs.name_table.NameTable.reserve.Goals as goal

pub returns-in_err-reserve-clause-room : goal.returns-in_err-reserve-clause-room
returns-in_err-reserve-clause-room c =
    let inside = c.self.inside in
    subst (λ (t : NameTableState). TakesRoom 0 0 t.room (record { names = c.reserve.new.self.spare; births = inside.objects.spare; links = inside.objects.links; owners = inside.objects.owners; handed = inside.handed.spare; retrieved = inside.retrieved.spare; bytes = inside.retrieved.bytes; scratch = scratch_room inside.scratch })) c.self.view_is (record {
      names = omega (arith, c.in_err-reserve.ensures.spare);
      births = omega arith;
      links = omega arith;
      owners = omega arith;
      handed = omega arith;
      retrieved = omega arith;
      bytes = omega arith;
      scratch = keeps_all (scratch_room inside.scratch);
    })

pub returns-in_err-reserve-2-clause-room : goal.returns-in_err-reserve-2-clause-room
returns-in_err-reserve-2-clause-room c =
    let inside = c.self.inside in
    subst (λ (t : NameTableState). TakesRoom 0 0 t.room (record { names = c.reserve.new.self.spare; births = c.reserve-2.new.self.spare; links = c.reserve-2.new.self.links; owners = c.reserve-2.new.self.owners; handed = inside.handed.spare; retrieved = inside.retrieved.spare; bytes = inside.retrieved.bytes; scratch = scratch_room inside.scratch })) c.self.view_is (record {
      names = omega (arith, c.in_ok-reserve.ensures.spare);
      births = omega (arith, c.in_err-reserve-2.ensures.spare);
      links = omega (arith, c.in_err-reserve-2.ensures.links);
      owners = c.in_err-reserve-2.ensures.owners;
      handed = omega arith;
      retrieved = omega arith;
      bytes = omega arith;
      scratch = keeps_all (scratch_room inside.scratch);
    })

pub returns-in_err-reserve-3-clause-room : goal.returns-in_err-reserve-3-clause-room
returns-in_err-reserve-3-clause-room c =
    let inside = c.self.inside in
    subst (λ (t : NameTableState). TakesRoom 0 0 t.room (record { names = c.reserve.new.self.spare; births = c.reserve-2.new.self.spare; links = c.reserve-2.new.self.links; owners = c.reserve-2.new.self.owners; handed = inside.handed.spare; retrieved = c.reserve-3.new.self.spare; bytes = c.reserve-3.new.self.bytes; scratch = scratch_room inside.scratch })) c.self.view_is (record {
      names = omega (arith, c.in_ok-reserve.ensures.spare);
      births = omega (arith, c.in_ok-reserve-2.ensures.spare);
      links = omega (arith, c.in_ok-reserve-2.ensures.links);
      owners = c.in_ok-reserve-2.ensures.owners;
      handed = omega arith;
      retrieved = omega (arith, c.in_err-reserve-3.ensures.spare);
      bytes = omega (arith, c.in_err-reserve-3.ensures.bytes);
      scratch = keeps_all (scratch_room inside.scratch);
    })

pub returns-in_err-reserve-4-clause-room : goal.returns-in_err-reserve-4-clause-room
returns-in_err-reserve-4-clause-room c =
    let inside = c.self.inside in
    subst (λ (t : NameTableState). TakesRoom 0 0 t.room (record { names = c.reserve.new.self.spare; births = c.reserve-2.new.self.spare; links = c.reserve-2.new.self.links; owners = c.reserve-2.new.self.owners; handed = c.reserve-4.new.self.spare; retrieved = c.reserve-3.new.self.spare; bytes = c.reserve-3.new.self.bytes; scratch = scratch_room inside.scratch })) c.self.view_is (record {
      names = omega (arith, c.in_ok-reserve.ensures.spare);
      births = omega (arith, c.in_ok-reserve-2.ensures.spare);
      links = omega (arith, c.in_ok-reserve-2.ensures.links);
      owners = c.in_ok-reserve-2.ensures.owners;
      handed = omega (arith, c.in_err-reserve-4.ensures.spare);
      retrieved = omega (arith, c.in_ok-reserve-3.ensures.spare);
      bytes = omega (arith, c.in_ok-reserve-3.ensures.bytes);
      scratch = keeps_all (scratch_room inside.scratch);
    })
