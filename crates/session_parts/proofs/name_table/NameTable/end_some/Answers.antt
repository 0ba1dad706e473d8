use Rattle.std.proofs.Common.{ap, arith, subst, sym}
use Rattle.session_tables.specs.Lined.{AreLined}
use Rattle.session_parts.specs.Names.{NameTableState, TakesRoom}
use Rattle.session_parts.specs.Scratch.{scratch_room}
use Rattle.session_parts.proofs.Capacities.{keeps_all}
use Rattle.session_parts.proofs.name_table.NameTable.end_some.Goals as goal

pub end_some-requires : goal.end_some-requires
end_some-requires c = subst AreLined (sym (ap (λ (n : NameTableState). n.kept.births) c.self.view_is)) c.requires

pub returns-clause-room : goal.returns-clause-room
returns-clause-room c =
    let inside = c.self.inside in
    let done = c.end_some.new.self in
    subst (λ (t : NameTableState). TakesRoom 0 0 t.room (record { names = inside.named.spare; births = done.spare; links = done.links; owners = done.owners; handed = inside.handed.spare; retrieved = inside.retrieved.spare; bytes = inside.retrieved.bytes; scratch = scratch_room inside.scratch })) c.self.view_is (record {
      names = omega arith;
      births = omega (arith, c.end_some.ensures.spare);
      links = omega (arith, c.end_some.ensures.links);
      owners = c.end_some.ensures.owners;
      handed = omega arith;
      retrieved = omega arith;
      bytes = omega arith;
      scratch = keeps_all (scratch_room inside.scratch);
    })
