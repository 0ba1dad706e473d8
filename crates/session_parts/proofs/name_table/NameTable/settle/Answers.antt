use Rattle.std.proofs.Common.{◌≤◌, ◌*◌, arith, length, subst}
use Rattle.command_tables.specs.Table.{row_of}
use Rattle.object_model.specs.Keys.{key_payload}
use Rattle.session_tables.specs.Lined.{owners_made}
use Rattle.session_tables.specs.Shown.{args_shown}
use Rattle.session_parts.specs.Names.{NameTableState, TakesRoom}
use Rattle.session_parts.specs.Scratch.{scratch_room}
use Rattle.session_parts.proofs.Capacities.{keeps_all}
use Rattle.session_parts.proofs.name_table.NameTable.settle.Goals as goal

pub returns-clause-room : goal.returns-clause-room
returns-clause-room c =
    let inside = c.self.inside in
    let n = length c.args.born.now in
    let k = n * length (key_payload c.args.call.cmd c.args.call.payload.now) in
    let new = c.settle.new in
    subst (λ (t : NameTableState). length (owners_made t.kept.births (args_shown c.args.call.args.now) (row_of c.args.call.cmd).effect) ≤ 3 → TakesRoom n k t.room (record { names = new.names.spare; births = new.objects.spare; links = new.objects.links; owners = new.objects.owners; handed = inside.handed.spare; retrieved = new.retrieved.spare; bytes = new.retrieved.bytes; scratch = scratch_room inside.scratch })) c.self.view_is (λ few. record {
      names = c.settle.ensures.names_room;
      births = c.settle.ensures.births_room;
      links = c.settle.ensures.links few;
      owners = c.settle.ensures.owners;
      handed = omega arith;
      retrieved = c.settle.ensures.retrieved_room;
      bytes = c.settle.ensures.bytes;
      scratch = keeps_all (scratch_room inside.scratch);
    })
