use Rattle.std.proofs.Common.{ap, map, arith}
use Rattle.command_tables.specs.Table.{RowSpec, seen_param}
use Rattle.shard_room.specs.Needs.{Needs}
use Rattle.device_shard.proofs.Measured.{begin_within}
use Rattle.device_shard.proofs.measure.with_begin.Goals as goal

pub returns-clause-within : goal.returns-clause-within
returns-clause-within c = λ b of are paid few.
    let m : Needs = record { wide = c.max.result; args = c.max-2.result; results = c.args.measure.results; bytes = c.max-3.result; uses = c.max-4.result; born = c.args.measure.born } in
    begin_within m b c.args.cmd c.args.args.now c.args.payload.now (map seen_param c.row.result.now.params.now) c.widest-wide.result c.in_ok-names.names c.in_ok-uses.uses of are paid few c.if-args-gt6.false c.widest-wide.ensures
    (omega (arith, c.max.ensures)) c.in_ok-names.ensures (omega (arith, c.max-2.ensures)) (omega (arith, c.max-3.ensures)) (ap (λ (r : RowSpec). r.params) c.row.ensures) c.in_ok-uses.ensures (omega (arith, c.max-4.ensures))
