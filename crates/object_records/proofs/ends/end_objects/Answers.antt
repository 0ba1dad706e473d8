use Rattle.std.proofs.Common.{rules}
use Rattle.object_records.specs.Records.{DoesNotEnd}
use Rattle.object_records.specs.Shape.{arguments_of}
use Rattle.object_records.proofs.Sweeping.{none_ended}
use Rattle.object_records.proofs.ends.end_objects.Goals as goal

pub returns-in-None-clause-records : goal.returns-in-None-clause-records
returns-in-None-clause-records c =
    let quiet : DoesNotEnd c.args.effect = search rules in none_ended c.args.table.now.records (arguments_of c.args.call.now) c.args.effect quiet
