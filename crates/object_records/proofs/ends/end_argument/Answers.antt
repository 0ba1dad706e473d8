use Rattle.object_model.specs.History.{ends_with}
use Rattle.object_records.proofs.Sweeping.{nothing_named, one_named}
use Rattle.object_records.proofs.ends.end_argument.Goals as goal

pub returns-in-None-clause-records : goal.returns-in-None-clause-records
returns-in-None-clause-records c = nothing_named ends_with c.args.table.now.records c.args.a c.in-None.ensures

pub returns-in-Some-clause-records : goal.returns-in-Some-clause-records
returns-in-Some-clause-records c = one_named ends_with c.args.table.now.records c.end_named.new.table.records c.args.a c.in-Some.named c.in-Some.ensures c.end_named.ensures.records
