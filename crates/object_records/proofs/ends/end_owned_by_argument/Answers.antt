use Rattle.object_model.specs.Objects.{is_in}
use Rattle.object_model.specs.History.{owners_in}
use Rattle.object_records.proofs.Sweeping.{nothing_named, one_named}
use Rattle.object_records.proofs.ends.end_owned_by_argument.Goals as goal

pub returns-in-None-clause-records : goal.returns-in-None-clause-records
returns-in-None-clause-records c = nothing_named (λ births o. is_in (owners_in births o)) c.args.table.now.records c.args.a c.in-None.ensures

pub returns-in-Some-clause-records : goal.returns-in-Some-clause-records
returns-in-Some-clause-records c = one_named (λ births o. is_in (owners_in births o)) c.args.table.now.records c.end_owned.new.table.records c.args.a c.in-Some.owner c.in-Some.ensures c.end_owned.ensures.records
