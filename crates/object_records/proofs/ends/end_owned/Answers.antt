use Rattle.std.proofs.Common.{sym}
use Rattle.object_records.proofs.Kept.{place_within}
use Rattle.object_records.proofs.Sweeping.{ended_owned, ended_unborn}
use Rattle.object_records.proofs.ends.end_owned.Goals as goal

pub end_below-requires-clause-place : goal.end_below-requires-clause-place
end_below-requires-clause-place c = place_within c.args.table.now.records c.args.owner c.in-Some.place (sym c.in-Some.ensures.place)

pub returns-in-None-clause-records : goal.returns-in-None-clause-records
returns-in-None-clause-records c =
    ended_unborn c.args.table.now.records c.args.owner c.in-None.ensures.owners c.in-None.ensures.once c.requires (sym c.in-None.ensures.place)

pub returns-in-Some-clause-records : goal.returns-in-Some-clause-records
returns-in-Some-clause-records c =
    ended_owned c.args.table.now.records c.end_below.new.table.records c.args.owner c.in-Some.place (sym c.in-Some.ensures.place) c.end_below.ensures.records
