use Rattle.object_records.specs.Table.{before_owned}
use Rattle.object_records.proofs.look_ups.+has_owner.Given as goal

abbrev pub decreases-has_owner : goal.decreases-has_owner
decreases-has_owner l = before_owned l.owner
