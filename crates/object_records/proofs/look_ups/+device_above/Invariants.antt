use Rattle.object_records.specs.Table.{before_owned}
use Rattle.object_records.proofs.look_ups.+device_above.Given as goal

abbrev pub decreases-device_above : goal.decreases-device_above
decreases-device_above l = before_owned l.owner
