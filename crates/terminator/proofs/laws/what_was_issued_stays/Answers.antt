use Rattle.terminator.proofs.Staying.{drivers_stay, ids_stay, kept_stays, settled_stays}
use Rattle.terminator.proofs.laws.what_was_issued_stays.Goals as goal

pub returns : goal.returns
returns c = record { drivers = drivers_stay; settled = settled_stays; ids = ids_stay; kept = kept_stays }
