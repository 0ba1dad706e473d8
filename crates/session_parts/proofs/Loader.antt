-- What the loader finds.
use Rattle.std.proofs.Common.{◌≡◌, Bool, true, false, not, refl}
use Rattle.object_model.specs.Findings.{is_failing}
use Rattle.object_model.specs.Rules.{Failure, unless}

-- a failure stands where the test doesn't hold
pub failing_unless : (t : Bool) (f : Failure) → is_failing (unless t f) ≡ not t
failing_unless true f = refl
failing_unless false f = refl
