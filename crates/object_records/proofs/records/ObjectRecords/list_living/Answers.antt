use Rattle.std.proofs.Common.{length, ap, arith}
use Rattle.std.specs.Prelude.{filter}
use Rattle.object_model.specs.Objects.{is_in}
use Rattle.object_model.specs.Uses.{owned_in}
use Rattle.object_records.specs.Records.{KeptObjects}
use Rattle.object_records.proofs.records.ObjectRecords.list_living.Goals as goal

pub returns-clause-succeeds : goal.returns-clause-succeeds
returns-clause-succeeds c = λ low.
    let long = ap (λ (v : KeptObjects). length (filter (λ o. is_in v.kept.living o) (owned_in v.kept.births c.args.ty c.args.owner))) c.self.view_is in c.list_living.ensures.succeeds (omega (arith, long, low))
