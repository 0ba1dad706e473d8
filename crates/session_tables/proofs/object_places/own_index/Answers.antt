use Rattle.std.proofs.Common.{◌∙◌, ap, sym}
use Rattle.std.specs.HashMap.{get}
use Rattle.object_model.specs.Objects.{same}
use Rattle.session_tables.specs.Filing.{own_index}
use Rattle.session_tables.proofs.FilingLemmas.{own_missing, own_there, own_within}
use Rattle.session_tables.proofs.object_places.own_index.Goals as goal

pub returns-in-Some-clause-index : goal.returns-in-Some-clause-index
returns-in-Some-clause-index g c =
    own_there c.args.far.now c.args.object (get same c.args.others.now c.args.object) c.in-Some.at c.is_own.result (sym c.in-Some.is ∙ c.other.ensures) c.is_own.ensures c.if-is_own.true

pub returns-in-Some-clause-within : goal.returns-in-Some-clause-within
returns-in-Some-clause-within g c = own_within c.args.far.now c.args.object c.in-Some.at c.is_own.result c.is_own.ensures c.if-is_own.true

pub returns-in_default-clause-index : goal.returns-in_default-clause-index
returns-in_default-clause-index g c =
    own_missing c.args.far.now c.args.object (get same c.args.others.now c.args.object) c.in-Some.at c.is_own.result (sym c.in-Some.is ∙ c.other.ensures) c.is_own.ensures c.if-is_own.false

pub returns-in_default-2-clause-index : goal.returns-in_default-2-clause-index
returns-in_default-2-clause-index g c = ap (own_index c.args.far.now c.args.object) (sym c.in_default.is ∙ c.other.ensures)
