use Rattle.std.proofs.Common.{◌∙◌, ap}
use Rattle.std.specs.Prelude.{is_some}
use Rattle.handle_map.proofs.PairLists.{some_placed}
use Rattle.handle_map.proofs.set.HandleSet.contains.Goals as goal

pub returns : goal.returns
returns g c = c.is_some.ensures ∙ (ap is_some c.place.ensures.place ∙ some_placed 0 c.args.self.now.pairs c.args.ty c.args.id)
