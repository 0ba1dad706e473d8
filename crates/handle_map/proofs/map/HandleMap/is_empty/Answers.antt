use Rattle.std.proofs.Common.{◌==◌, ◌∙◌, ap, sym}
use Rattle.handle_map.proofs.Spreading.{shown_length}
use Rattle.handle_map.proofs.map.HandleMap.is_empty.Goals as goal

pub returns : goal.returns
returns g c = rw (← c.self.view_is) (c.is_empty.ensures ∙ ap (λ n. n == 0) (sym (shown_length c.self.inside.values.items c.self.inside.set.pairs c.self.inside.spans.items c.self.invariant.all)))
