use Rattle.std.proofs.Common.{◌∙◌, sym}
use Rattle.handle_map.proofs.Spreading.{shown_distinct, shown_length}
use Rattle.handle_map.proofs.map.HandleMap.len.Goals as goal

pub returns-clause-count : goal.returns-clause-count
returns-clause-count g c = rw (← c.self.view_is) (c.len.ensures.count ∙ sym (shown_length c.self.inside.values.items c.self.inside.set.pairs c.self.inside.spans.items c.self.invariant.all))

pub returns-clause-distinct : goal.returns-clause-distinct
returns-clause-distinct g c = rw (← c.self.view_is) (shown_distinct c.self.inside.values.items c.self.inside.set.pairs c.self.inside.spans.items c.self.invariant.all c.len.ensures.distinct)
