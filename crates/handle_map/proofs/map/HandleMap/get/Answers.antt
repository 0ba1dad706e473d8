use Rattle.std.proofs.Common.{◌∙◌, sym}
use Rattle.handle_map.specs.Spans.{entries_of}
use Rattle.handle_map.proofs.PairLists.{no_values, none_placed}
use Rattle.handle_map.proofs.Spreading.{got, shown_pair}
use Rattle.handle_map.proofs.map.HandleMap.get.Goals as goal

pub returns-in-None-clause-none : goal.returns-in-None-clause-none
returns-in-None-clause-none g c =
    rw (← c.self.view_is)
    (no_values (entries_of c.self.inside.values.items c.self.inside.set.pairs c.self.inside.spans.items) c.args.ty c.args.id
    (shown_pair c.self.inside.values.items c.self.inside.set.pairs c.self.inside.spans.items c.args.ty c.args.id c.self.invariant.all
    ∙ none_placed 0 c.self.inside.set.pairs c.args.ty c.args.id (sym c.place.ensures.place ∙ c.in-None.is)))

pub returns-in-Some-clause-found : goal.returns-in-Some-clause-found
returns-in-Some-clause-found g c =
    rw (← c.self.view_is)
    (got c.self.inside.values.items c.deref.result.now c.self.inside.set.pairs c.self.inside.spans.items c.args.ty c.args.id c.in-Some.place c.index-span.result.now c.self.invariant.all (sym c.in-Some.is ∙ c.place.ensures.place)
    c.index-span.ensures c.deref.ensures.value)
