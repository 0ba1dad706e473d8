use Rattle.std.proofs.Common.{◌≡◌, ◌∙◌, Some, false, sym, arith}
use Rattle.handle_map.specs.Pairs.{has_pair, place_of, with_values}
use Rattle.handle_map.specs.Spans.{entries_of, put_at}
use Rattle.handle_map.proofs.PairLists.{greatest_so, none_placed, on_ok_is, put_placed, with_new}
use Rattle.handle_map.proofs.Spreading.{shown_length, shown_pair, shown_place}
use Rattle.handle_map.proofs.map.HandleMap.insert.Goals as goal

pub put-requires : goal.put-requires
put-requires g c = rw (← c.self.view_is) (omega (arith, c.in-Some.ensures.within, shown_length c.self.inside.values.items c.self.inside.set.pairs c.self.inside.spans.items c.self.invariant.all))

pub add-requires : goal.add-requires
add-requires g c = (
  omega arith,
  rw (← c.self.view_is)
      (shown_pair c.self.inside.values.items c.self.inside.set.pairs c.self.inside.spans.items c.args.ty c.args.id c.self.invariant.all
      ∙ none_placed 0 c.self.inside.set.pairs c.args.ty c.args.id (sym c.place.ensures.place ∙ c.in-None.is)),
)

pub returns-in-Some-clause-ok : goal.returns-in-Some-clause-ok
returns-in-Some-clause-ok g c =
    let at : place_of (entries_of c.self.inside.values.items c.self.inside.set.pairs c.self.inside.spans.items) c.args.ty c.args.id ≡ Some c.in-Some.place
    = shown_place 0 c.self.inside.values.items c.self.inside.set.pairs c.self.inside.spans.items c.args.ty c.args.id c.self.invariant.all ∙ (sym c.place.ensures.place ∙ c.in-Some.is) in
    let same : put_at c.args.self.now.entries c.in-Some.place c.args.values.now ≡ with_values c.args.self.now.entries c.args.ty c.args.id c.args.values.now
    = rw (← c.self.view_is) (put_placed (entries_of c.self.inside.values.items c.self.inside.set.pairs c.self.inside.spans.items) c.args.ty c.args.id c.in-Some.place c.args.values.now at) in
    on_ok_is c.put.result _ _ _ same c.put.ensures.ok

pub returns-in-None-clause-ok : goal.returns-in-None-clause-ok
returns-in-None-clause-ok g c =
    let none : has_pair c.args.self.now.entries c.args.ty c.args.id ≡ false
    = rw (← c.self.view_is)
    (shown_pair c.self.inside.values.items c.self.inside.set.pairs c.self.inside.spans.items c.args.ty c.args.id c.self.invariant.all
    ∙ none_placed 0 c.self.inside.set.pairs c.args.ty c.args.id (sym c.place.ensures.place ∙ c.in-None.is)) in
    on_ok_is c.add.result _ _ _ (with_new c.args.self.now.entries c.args.ty c.args.id c.args.values.now none) c.add.ensures.ok

pub returns-in-Some-clause-greatest : goal.returns-in-Some-clause-greatest
returns-in-Some-clause-greatest g c = greatest_so c.put.result c.put.new.self.entries c.args.self.now.entries c.args.ty c.args.id c.args.values.now (returns-in-Some-clause-ok g c)

pub returns-in-None-clause-greatest : goal.returns-in-None-clause-greatest
returns-in-None-clause-greatest g c = greatest_so c.add.result c.add.new.self.entries c.args.self.now.entries c.args.ty c.args.id c.args.values.now (returns-in-None-clause-ok g c)
