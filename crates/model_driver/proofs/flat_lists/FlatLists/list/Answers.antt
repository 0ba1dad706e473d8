use Rattle.std.proofs.Common.{ap}
use Rattle.model_driver.specs.Flat.{FlatState}
use Rattle.model_driver.proofs.Flats.{list_seen, list_within}
use Rattle.model_driver.proofs.flat_lists.FlatLists.list.Goals as goal

pub part_of-requires-clause-place : goal.part_of-requires-clause-place
part_of-requires-clause-place g c =
    let w = list_within c.self.inside.ends.items c.self.inside.items.items c.args.self.now.lists c.args.i c.self.invariant (ap (λ (f : FlatState _). f.lists) c.self.view_is) c.requires in
    rw c.deref.ensures.value w.place

pub part_of-requires-clause-to : goal.part_of-requires-clause-to
part_of-requires-clause-to g c =
    let w = list_within c.self.inside.ends.items c.self.inside.items.items c.args.self.now.lists c.args.i c.self.invariant (ap (λ (f : FlatState _). f.lists) c.self.view_is) c.requires in
    rw c.deref.ensures.value w.bounds.to

pub part_of-requires-clause-end : goal.part_of-requires-clause-end
part_of-requires-clause-end g c =
    let w = list_within c.self.inside.ends.items c.self.inside.items.items c.args.self.now.lists c.args.i c.self.invariant (ap (λ (f : FlatState _). f.lists) c.self.view_is) c.requires in
    rw (c.deref.ensures.value, c.deref-2.ensures.value) w.bounds.end

pub returns : goal.returns
returns g c =
    list_seen c.self.inside.ends.items c.deref.result.now c.self.inside.items.items c.deref-2.result.now c.part_of.result.now c.args.self.now.lists c.args.i c.self.invariant (ap (λ (f : FlatState _). f.lists) c.self.view_is) c.requires c.deref.ensures.value
    c.deref-2.ensures.value c.part_of.ensures
