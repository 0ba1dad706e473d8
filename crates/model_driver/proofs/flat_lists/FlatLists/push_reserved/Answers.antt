use Rattle.std.proofs.Common.{◌≡◌, ◌++◌, ap, arith, length}
use Rattle.model_driver.specs.Flat.{FlatState}
use Rattle.model_driver.proofs.Flats.{cut_pushed, ends_pushed, length_cut}
use Rattle.model_driver.proofs.flat_lists.FlatLists.push_reserved.Goals as goal

pub invariant_of-self : goal.invariant_of-self
invariant_of-self g c =
    let items : c.extend_from_slice.new.self.items ≡ c.self.inside.items.items ++ c.args.list.now = rw c.unwrap.ensures at c.extend_from_slice.ensures.items in
    let end : c.len.result ≡ length c.extend_from_slice.new.self.items = omega (arith, c.len.ensures, c.extend_from_slice.new.self.ok.0) in
    ends_pushed c.self.inside.ends.items c.push_reserved.new.self.items c.self.inside.items.items c.extend_from_slice.new.self.items c.args.list.now c.len.result c.self.invariant items c.push_reserved.ensures.items end

pub returns-clause-lists : goal.returns-clause-lists
returns-clause-lists g c =
    let items : c.extend_from_slice.new.self.items ≡ c.self.inside.items.items ++ c.args.list.now = rw c.unwrap.ensures at c.extend_from_slice.ensures.items in
    let end : c.len.result ≡ length c.extend_from_slice.new.self.items = omega (arith, c.len.ensures, c.extend_from_slice.new.self.ok.0) in
    cut_pushed c.self.inside.ends.items c.push_reserved.new.self.items c.self.inside.items.items c.extend_from_slice.new.self.items c.args.list.now c.len.result c.args.self.now.lists c.self.invariant items c.push_reserved.ensures.items end
    (ap (λ (f : FlatState _). f.lists) c.self.view_is)

pub returns-clause-room : goal.returns-clause-room
returns-clause-room g c =
    omega (arith, rw c.unwrap.ensures at c.extend_from_slice.ensures.len, c.extend_from_slice.ensures.capacity, ap (λ (f : FlatState _). f.room) c.self.view_is)

pub returns-clause-few : goal.returns-clause-few
returns-clause-few g c =
    omega (arith, length_cut 0 c.push_reserved.new.self.items c.extend_from_slice.new.self.items, c.push_reserved.new.self.ok.0, c.push_reserved.new.self.ok.1, c.push_reserved.new.self.small)
