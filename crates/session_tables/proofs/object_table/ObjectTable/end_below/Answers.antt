use Rattle.std.proofs.Common.{◌≡◌, ◌∙◌, ◌≤◌, ◌-◌, ℕ, List, [], ap, arith, length, min, sym, subst, unwrap_or, vec_capacity}
use Rattle.std.proofs.Math.Nat.{le_trans}
use Rattle.std.specs.Prelude.{Option}
use Rattle.object_model.specs.declared.Object.{Object}
use Rattle.object_model.specs.Objects.{is_in}
use Rattle.object_model.specs.History.{owners_in}
use Rattle.session_tables.specs.declared.owned_lists.OwnedNode.{OwnedNode}
use Rattle.session_tables.specs.Lined.{AreLeft, AreLined, ObjectsState}
use Rattle.session_tables.specs.Owned.{objects_from, head_in, listed_in}
use Rattle.session_tables.specs.Placed.{table_room}
use Rattle.session_tables.proofs.Listing.{chained_fewer, heads_fewer, left_below, left_unlisted, listed_left, others_stay, room_heads}
use Rattle.session_tables.proofs.object_table.ObjectTable.end_below.Goals as goal

pub invariant_of-self : goal.invariant_of-self
invariant_of-self c =
    let bs = c.self.inside.births.births in
    let lists = c.self.inside.lists in
    let nodes = lists.nodes.items in
    let lined : AreLined bs = subst (λ (s : ObjectsState). AreLined s.births) (sym c.self.view_is) c.requires in
    let head : head_in lists.heads c.args.named ≡ c.in-Some.head = ap (λ (h : Option ℕ). unwrap_or h 0) (sym c.in-Some.ensures.value) in
    let listed : listed_in lists c.args.named ≡ objects_from c.deref.result.now c.in-Some.head = ap (objects_from nodes) head ∙ ap (λ (ns : List OwnedNode). objects_from ns c.in-Some.head) (sym c.deref.ensures.value) in
    let left = left_below bs c.end_each.new.births.births (listed_in lists) (objects_from c.deref.result.now c.in-Some.head) c.args.named c.self.invariant.1 listed c.end_each.ensures.left in (
      chained_fewer lists.heads c.end_each.new.heads nodes c.self.invariant.0 c.end_each.ensures.placed (λ w. omega (arith, c.end_each.ensures.fewer w, heads_fewer lists.heads c.remove.new.self c.args.named c.in-Some.ensures.left w)),
      listed_left bs c.end_each.new.births.births (listed_in lists) (λ (w : Object). objects_from nodes (head_in c.end_each.new.heads w)) c.args.named lined c.self.invariant.1 left
          (λ w apart below. ap (objects_from nodes) (c.end_each.ensures.heads w below ∙ others_stay lists.heads c.remove.new.self c.args.named c.in-Some.ensures.left w apart)),
    )

pub invariant_of-self-in_default : goal.invariant_of-self-in_default
invariant_of-self-in_default c =
    let bs = c.self.inside.births.births in
    let lists = c.self.inside.lists in
    let nodes = lists.nodes.items in
    let lined : AreLined bs = subst (λ (s : ObjectsState). AreLined s.births) (sym c.self.view_is) c.requires in
    let listed : listed_in lists c.args.named ≡ [] = ap (λ (h : Option ℕ). objects_from nodes (unwrap_or h 0)) (sym c.remove.ensures.value ∙ c.in_default.is) in
    let left = left_unlisted bs (listed_in lists) c.args.named c.self.invariant.1 listed in (
      chained_fewer lists.heads c.remove.new.self nodes c.self.invariant.0 c.remove.ensures.placed (heads_fewer lists.heads c.remove.new.self c.args.named c.remove.ensures.left),
      listed_left bs bs (listed_in lists) (λ (w : Object). objects_from nodes (head_in c.remove.new.self w)) c.args.named lined c.self.invariant.1 left (λ w apart below. ap (objects_from nodes) (others_stay lists.heads c.remove.new.self c.args.named c.remove.ensures.left w apart)),
    )

pub returns-in-Some-clause-left : goal.returns-in-Some-clause-left
returns-in-Some-clause-left c =
    let bs = c.self.inside.births.births in
    let lists = c.self.inside.lists in
    let head : head_in lists.heads c.args.named ≡ c.in-Some.head = ap (λ (h : Option ℕ). unwrap_or h 0) (sym c.in-Some.ensures.value) in
    let listed : listed_in lists c.args.named ≡ objects_from c.deref.result.now c.in-Some.head = ap (objects_from lists.nodes.items) head ∙ ap (λ (ns : List OwnedNode). objects_from ns c.in-Some.head) (sym c.deref.ensures.value) in
    subst (λ (s : ObjectsState). AreLeft s.births (λ o. is_in (owners_in s.births o) c.args.named) c.end_each.new.births.births) c.self.view_is
    (left_below bs c.end_each.new.births.births (listed_in lists) (objects_from c.deref.result.now c.in-Some.head) c.args.named c.self.invariant.1 listed c.end_each.ensures.left)

pub returns-in_default-clause-left : goal.returns-in_default-clause-left
returns-in_default-clause-left c =
    let bs = c.self.inside.births.births in
    let lists = c.self.inside.lists in
    let listed : listed_in lists c.args.named ≡ [] = ap (λ (h : Option ℕ). objects_from lists.nodes.items (unwrap_or h 0)) (sym c.remove.ensures.value ∙ c.in_default.is) in
    subst (λ (s : ObjectsState). AreLeft s.births (λ o. is_in (owners_in s.births o) c.args.named) bs) c.self.view_is (left_unlisted bs (listed_in lists) c.args.named c.self.invariant.1 listed)

pub returns-in-Some-clause-spare : goal.returns-in-Some-clause-spare
returns-in-Some-clause-spare c = subst (λ (s : ObjectsState). s.spare ≤ c.end_each.new.births.spare) c.self.view_is c.end_each.ensures.spare

pub returns-in-Some-clause-links : goal.returns-in-Some-clause-links
returns-in-Some-clause-links c =
    let lists = c.self.inside.lists in
    let nodes : ℕ = min (vec_capacity lists.nodes) 4294967295 - length lists.nodes.items in
    let room : table_room lists.heads ≤ table_room c.end_each.new.heads = le_trans c.in-Some.ensures.room c.end_each.ensures.room in
    subst (λ (s : ObjectsState). s.links ≤ min nodes (table_room c.end_each.new.heads)) c.self.view_is (room_heads nodes (table_room lists.heads) (table_room c.end_each.new.heads) room)

pub returns-in_default-clause-links : goal.returns-in_default-clause-links
returns-in_default-clause-links c =
    let lists = c.self.inside.lists in
    let nodes : ℕ = min (vec_capacity lists.nodes) 4294967295 - length lists.nodes.items in
    subst (λ (s : ObjectsState). s.links ≤ min nodes (table_room c.remove.new.self)) c.self.view_is (room_heads nodes (table_room lists.heads) (table_room c.remove.new.self) c.remove.ensures.room)
