use Rattle.std.proofs.Common.{◌≡◌, ◌≤◌, ◌<◌, ◌+◌, ◌∙◌, ◌∷◌, [], ℕ, ap, arith, length, length-append, subst, sym, vec_capacity}
use Rattle.object_model.specs.Objects.{is_in}
use Rattle.session_tables.specs.declared.owned_lists.OwnedNode.{OwnedNode}
use Rattle.session_tables.specs.Owned.{objects_from, head_in, lists_room}
use Rattle.session_tables.specs.Placed.{table_room}
use Rattle.session_tables.proofs.Listing.{chained_more, chained_stray, never, one_more, put_stays, room_more, room_still, room_there}
use Rattle.session_tables.proofs.owned_lists.list_owned.Goals as goal

pub returns-in_err-set_head-clause-stays : goal.returns-in_err-set_head-clause-stays
returns-in_err-set_head-clause-stays c = λ w o is.
    let lists = c.args.lists.now in
    let e : OwnedNode = record { object = c.args.object; before = c.head_of-before.result } in
    let low : e.before ≤ length lists.nodes.items = subst (λ (k : ℕ). k ≤ length lists.nodes.items) (sym c.head_of-before.ensures) (c.requires.within c.args.owner) in
    ap (λ xs. is_in xs o) ((chained_stray lists.heads c.set_head.new.heads lists.nodes.items c.push.new.self.items e c.requires c.in_err-set_head.ensures.placed c.in_ok-push.ensures.items low c.in_err-set_head.ensures.err).1 w) ∙ is

pub returns-in_err-set_head-clause-chained : goal.returns-in_err-set_head-clause-chained
returns-in_err-set_head-clause-chained c =
    let lists = c.args.lists.now in
    let e : OwnedNode = record { object = c.args.object; before = c.head_of-before.result } in
    let low : e.before ≤ length lists.nodes.items = subst (λ (k : ℕ). k ≤ length lists.nodes.items) (sym c.head_of-before.ensures) (c.requires.within c.args.owner) in
    (chained_stray lists.heads c.set_head.new.heads lists.nodes.items c.push.new.self.items e c.requires c.in_err-set_head.ensures.placed c.in_ok-push.ensures.items low c.in_err-set_head.ensures.err).0

pub returns-clause-ok : goal.returns-clause-ok
returns-clause-ok c =
    let lists = c.args.lists.now in
    let e : OwnedNode = record { object = c.args.object; before = c.head_of-before.result } in
    let at : c.in_ok-link.link ≡ length lists.nodes.items + 1 = omega (arith, c.in_ok-link.ensures.ok, c.len.ensures, lists.nodes.ok.0) in
    let put = chained_more lists.heads c.set_head.new.heads lists.nodes.items c.push.new.self.items e c.args.owner c.in_ok-link.link c.requires c.in_ok-set_head.ensures.placed c.in_ok-push.ensures.items c.head_of-before.ensures at c.in_ok-set_head.ensures.ok in
    (put_stays (λ w. objects_from lists.nodes.items (head_in lists.heads w)) (λ w. objects_from c.push.new.self.items (head_in c.set_head.new.heads w)) c.args.owner c.args.object put.1).1

pub returns-clause-stays : goal.returns-clause-stays
returns-clause-stays c =
    let lists = c.args.lists.now in
    let e : OwnedNode = record { object = c.args.object; before = c.head_of-before.result } in
    let at : c.in_ok-link.link ≡ length lists.nodes.items + 1 = omega (arith, c.in_ok-link.ensures.ok, c.len.ensures, lists.nodes.ok.0) in
    let put = chained_more lists.heads c.set_head.new.heads lists.nodes.items c.push.new.self.items e c.args.owner c.in_ok-link.link c.requires c.in_ok-set_head.ensures.placed c.in_ok-push.ensures.items c.head_of-before.ensures at c.in_ok-set_head.ensures.ok in
    (put_stays (λ w. objects_from lists.nodes.items (head_in lists.heads w)) (λ w. objects_from c.push.new.self.items (head_in c.set_head.new.heads w)) c.args.owner c.args.object put.1).0

pub returns-clause-chained : goal.returns-clause-chained
returns-clause-chained c =
    let lists = c.args.lists.now in
    let e : OwnedNode = record { object = c.args.object; before = c.head_of-before.result } in
    let at : c.in_ok-link.link ≡ length lists.nodes.items + 1 = omega (arith, c.in_ok-link.ensures.ok, c.len.ensures, lists.nodes.ok.0) in
    (chained_more lists.heads c.set_head.new.heads lists.nodes.items c.push.new.self.items e c.args.owner c.in_ok-link.link c.requires c.in_ok-set_head.ensures.placed c.in_ok-push.ensures.items c.head_of-before.ensures at c.in_ok-set_head.ensures.ok).0

pub returns-in_err-link-clause-succeeds : goal.returns-in_err-link-clause-succeeds
returns-in_err-link-clause-succeeds c = λ room.
    let lists = c.args.lists.now in
    let there = room_there (vec_capacity lists.nodes) (length lists.nodes.items) (table_room lists.heads) room in
    let less : c.len.result < 4294967295 = omega (arith, there.0) in
    never (c.in_err-link.ensures.succeeds less)

pub returns-in_err-link-clause-room : goal.returns-in_err-link-clause-room
returns-in_err-link-clause-room c = one_more (lists_room c.args.lists.now)

pub returns-in_err-push-clause-succeeds : goal.returns-in_err-push-clause-succeeds
returns-in_err-push-clause-succeeds c = λ room.
    let lists = c.args.lists.now in
    let there = room_there (vec_capacity lists.nodes) (length lists.nodes.items) (table_room lists.heads) room in
    absurd (omega (arith, there.1, c.in_err-push.ensures.full, lists.nodes.ok.0))

pub returns-in_err-push-clause-room : goal.returns-in_err-push-clause-room
returns-in_err-push-clause-room c =
    let lists = c.args.lists.now in
    room_still (vec_capacity lists.nodes) (vec_capacity c.push.new.self) (length lists.nodes.items) (length c.push.new.self.items) (table_room lists.heads) c.in_err-push.ensures.capacity (ap length c.in_err-push.ensures.items)

pub returns-in_err-set_head-clause-succeeds : goal.returns-in_err-set_head-clause-succeeds
returns-in_err-set_head-clause-succeeds c = λ room.
    let lists = c.args.lists.now in
    never (c.in_err-set_head.ensures.succeeds (room_there (vec_capacity lists.nodes) (length lists.nodes.items) (table_room lists.heads) room).2)

pub returns-in_err-set_head-clause-room : goal.returns-in_err-set_head-clause-room
returns-in_err-set_head-clause-room c =
    let lists = c.args.lists.now in
    let e : OwnedNode = record { object = c.args.object; before = c.head_of-before.result } in
    room_more (vec_capacity lists.nodes) (vec_capacity c.push.new.self) (length lists.nodes.items) (length c.push.new.self.items) (table_room lists.heads) (table_room c.set_head.new.heads) c.in_ok-push.ensures.capacity
    (ap length c.in_ok-push.ensures.items ∙ length-append lists.nodes.items (e ∷ [])) c.in_err-set_head.ensures.room

pub returns-clause-room : goal.returns-clause-room
returns-clause-room c =
    let lists = c.args.lists.now in
    let e : OwnedNode = record { object = c.args.object; before = c.head_of-before.result } in
    room_more (vec_capacity lists.nodes) (vec_capacity c.push.new.self) (length lists.nodes.items) (length c.push.new.self.items) (table_room lists.heads) (table_room c.set_head.new.heads) c.in_ok-push.ensures.capacity
    (ap length c.in_ok-push.ensures.items ∙ length-append lists.nodes.items (e ∷ [])) c.in_ok-set_head.ensures.room
